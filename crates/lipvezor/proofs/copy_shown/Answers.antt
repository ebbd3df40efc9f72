-- `lipvezor::copy_shown` meets its contract: the shown part, which has W bytes, is copied to an output of W bytes.
-- Assumes nothing.
use mathlib.Core.Path.{◌≡◌, refl, sym, ap, ◌∙◌}
use native.Mathlib.Omega.{arith}
use lib.ListN.{length}
use Rattle.sending.specs.Show.{Slice}
use Rattle.ccsds.proofs.Refusals.{changed_by}
use Rattle.buffers.proofs.Put.{put-paste}
use Rattle.lipvezor.proofs.Copying.{copyable, shown_length, copied}
use Rattle.lipvezor.proofs.copy_shown.Goals as goal
use Rattle.lipvezor.proofs.copy_shown.Goals.{After-show-shown}

-- what is shown is as long as the output
fits : (c : After-show-shown) → length c.args.out.now ≡ length c.show-shown.result.now
fits c =
    let a = c.args in
    let b = a.b in
    let z = copyable _ _ _ _ _ _ _ (sym c.in_ok-check_copy.ensures) in
    z.1 ∙ sym (ap (λ (s : Slice). length s.bytes) c.show-shown.ensures ∙ shown_length b.code b.w b.fill a.info a.parity a.lwc z.0)

pub put_from-requires : goal.put_from-requires
put_from-requires c = let f = fits (goal.at.put_from-requires c).After-show-shown in (omega arith, omega arith)

pub returns-clause-output : goal.returns-clause-output
returns-clause-output c =
    let a = c.args in
    let e = (goal.at.returns-clause-output c).After-show-shown.in_ok-check_copy.ensures in
    let shown = ap (λ (s : Slice). s.bytes) c.show-shown.ensures in
    let f = fits (goal.at.returns-clause-output c).After-show-shown in
    copied a.out.now _ c.show-shown.result.now f (c.put_from.ensures ∙ put-paste a.out.now 0 c.show-shown.result.now _ (omega arith) (omega arith)) ∙ shown ∙ changed_by _ _ e refl _ a.out.now
