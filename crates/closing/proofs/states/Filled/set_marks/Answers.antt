-- `closing::states::Filled::set_marks` meets its contract: after i turns, the first i marks are set; then the idle ones are.
-- Assumes nothing.
use mathlib.Core.Path.{◌≡◌, refl, ◌∙◌}
use native.Mathlib.Omega.{arith}
use lib.Dec.{eqb}
use lib.ListN.{get_or}
use Rattle.closing.specs.Close.{mark_after}
use Rattle.closing.proofs.Idle.{idle, put_is, by-status}
use Prim.Native.Nat.{◌-◌}
use lib.ListN.{replicate}
use Rattle.std.proofs.Common.{rules}
use Rattle.closing.proofs.states.Filled.set_marks.Goals as goal

pub returns : goal.returns
returns c =
    let l = c.loop-i in
    let s = c.args.self in
    let e : c.fill.new.self ≡ replicate (s.k - s.block.fill) 0 = search rules in
    let P = put_is l.marks s.block.fill s.k 0 s.fill (omega (arith, c.requires.within, l.invariant.size)) e in
    record {
      size = P.size ∙ l.invariant.size;
      each = by-status (idle c.args.self c.requires.within) (λ i x. mark_after x (eqb (get_or c.args.states.now i 0) 2)) 0 (λ i. refl) c.args.marks.now l.invariant.size (λ i h. l.invariant.done i (omega arith)) P;
    }
