-- `elimination::system::System::set_singleton` meets its contract: where it writes, it does what the pivot step would do.
-- Assumes nothing.
use native.Mathlib.Omega.{arith}
use native.Mathlib.Nat.{zero-add}
use Prim.Native.Nat.{ℕ, ◌+◌, ◌/◌, ◌%◌}
use mathlib.Core.Path.{◌≡◌, refl, sym, ap, ◌∙◌}
use mathlib.Core.Bool.{false}
use mathlib.Core.List.{[]}
use lib.ListN.{get_or, set}
use Rattle.elimination.specs.Bits.{test_bit, row_bit}
use Rattle.elimination.specs.Reduced.{pivot_at}
use Rattle.elimination.proofs.SharedUnknownsLaws.{singleton_step}
use Rattle.elimination.proofs.SystemLaws.{coefficients_pivot_set, coefficients_same}
use Rattle.elimination.proofs.PivotStepLaws.{step_where}
use Rattle.elimination.proofs.system.System.set_singleton.Goals as goal

pub returns-then-has_unknown : goal.returns-then-has_unknown
unfolding row_bit
returns-then-has_unknown c =
    let a = c.args.self.now in
    let s = a.shape in
    let l = a.rows.now in
    let masks = c.args.masks.now in
    let r = c.args.step.row in
    let p = c.args.step.pivot in
    let off : test_bit (get_or masks (p / 64) 0) (p % 64) ≡ false =
    ap (λ (x : ℕ). test_bit (get_or masks x 0) (p % 64)) (sym (zero-add (p / 64))) ∙ sym c.bit_at.ensures ∙ c.if-not-bit_at.true in
    let step = singleton_step masks l s.rows s.words r p c.if-r-s.true (omega arith) c.requires.shared_masks off (sym c.has_unknown.ensures ∙ c.if-has_unknown.true) [] 0 in
    let same = coefficients_pivot_set l s.words r (p + 1) in
    record {
      kept = record { buffers = record { rows = refl; rhs = refl; shape = refl }; same = coefficients_same _ _ _ _ _ _ same };
      same_coefficients = same;
      same_rhs = refl;
      reduced_where_after = step_where l [] (set l (pivot_at s.words r) (p + 1)) [] s.rows s.words 0 r step c.if-r-s.true a.fits.in_rows.within (omega arith) c.args.done.now c.requires.reduced_where;
    }
