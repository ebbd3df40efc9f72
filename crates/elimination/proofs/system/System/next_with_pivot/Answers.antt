-- `elimination::system::System::next_with_pivot` meets its contract. The invariant: no row passed has the pivot.
-- Assumes nothing.
use mathlib.Core.Path.{sym, ◌∙◌}
use Rattle.elimination.proofs.ColumnLaws.{has_pivot_own, has_pivot_other, between_more}
use Rattle.elimination.proofs.system.System.next_with_pivot.Goals as goal
use Rattle.elimination.proofs.system.System.next_with_pivot.Goals.{else-k-r-via-then-k-r+else-bit_at, else-k-r-via-else-k-r}

pub returns-then-bit_at : goal.returns-then-bit_at
returns-then-bit_at c = (c.loop-k.auto.k, (c.loop-k-test.true, (has_pivot_other _ _ _ _ _ c.if-k-r.true ∙ sym c.bit_at.ensures ∙ c.if-bit_at.true, c.loop-k.invariant)))

pub loop-k-preserved : goal.loop-k-preserved
loop-k-preserved c = between_more _ _ _ c.loop-k.invariant
    (elim c.else-k-r.branch [ else-k-r-via-then-k-r+else-bit_at w ↦ has_pivot_other _ _ _ _ _ w.if-k-r.true ∙ sym w.bit_at.ensures ∙ w.if-bit_at.false | else-k-r-via-else-k-r w ↦ has_pivot_own _ _ _ _ _ w.if-k-r.false ])
