-- `closing::states::Filled::set_marks` meets its contract: after i turns, the first i marks are set; then the idle ones are.
-- Assumes nothing.
use lib.Dec.{eqb}
use lib.ListN.{get_or}
use Rattle.algebra.proofs.Fronts.{Changed}
use Rattle.block.specs.Status.{status_by}
use Rattle.closing.specs.Close.{mark_after}
use Rattle.closing.proofs.states.Filled.set_marks.Given as goal

abbrev pub invariant-loop-i : goal.invariant-loop-i
invariant-loop-i l = Changed (λ j. mark_after (status_by (get_or l.initial.marks j 0)) (eqb (get_or l.states j 0) 2)) l.initial.marks l.marks l.i
