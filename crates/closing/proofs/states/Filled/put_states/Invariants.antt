-- `closing::states::Filled::put_states` meets its contract: after i turns, the first i positions are told by their marks; then the idle ones are.
-- Assumes nothing.
use mathlib.Core.Bool.{cond}
use lib.ListN.{length, get_or}
use Rattle.algebra.proofs.Fronts.{Filled}
use Rattle.block.specs.Status.{status_by}
use Rattle.closing.specs.Close.{is_known}
use Rattle.closing.proofs.states.Filled.put_states.Given as goal

abbrev pub invariant-loop-i : goal.invariant-loop-i
invariant-loop-i l = Filled (λ j. cond (is_known (status_by (get_or l.marks j 0))) 1 0) (length l.marks) l.i l.states
