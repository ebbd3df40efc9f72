-- `elimination::system::System::back_substitute` meets its contract. The invariant: the rows for which `done` has true are reduced, and the solutions are those of the start.
-- Assumes nothing.
use Rattle.elimination.proofs.KeptLaws.{kept_trans}
use Rattle.elimination.proofs.system.System.back_substitute.Goals as goal

pub loop-step-preserved-then-r-self : goal.loop-step-preserved-then-r-self
loop-step-preserved-then-r-self c = let call = c.reduce_row.ensures in (call.reduced_where_after, kept_trans c.loop-step.invariant.1 call.kept)
