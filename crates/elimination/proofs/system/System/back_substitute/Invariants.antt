-- `elimination::system::System::back_substitute` meets its contract. The invariant: the rows for which `done` has true are reduced, and the solutions are those of the start.
-- Assumes nothing.
use Rattle.elimination.specs.Kept.{Kept, ReducedAt}
use Rattle.elimination.proofs.system.System.back_substitute.Given as goal

abbrev pub invariant-loop-step : goal.invariant-loop-step
invariant-loop-step l = ReducedAt l.done l.self × Kept l.initial.self l.self
