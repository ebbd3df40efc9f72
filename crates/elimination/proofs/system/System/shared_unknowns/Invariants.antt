-- `elimination::system::System::shared_unknowns` meets its contract. The invariant: the same of the first i words.
-- Assumes nothing.
use Rattle.elimination.specs.SharedUnknowns.{SharedMasks}
use Rattle.elimination.proofs.system.System.shared_unknowns.Given as goal

abbrev pub invariant-loop-i : goal.invariant-loop-i
invariant-loop-i l = SharedMasks l.masks l.self.rows.now l.self.shape.rows l.self.shape.words l.i
