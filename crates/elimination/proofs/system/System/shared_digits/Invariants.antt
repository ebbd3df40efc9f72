-- `elimination::system::System::shared_digits` meets its contract. The invariant: the same of the first j rows.
-- Assumes nothing.
use Rattle.elimination.specs.SharedUnknowns.{SharedMask}
use Rattle.elimination.proofs.SharedUnknownsLaws.{SeenMask}
use Rattle.elimination.proofs.system.System.shared_digits.Given as goal

abbrev pub invariant-loop-j : goal.invariant-loop-j
invariant-loop-j l = SeenMask l.seen l.self.rows.now l.j l.s.words l.i × SharedMask l.shared l.self.rows.now l.j l.s.words l.i
