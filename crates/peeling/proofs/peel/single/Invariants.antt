-- `peeling::peel::single` meets its contract.
-- Assumes nothing.
use Rattle.peeling.proofs.OpenLaws.{Seen}
use Rattle.peeling.proofs.peel.single.Given as goal

abbrev pub invariant-loop-i : goal.invariant-loop-i
invariant-loop-i l = Seen l.plan l.xs l.i l.at l.found
