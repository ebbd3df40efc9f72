-- `peeling::peel::next_open` meets its contract.
-- Assumes nothing.
use Rattle.peeling.specs.Peel.{NoneOpen}
use Rattle.peeling.proofs.peel.next_open.Given as goal

abbrev pub invariant-loop-x : goal.invariant-loop-x
invariant-loop-x l = NoneOpen l.plan l.from l.x
