-- `peeling::peel::open_missing` meets its contract.
-- Assumes nothing.
use Rattle.peeling.proofs.OpenLaws.{Opening}
use Rattle.peeling.proofs.peel.open_missing.Given as goal

abbrev pub invariant-loop-x : goal.invariant-loop-x
invariant-loop-x l = Opening l.states l.plan l.x
