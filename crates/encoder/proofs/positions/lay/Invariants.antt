-- `encoder::positions::lay` meets its contract: the entries of r classes are counted.
-- Assumes nothing.
use Rattle.encoder.specs.inner.Positions.{Counted}
use Rattle.encoder.proofs.positions.lay.Given as goal

abbrev pub invariant-loop-r : goal.invariant-loop-r
invariant-loop-r l = Counted l.s l.r l.table
