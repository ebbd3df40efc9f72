-- `peeling::peel::open_missing` meets its contract.
-- Assumes nothing.
use Rattle.std.proofs.Common.{refl, arith}
use Rattle.peeling.proofs.OpenLaws.{opening-more}
use Rattle.peeling.proofs.peel.open_missing.Goals as goal

pub loop-x-preserved : goal.loop-x-preserved
loop-x-preserved c = opening-more _ c.loop-x.invariant (omega arith) c.kind_of.ensures refl refl
