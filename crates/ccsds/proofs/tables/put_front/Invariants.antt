-- `ccsds::tables::put_front` meets its contract: after i turns, the first i elements stand in the array.
-- Assumes nothing.
use lib.ListN.{get_or}
use Rattle.algebra.proofs.Fronts.{Filled}
use Rattle.ccsds.specs.inner.Layout.{max_addresses}
use Rattle.ccsds.proofs.tables.put_front.Given as goal

abbrev pub invariant-loop-i : goal.invariant-loop-i
invariant-loop-i l = Filled (λ k. get_or l.xs k 0) max_addresses l.i l.flat
