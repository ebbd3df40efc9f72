-- `tiles::lengths::sum_rows` meets its contract: the sum goes up to the largest number, and with the rows of the lengths to come it says what all do.
-- Assumes nothing.
use mathlib.Core.Path.{◌≡◌}
use Prim.Native.Nat.{◌+◌, ◌≤◌}
use lib.ListN.{drop}
use Rattle.tiles.specs.Pack.{rows_needed, largest, capped}
use Rattle.tiles.proofs.lengths.sum_rows.Given as goal

abbrev pub invariant-loop-len : goal.invariant-loop-len
invariant-loop-len l = (l.sum ≤ largest) × (capped (l.sum + rows_needed l.room (drop l.len-index l.lengths)) ≡ capped (rows_needed l.room l.lengths))
