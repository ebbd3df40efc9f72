-- `tiles::rows::put_zeros` meets its contract: before turn i, the first i bytes of the part are 0.
-- Assumes nothing.
use mathlib.Core.Path.{◌≡◌}
use Prim.Native.Nat.{◌-◌}
use lib.ListN.{length, take, replicate}
use Rattle.tiles.proofs.rows.put_zeros.Given as goal

abbrev pub invariant-loop-b : goal.invariant-loop-b
invariant-loop-b l = (length l.b-items ≡ l.end - l.at) × (take l.b-index l.b-items ≡ replicate l.b-index 0)
