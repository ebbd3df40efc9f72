-- `tiles::rows::Width::put_tile` meets its contract: before each turn, the rows that are left are those of the bytes that are left.
-- Assumes nothing.
use mathlib.Core.Path.{◌≡◌}
use Prim.Native.Nat.{◌+◌, ◌*◌, ◌≤◌}
use lib.ListN.{length}
use Rattle.tiles.specs.Rows.{room_of, joined}
use Rattle.tiles.specs.Pack.{rows_of, tile_rows}
use Rattle.tiles.specs.inner.Steps.{Appending}
use Rattle.tiles.proofs.rows.Width.put_tile.Given as goal

abbrev pub invariant-loop-left : goal.invariant-loop-left
invariant-loop-left l = (length l.out ≡ length l.initial.out) × (l.lwc + rows_of (room_of l.self.w) (length l.left) ≡ l.initial.lwc + rows_of (room_of l.self.w) (length l.tile))
    × (l.at + rows_of (room_of l.self.w) (length l.left) * l.self.w ≤ length l.initial.out)
    × Appending l.initial.out l.out l.initial.at l.at (joined (tile_rows l.self.w l.initial.lwc (rows_of (room_of l.self.w) (length l.tile)) l.tile)) (joined (tile_rows l.self.w l.lwc (rows_of (room_of l.self.w) (length l.left)) l.left))

abbrev pub decreases-loop-left : goal.decreases-loop-left
decreases-loop-left l = length l.left
