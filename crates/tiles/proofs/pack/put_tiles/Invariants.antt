-- `tiles::pack::put_tiles` meets its contract: before each turn, the rows that are left are those of the tiles that are left.
-- Assumes nothing.
use mathlib.Core.Path.{◌≡◌}
use Prim.Native.Nat.{◌+◌, ◌*◌, ◌≤◌}
use lib.ListN.{length, drop}
use Rattle.tiles.specs.Rows.{room_of, joined}
use Rattle.tiles.specs.Pack.{rows_needed, total, tiles_rows}
use Rattle.tiles.specs.inner.Steps.{Appending}
use Rattle.tiles.proofs.pack.put_tiles.Given as goal

abbrev pub invariant-loop-len : goal.invariant-loop-len
invariant-loop-len l = (length l.out ≡ length l.initial.out) × (total (drop l.len-index l.lens) ≡ length l.left)
    × (l.p.lwc + rows_needed (room_of l.width.w) (drop l.len-index l.lens) ≤ 65535) × (l.p.at + rows_needed (room_of l.width.w) (drop l.len-index l.lens) * l.width.w ≤ length l.initial.out)
    × Appending l.initial.out l.out 0 l.p.at (joined (tiles_rows l.width.w 1 l.bytes l.lens)) (joined (tiles_rows l.width.w l.p.lwc l.left (drop l.len-index l.lens)))
