-- `tiles::rows::Width::put_row` meets its contract: next, count, tile bytes and padding, one after the other.
-- Assumes nothing.
use mathlib.Core.Path.{◌≡◌, ap}
use mathlib.Core.List.{List, ◌++◌}
use Prim.Native.Nat.{ℕ, ◌+◌, ◌-◌}
use native.Mathlib.Omega.{arith}
use lib.ListN.{length, replicate}
use Rattle.wire.specs.Bytes.{two_bytes}
use Rattle.wire.proofs.AppendedLaws.{then_appended}
use Rattle.tiles.specs.Rows.{room_of, zero_padded, row_bytes}
use Rattle.tiles.proofs.AppendingLaws.{appended-same}
use Rattle.tiles.proofs.rows.Width.put_row.Goals as goal

-- the row, as it is put: so many bytes of padding
row_is : (w next padding : ℕ) (part : List ℕ) → padding ≡ room_of w - length part
    → ((two_bytes next ++ two_bytes (length part)) ++ part) ++ replicate padding 0 ≡ row_bytes w next part
unfolding row_bytes zero_padded
row_is w next padding part h = ap (λ (k : ℕ). two_bytes next ++ two_bytes (length part) ++ part ++ replicate k 0) h

pub returns : goal.returns
returns c =
    let a = c.args in
    let n = then_appended c.pair-count.ensures c.pair-from.ensures in
    let z : a.at + a.self.w - c.copy_part-to.result ≡ room_of a.self.w - length a.part.now = omega (arith, n.to, c.copy_part-to.ensures.to, a.self.wide.least, c.requires.part) in
    appended-same (row_is a.self.w a.next _ a.part.now z) (then_appended (then_appended n c.copy_part-to.ensures) c.put_zeros.ensures)
