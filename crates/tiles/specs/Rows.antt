-- Document 02, job 3: a row. It is an information symbol of W bytes: the LWC of the row in which its tile goes on (next) and the count of its tile
-- bytes, two bytes each, big-endian; then W - 4 payload bytes, the tile bytes padded with zeros.
-- Assumes nothing.
use Rattle.std.specs.Prelude.{Bool, List, [], ◌∷◌, ◌++◌, ℕ, ◌-◌, ltb, length, take, drop, replicate}
use Rattle.wire.specs.Bytes.{pair_at, two_bytes}
use Rattle.ccsds.specs.Tables.{code_of}
use Rattle.ccsds.specs.Fill.{wrong_fill}
use Rattle.ccsds.specs.RefusalTable.{number_of}
use Rattle.ccsds.specs.RefusalTable as refusal
use Rattle.ccsds.specs.Refusals.{wrong_code, wrong_width}
use Rattle.tiles.specs.PackRefusals.{Numbered}

-- the payload bytes of a row
abbrev pub room_of : ℕ → ℕ
room_of w = w - 4

-- ---- written

-- a list with zeros behind it, up to n elements
unfoldable pub zero_padded : ℕ → List ℕ → List ℕ
zero_padded n l = l ++ replicate (n - length l) 0

-- the row of these tile bytes
unfoldable pub row_bytes : ℕ → ℕ → List ℕ → List ℕ
row_bytes w next part = two_bytes next ++ two_bytes (length part) ++ zero_padded (room_of w) part

-- a row that is not used
abbrev pub zero_row : ℕ → List ℕ
zero_row w = replicate w 0

-- lists one after the other
unfoldable pub joined : List (List ℕ) → List ℕ
joined [] = []
joined (l ∷ ls) = l ++ joined ls

-- ---- read: of a row's bytes

abbrev pub next_of : List ℕ → ℕ
next_of row = pair_at row 0

abbrev pub count_of : List ℕ → ℕ
count_of row = pair_at row 2

-- its tile bytes, and what stands behind them
unfoldable pub part_of : List ℕ → List ℕ
part_of row = take (count_of row) (drop 4 row)

-- ---- refusals

-- 15, narrow
unfoldable pub narrow : ℕ → Bool
narrow w = ltb w 5

-- 1, 2, 15 and 13: of a code's number, a width and a fill
abbrev pub row_conditions : ℕ → ℕ → ℕ → Numbered
row_conditions number w fill =
    (number_of refusal.code, wrong_code number)
    ∷ (number_of refusal.width, wrong_width w)
    ∷ (15, narrow w)
    ∷ (number_of refusal.fill, wrong_fill (code_of number).k fill)
    ∷ []
