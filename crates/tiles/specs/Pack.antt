-- Document 02, job 3: packing tiles, given by their joined bytes and their lengths, into the rows of a block's information symbols.
-- Assumes nothing.
use Rattle.std.specs.Prelude.{Result, Ok, Err, Bool, false, cond, not, ◌||◌, List, [], ◌∷◌, ◌++◌, ℕ, zero, suc, ◌+◌, ◌-◌, ◌*◌, ◌/◌, eqb, ltb, take, drop, replicate}
use Rattle.ccsds.specs.RefusalTable.{number_of}
use Rattle.ccsds.specs.RefusalTable as refusal
use Rattle.ccsds.specs.declared.refusal.Refusal as Answer
use Rattle.ccsds.specs.Refusals.{wrong_width, wrong_length, Outcome, refused, answered, refusal_number}
use Rattle.tiles.specs.PackRefusals.{first_listed}
use Rattle.tiles.specs.Rows.{room_of, row_bytes, zero_row, joined, narrow, row_conditions}

-- ---- how many rows

-- those of a tile of so many bytes: its bytes / (W - 4), rounded up
unfoldable pub rows_of : ℕ → ℕ → ℕ
rows_of room len = (len + (room - 1)) / room

-- the rows needed: those of tiles of these lengths
unfoldable pub rows_needed : ℕ → List ℕ → ℕ
rows_needed room [] = 0
rows_needed room (len ∷ lens) = rows_of room len + rows_needed room lens

-- ---- the rows

-- n full rows of a tile and its last one, from this LWC on. The full ones have the LWC of the following row, and the last one has 0.
unfoldable pub chain_rows : ℕ → ℕ → ℕ → List ℕ → List (List ℕ)
chain_rows w lwc zero tile = row_bytes w 0 tile ∷ []
chain_rows w lwc (suc n) tile = row_bytes w (lwc + 1) (take (room_of w) tile) ∷ chain_rows w (lwc + 1) n (drop (room_of w) tile)

-- the rows of a tile, so many of them
unfoldable pub tile_rows : ℕ → ℕ → ℕ → List ℕ → List (List ℕ)
tile_rows w lwc zero tile = []
tile_rows w lwc (suc n) tile = chain_rows w lwc n tile

-- the rows of the tiles of these lengths, from this LWC on, in order: each tile begins a row of its own
unfoldable pub tiles_rows : ℕ → ℕ → List ℕ → List ℕ → List (List ℕ)
tiles_rows w lwc bytes [] = []
tiles_rows w lwc bytes (len ∷ lens) =
    tile_rows w lwc (rows_of (room_of w) len) (take len bytes) ++ tiles_rows w (lwc + rows_of (room_of w) len) (drop len bytes) lens

-- fill rows: those of the tiles, and the unused ones
unfoldable pub pack_rows : ℕ → ℕ → List ℕ → List ℕ → List (List ℕ)
pack_rows w fill bytes lengths = tiles_rows w 1 bytes lengths ++ replicate (fill - rows_needed (room_of w) lengths) (zero_row w)

-- the output
unfoldable pub pack_of : ℕ → ℕ → List ℕ → List ℕ → List ℕ
pack_of w fill bytes lengths = joined (pack_rows w fill bytes lengths)

-- ---- refusals

-- the sum of the lengths
unfoldable pub total : List ℕ → ℕ
total [] = 0
total (len ∷ lens) = len + total lens

unfoldable pub some_zero : List ℕ → Bool
some_zero [] = false
some_zero (len ∷ lens) = eqb len 0 || some_zero lens

-- 16, tiles: a length is 0, or the lengths don't add up to so many bytes
unfoldable pub wrong_tiles : List ℕ → ℕ → Bool
wrong_tiles lengths bytes = some_zero lengths || not (eqb (total lengths) bytes)

-- 17, overfull: the rows needed are more than fill
unfoldable pub overfull : ℕ → List ℕ → ℕ → Bool
overfull room lengths fill = ltb fill (rows_needed room lengths)

-- the number of the refusal, or 0: of a code's number, a width, a fill, so many bytes, the lengths, and the length of the output
unfoldable pub pack_refusal : ℕ → ℕ → ℕ → ℕ → List ℕ → ℕ → ℕ
pack_refusal number w fill bytes lengths outLength =
    first_listed (
    row_conditions number w fill
    ++ (number_of refusal.length, wrong_length outLength (fill * w))
    ∷ (16, wrong_tiles lengths bytes)
    ∷ (17, overfull (room_of w) lengths fill)
    ∷ []
    )

-- the cases of pack's answer in the paper's words
abbrev pub packed_as : Result Unit Answer.Refusal → Outcome Unit
packed_as (Ok a) = answered tt
packed_as (Err r) = refused (refusal_number r)

-- ---- for planners

-- the largest number that an answer can be
abbrev pub largest : ℕ
largest = 18446744073709551615

unfoldable pub capped : ℕ → ℕ
capped n = cond (ltb largest n) largest n

-- how many rows tiles of these lengths need: 0 for a width that pack refuses, and the largest number where they are more
unfoldable pub rows_told : ℕ → List ℕ → ℕ
rows_told w lengths = cond (wrong_width w || narrow w) 0 (capped (rows_needed (room_of w) lengths))
