-- What holds of everything that is packed: document 02, job 3, sentence by sentence. A row stands at the position of its symbol, which is its LWC - 1.
-- Assumes nothing.
use Rattle.std.specs.Prelude.{◌≡◌, cond, List, [], ◌∷◌, ◌++◌, ℕ, zero, suc, ◌+◌, ◌-◌, ◌*◌, ◌<◌, ◌≤◌, ltb, length, get_or, take, drop, replicate}
use Rattle.algebra.specs.Codeword.{symbol_at}
use Rattle.ccsds.specs.Tables.{code_of}
use Rattle.ccsds.specs.Refusals.{first_of, encoder_conditions}
use Rattle.tiles.specs.Rows.{room_of, row_bytes, zero_row, next_of, count_of, part_of}
use Rattle.tiles.specs.Pack.{rows_of, rows_needed, total, pack_of, pack_refusal}

-- ---- one row

-- what was written in a row is what is read in it; the row has W bytes, and zeros behind its tile bytes
abbrev pub RowReads : Type 0
RowReads =
    (w next : ℕ) (part : List ℕ) → 5 ≤ w → length part ≤ room_of w
    → (length (row_bytes w next part) ≡ w)
    × (next_of (row_bytes w next part) ≡ next)
    × (count_of (row_bytes w next part) ≡ length part)
    × (part_of (row_bytes w next part) ≡ part)
    × (drop (4 + length part) (row_bytes w next part) ≡ replicate (room_of w - length part) 0)

-- ---- the rows of one tile

-- the tile at index t: its bytes, and the position of its first row, which comes after the rows of the tiles before it
abbrev pub tile_at : List ℕ → List ℕ → ℕ → List ℕ
tile_at bytes lengths t = take (get_or lengths t 0) (drop (total (take t lengths)) bytes)

abbrev pub first_row : ℕ → List ℕ → ℕ → ℕ
first_row room lengths t = rows_needed room (take t lengths)

-- of row j of a tile of n rows, which has this LWC: the LWC of the following row while the tile goes on, and zero ends the chain
abbrev pub next_in : ℕ → ℕ → ℕ → ℕ
next_in n j lwc = cond (ltb (j + 1) n) (lwc + 1) 0

-- its tile bytes
abbrev pub part_in : ℕ → ℕ → List ℕ → List ℕ
part_in room j tile = take room (drop (j * room) tile)

-- a row of a tile of n rows: every row but the last is full, and no row is without tile bytes
pub record TileRow (w n j lwc : ℕ) (tile row : List ℕ) : Type 0 where
  pub bytes : row ≡ row_bytes w (next_in n j lwc) (part_in (room_of w) j tile)
  pub full : j + 1 < n → length (part_in (room_of w) j tile) ≡ room_of w
  pub some : 0 < length (part_in (room_of w) j tile)
  pub most : length (part_in (room_of w) j tile) ≤ room_of w

-- the tile bytes of n rows from position i on, joined
unfoldable pub parts_from : ℕ → List ℕ → ℕ → ℕ → List ℕ
parts_from w symbols i zero = []
parts_from w symbols i (suc n) = part_of (symbol_at w symbols i) ++ parts_from w symbols (i + 1) n

-- ---- the output

-- position i is that of a row of a tile: its index, and the number of the row
pub record InTile (room : ℕ) (lengths : List ℕ) (i : ℕ) : Type 0 where
  pub tile : ℕ
  pub row : ℕ
  pub tile-there : tile < length lengths
  pub row-there : row < rows_of room (get_or lengths tile 0)
  pub place : i ≡ first_row room lengths tile + row

pub record Packs (number w fill : ℕ) (bytes lengths out : List ℕ) : Type 0 where
  -- fill symbols of W bytes
  pub size : length out ≡ fill * w
  -- each tile's rows, in order, the first of them a row of its own
  pub rows : (t j : ℕ) → t < length lengths → j < rows_of (room_of w) (get_or lengths t 0)
      → let i = first_row (room_of w) lengths t + j in
      TileRow w (rows_of (room_of w) (get_or lengths t 0)) j (i + 1) (tile_at bytes lengths t) (symbol_at w out i)
  -- the rows that are used are those needed; they fit, and each of them is a tile's
  pub fits : rows_needed (room_of w) lengths ≤ fill
  pub used : (i : ℕ) → i < rows_needed (room_of w) lengths → InTile (room_of w) lengths i
  -- all others are all zero
  pub unused : (i : ℕ) → rows_needed (room_of w) lengths ≤ i → i < fill → symbol_at w out i ≡ zero_row w
  -- the tile bytes of a tile's rows, joined, are the tile, and those of all rows are the bytes
  pub tile-joined : (t : ℕ) → t < length lengths → parts_from w out (first_row (room_of w) lengths t) (rows_of (room_of w) (get_or lengths t 0)) ≡ tile_at bytes lengths t
  pub all_joined : parts_from w out 0 fill ≡ bytes
  -- it is an information part that encode takes for that code, W and fill
  pub information : first_of (encoder_conditions number w fill (length out) ((code_of number).m * w)) ≡ 0

-- for every call that is not refused
abbrev pub PacksAll : Type 0
PacksAll =
    (number w fill : ℕ) (bytes lengths : List ℕ) (outLength : ℕ) → pack_refusal number w fill (length bytes) lengths outLength ≡ 0
    → Packs number w fill bytes lengths (pack_of w fill bytes lengths)

-- no tiles: all zero
abbrev pub NoTiles : Type 0
NoTiles = (w fill : ℕ) → pack_of w fill [] [] ≡ replicate (fill * w) 0

-- lengths are added without wrapping: two lengths of 2^63 and one of 5 are not those of 5 bytes
abbrev pub NoWrapping : Type 0
NoWrapping = pack_refusal 1 16 512 5 (9223372036854775808 ∷ 9223372036854775808 ∷ 5 ∷ []) 8192 ≡ 16
