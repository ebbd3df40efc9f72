-- The rows of what was packed, one by one.
-- Assumes nothing.
use mathlib.Core.Path.{◌≡◌, refl, sym, ap, ap₂, ◌∙◌, subst}
use mathlib.Core.Bool.{Bool, false, cond}
use mathlib.Core.List.{List, [], ◌∷◌, ◌++◌}
use Prim.Native.Nat.{ℕ, zero, suc, ◌+◌, ◌-◌, ◌*◌, ◌/◌, ◌<◌, ◌≤◌}
use native.Mathlib.Nat.{suc-mul, zero-mul, div-add-mod', mod-lt}
use native.Mathlib.Decide.{dec_lt}
use native.Mathlib.Omega.{arith}
use lib.ListN.{length, get_or, take, drop, replicate, length-drop, get_or-append}
use lib.Seq.{take_at, take_all, drop-drop, drop-append-add, get_or-append-add, length-take-le, take-append_seam, drop-append_seam}
use borrow.Author.Tests.{lt-ltb, le-ltb}
use Rattle.algebra.specs.Codeword.{symbol_at}
use Rattle.algebra.proofs.Codeword.{slot}
use Rattle.tiles.specs.Rows.{room_of, zero_padded, row_bytes, joined, next_of, count_of, part_of}
use Rattle.tiles.specs.Pack.{rows_of, rows_needed, total, some_zero, chain_rows, tile_rows, tiles_rows}
use Rattle.tiles.specs.PackClaims.{tile_at, first_row, part_in, TileRow, InTile}
use Rattle.tiles.specs.inner.Steps.{Wide}
use Rattle.tiles.proofs.LengthLaws.{rows-some, some_first}
use Rattle.tiles.proofs.RowLaws.{room-some, Sized, tile-count}

-- ---- a row by what is read in it

module _ (w next : ℕ) (part : List ℕ) where
  pub next_written : next_of (row_bytes w next part) ≡ next
  unfolding row_bytes
  next_written = div-add-mod' next 256

  pub count_written : count_of (row_bytes w next part) ≡ length part
  unfolding row_bytes
  count_written = div-add-mod' (length part) 256

  payload : drop 4 (row_bytes w next part) ≡ zero_padded (room_of w) part
  unfolding row_bytes
  payload = refl

  pub part_written : part_of (row_bytes w next part) ≡ part
  unfolding part_of zero_padded
  part_written = ap₂ (λ (n : ℕ) (l : List ℕ). take n l) count_written payload ∙ take-append_seam part (replicate (room_of w - length part) 0)

  pub padding_written : drop (4 + length part) (row_bytes w next part) ≡ replicate (room_of w - length part) 0
  unfolding zero_padded
  padding_written =
      sym (drop-drop (length part) 4 (row_bytes w next part)) ∙ ap (drop (length part)) payload ∙ drop-append_seam part (replicate (room_of w - length part) 0)

-- ---- rows one after the other

pub symbol-at : (w : ℕ) (rows : List (List ℕ)) (i : ℕ) → Sized w rows → i < length rows → symbol_at w (joined rows) i ≡ get_or rows i []
unfolding joined
symbol-at w [] i s h = absurd (omega arith)
symbol-at w (row ∷ rows) zero (Sized.one l s) h = ap (λ (n : ℕ). take w (drop n (row ++ joined rows))) (zero-mul w) ∙ take_at row (joined rows) w l
symbol-at w (row ∷ rows) (suc i) (Sized.one l s) h =
    let e : suc i * w ≡ length row + i * w = omega (arith, suc-mul i w) in
    ap (λ (n : ℕ). take w (drop n (row ++ joined rows))) e ∙ ap (take w) (drop-append-add row (joined rows) (i * w)) ∙ symbol-at w rows i s (omega arith)

-- ---- the rows of a tile

chain_on : (w lwc n j : ℕ) (tile : List ℕ) → j < n → get_or (chain_rows w lwc n tile) j [] ≡ row_bytes w (lwc + j + 1) (part_in (room_of w) j tile)
unfolding chain_rows
chain_on w lwc zero j tile h = absurd (omega arith)
chain_on w lwc (suc n) zero tile h =
    let e : lwc + 1 ≡ lwc + 0 + 1 = omega arith in
    ap₂ (λ (m k : ℕ). row_bytes w m (take (room_of w) (drop k tile))) e (sym (zero-mul (room_of w)))
chain_on w lwc (suc n) (suc j) tile h =
    let e : lwc + 1 + j + 1 ≡ lwc + suc j + 1 = omega arith in
    let f : room_of w + j * room_of w ≡ suc j * room_of w = omega (arith, suc-mul j (room_of w)) in
    chain_on w (lwc + 1) n j (drop (room_of w) tile) (omega arith)
    ∙ ap₂ (λ (m : ℕ) (t : List ℕ). row_bytes w m (take (room_of w) t)) e (drop-drop (j * room_of w) (room_of w) tile ∙ ap (λ (k : ℕ). drop k tile) f)

chain_last : (w lwc n : ℕ) (tile : List ℕ) → get_or (chain_rows w lwc n tile) n [] ≡ row_bytes w 0 (drop (n * room_of w) tile)
unfolding chain_rows
chain_last w lwc zero tile = ap (λ (k : ℕ). row_bytes w 0 (drop k tile)) (sym (zero-mul (room_of w)))
chain_last w lwc (suc n) tile =
    let f : room_of w + n * room_of w ≡ suc n * room_of w = omega (arith, suc-mul n (room_of w)) in
    chain_last w (lwc + 1) n (drop (room_of w) tile) ∙ ap (row_bytes w 0) (drop-drop (n * room_of w) (room_of w) tile ∙ ap (λ (k : ℕ). drop k tile) f)

part_count : (room j : ℕ) (tile : List ℕ) → j * room + room ≤ length tile → length (part_in room j tile) ≡ room
part_count room j tile h = length-take-le room (drop (j * room) tile) (omega (arith, length-drop (j * room) tile))

-- row j of n full ones and a last one, which holds the rest and isn't empty
chain_row : (w lwc n j : ℕ) (tile : List ℕ) → n * room_of w < length tile → length tile ≤ n * room_of w + room_of w → j < suc n
    → TileRow w (suc n) j (lwc + j) tile (get_or (chain_rows w lwc n tile) j [])
chain_row w lwc n j tile m h l = go (dec_lt j n)
  where
    go : Dec (j < n) → TileRow w (suc n) j (lwc + j) tile (get_or (chain_rows w lwc n tile) j [])
    go (yes k) =
        let p = part_count (room_of w) j tile (omega (arith, slot j n (room_of w) k)) in
        let room : 0 < room_of w = omega arith in
        let e : j + 1 < suc n = omega arith in
        record {
          bytes = chain_on w lwc n j tile k ∙ ap (λ (b : Bool). row_bytes w (cond b (lwc + j + 1) 0) (part_in (room_of w) j tile)) (sym (lt-ltb (j + 1) (suc n) e));
          full = λ _. p;
          some = omega (arith, p);
          most = omega (arith, p);
        }
    go (no k) =
        let z : j ≡ n = omega arith in
        let d = length-drop (j * room_of w) tile in
        let y : j * room_of w ≡ n * room_of w = ap (λ (i : ℕ). i * room_of w) z in
        let all : part_in (room_of w) j tile ≡ drop (j * room_of w) tile = take_all (room_of w) (drop (j * room_of w) tile) (omega arith) in
        let e : suc n ≤ j + 1 = omega arith in
        record {
          bytes =
              ap (λ (i : ℕ). get_or (chain_rows w lwc n tile) i []) z ∙ chain_last w lwc n tile ∙ ap (λ (i : ℕ). row_bytes w 0 (drop i tile)) (sym y)
              ∙ ap₂ (λ (b : Bool) (p : List ℕ). row_bytes w (cond b (lwc + j + 1) 0) p) (sym (le-ltb (j + 1) (suc n) e)) (sym all);
          full = λ f. absurd (omega arith);
          some = omega (arith, ap length all);
          most = omega (arith, ap length all);
        }

tile-row : (w lwc n j : ℕ) (tile : List ℕ) → (n - 1) * room_of w < length tile → length tile ≤ (n - 1) * room_of w + room_of w → j < n
    → TileRow w n j (lwc + j) tile (get_or (tile_rows w lwc n tile) j [])
unfolding tile_rows
tile-row w lwc zero j tile m h l = absurd (omega arith)
tile-row w lwc (suc n) j tile m h l =
    let e : (suc n - 1) * room_of w ≡ n * room_of w = let z : suc n - 1 ≡ n = omega arith in ap (λ (k : ℕ). k * room_of w) z in
    chain_row w lwc n j tile (omega arith) (omega arith) l

-- ---- the rows of all tiles

pub same_row : {w n j lwc lwc' : ℕ} {tile tile' row row' : List ℕ} → lwc ≡ lwc' → tile ≡ tile' → row ≡ row' → TileRow w n j lwc tile row → TileRow w n j lwc' tile' row'
same_row {w} {n} {j} {lwc} {lwc'} {tile} {tile'} {row} {row'} e f g r =
    subst (λ (x : ℕ). TileRow w n j x tile' row') e (subst (λ (x : List ℕ). TileRow w n j lwc x row') f (subst (λ (x : List ℕ). TileRow w n j lwc tile x) g r))

-- row j of the tile at index t
pub tiles-row : (w lwc : ℕ) (bytes lengths : List ℕ) (t j : ℕ) → Wide w → some_zero lengths ≡ false → total lengths ≤ length bytes → t < length lengths
    → j < rows_of (room_of w) (get_or lengths t 0)
    → TileRow w (rows_of (room_of w) (get_or lengths t 0)) j (lwc + (first_row (room_of w) lengths t + j)) (tile_at bytes lengths t)
    (get_or (tiles_rows w lwc bytes lengths) (first_row (room_of w) lengths t + j) [])
unfolding tiles_rows rows_needed total
tiles-row w lwc bytes [] t j h s b l k = absurd (omega arith)
tiles-row w lwc bytes (len ∷ lens) zero j h s b l k =
    let n = rows_of (room_of w) len in
    let e : j ≡ 0 + j = omega arith in
    let some = (some_first len lens s).0 in
    let r = rows-some (room_of w) (room-some h) len some in
    let d = div-add-mod' (len - 1) (room_of w) in
    let m = mod-lt (len - 1) (room-some h) in
    let y : n - 1 ≡ (len - 1) / room_of w = omega arith in
    let z : (n - 1) * room_of w ≡ (len - 1) / room_of w * room_of w = ap (λ (i : ℕ). i * room_of w) y in
    let c = length-take-le len bytes (omega arith) in
    same_row (ap (λ (i : ℕ). lwc + i) e) refl
    (sym (get_or-append (tile_rows w lwc n (take len bytes)) (tiles_rows w (lwc + n) (drop len bytes) lens) [] j (omega (arith, tile-count w lwc n (take len bytes))))
    ∙ ap (λ (i : ℕ). get_or (tile_rows w lwc n (take len bytes) ++ tiles_rows w (lwc + n) (drop len bytes) lens) i []) e)
    (tile-row w lwc n j (take len bytes) (omega arith) (omega arith) k)
tiles-row w lwc bytes (len ∷ lens) (suc t) j h s b l k =
    let n = rows_of (room_of w) len in
    let a = tile_rows w lwc n (take len bytes) in
    let i = first_row (room_of w) lens t + j in
    let e : lwc + n + i ≡ lwc + (n + first_row (room_of w) lens t + j) = omega arith in
    let f : length a + i ≡ n + first_row (room_of w) lens t + j = omega (arith, tile-count w lwc n (take len bytes)) in
    same_row e (ap (take (get_or lens t 0)) (drop-drop (total (take t lens)) len bytes))
    (sym (get_or-append-add a (tiles_rows w (lwc + n) (drop len bytes) lens) i []) ∙ ap (λ (x : ℕ). get_or (a ++ tiles_rows w (lwc + n) (drop len bytes) lens) x []) f)
    (tiles-row w (lwc + n) (drop len bytes) lens t j h (some_first len lens s).1 (omega (arith, length-drop len bytes)) (omega arith) k)

-- each row below the rows needed is a tile's: the first one's, or one's of the rest
first-tile : (room len : ℕ) (lens : List ℕ) (i : ℕ) → i < rows_of room len → InTile room (len ∷ lens) i
unfolding rows_needed
first-tile room len lens i l = record { tile = 0; row = i; tile-there = omega arith; row-there = l; place = omega arith }

later-tile : (room len : ℕ) (lens : List ℕ) (i : ℕ) → rows_of room len ≤ i → InTile room lens (i - rows_of room len) → InTile room (len ∷ lens) i
unfolding rows_needed
later-tile room len lens i l x =
    record { tile = suc x.tile; row = x.row; tile-there = omega (arith, x.tile-there); row-there = x.row-there; place = omega (arith, x.place) }

pub in_tile : (room : ℕ) (lengths : List ℕ) (i : ℕ) → i < rows_needed room lengths → InTile room lengths i
unfolding rows_needed
in_tile room [] i h = absurd (omega arith)
in_tile room (len ∷ lens) i h = go (dec_lt i (rows_of room len)) (λ l. in_tile room lens (i - rows_of room len) (omega arith))
  where
    go : Dec (i < rows_of room len) → (rows_of room len ≤ i → InTile room lens (i - rows_of room len)) → InTile room (len ∷ lens) i
    go (yes l) f = first-tile room len lens i l
    go (no l) f = let k : rows_of room len ≤ i = omega arith in later-tile room len lens i k (f k)
