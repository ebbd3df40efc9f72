-- Rows: how many bytes they are, and a tile's rows one by one.
-- Assumes nothing.
use mathlib.Core.Path.{◌≡◌, refl, sym, ap, ap₂, ◌∙◌}
use mathlib.Core.Bool.{Bool, cond}
use mathlib.Core.List.{List, [], ◌∷◌, ◌++◌, append_assoc}
use Prim.Native.Nat.{ℕ, zero, suc, ◌+◌, ◌-◌, ◌*◌, ◌<◌, ◌≤◌, min}
use native.Mathlib.Nat.{add-mul, one-mul, suc-mul, zero-mul}
use native.Mathlib.Decide.{dec_lt}
use native.Mathlib.Numerals.{add-one}
use native.Mathlib.Omega.{arith}
use borrow.Author.Tests.{eq-eqb, ne_eqb}
use lib.ListN.{length, get_or, take, drop, replicate, length-append, length-replicate, replicate-append-replicate, length-take, length-drop}
use lib.Seq.{take_all, drop-length, length-take-le}
use Rattle.tiles.specs.Rows.{room_of, zero_padded, row_bytes, zero_row, joined}
use Rattle.tiles.specs.Pack.{rows_of, rows_needed, chain_rows, tile_rows, tiles_rows}
use Rattle.tiles.specs.inner.Steps.{Wide, next_after}
use Rattle.tiles.proofs.LengthLaws.{rows_none, rows-some, rows_more, rows-one, rows_hold, one_off, ends_at}

pub one_more_lem : (n w : ℕ) → (n + 1) * w ≡ n * w + w
one_more_lem n w = add-mul n 1 w ∙ ap (λ (x : ℕ). n * w + x) (one-mul w)

pub room-some : {w : ℕ} → Wide w → 0 < room_of w
room-some h = omega (arith, h.least)

-- ---- a row

padded-length : (n : ℕ) (l : List ℕ) → length l ≤ n → length (zero_padded n l) ≡ n
unfolding zero_padded
padded-length n l h = length-append l (replicate (n - length l) 0) ∙ ap (λ (k : ℕ). length l + k) (length-replicate (n - length l) 0) ∙ sum
  where
    sum : length l + (n - length l) ≡ n
    sum = omega arith

pub row-length : (w next : ℕ) (part : List ℕ) → 5 ≤ w → length part ≤ room_of w → length (row_bytes w next part) ≡ w
unfolding row_bytes
row-length w next part h l = simp length-append (omega (arith, padded-length (room_of w) part l))

-- ---- a tile's rows

chain_step : (w lwc n : ℕ) (tile : List ℕ) → 0 < n
    → joined (tile_rows w lwc (suc n) tile) ≡ row_bytes w (lwc + 1) (take (room_of w) tile) ++ joined (tile_rows w (lwc + 1) n (drop (room_of w) tile))
unfolding joined tile_rows chain_rows
chain_step w lwc zero tile h = absurd (omega arith)
chain_step w lwc (suc n) tile h = refl

-- the bytes of a tile that are left are those of the next row, which has this LWC, and the rest: the rows are that row and those of the rest
pub record Next (w lwc next : ℕ) (left part rest : List ℕ) : Type 0 where
  pub some : 0 < length part
  pub most : length part ≤ room_of w
  pub few : next ≤ lwc + 1
  pub less : length rest < length left
  pub rows : rows_of (room_of w) (length left) ≡ rows_of (room_of w) (length rest) + 1
  pub bytes :
      joined (tile_rows w lwc (rows_of (room_of w) (length left)) left)
      ≡ row_bytes w next part ++ joined (tile_rows w (lwc + 1) (rows_of (room_of w) (length rest)) rest)

next-full : (w lwc : ℕ) (l : List ℕ) → Wide w → room_of w < length l → Next w lwc (lwc + 1) l (take (room_of w) l) (drop (room_of w) l)
next-full w lwc l h m =
    let room = room-some h in
    let d = length-drop (room_of w) l in
    let n = rows_of (room_of w) (length (drop (room_of w) l)) in
    let r : rows_of (room_of w) (length l) ≡ n + 1 = rows_more (room_of w) room (length l) m ∙ ap (λ (k : ℕ). rows_of (room_of w) k + 1) (sym d) in
    let t = length-take-le (room_of w) l (omega arith) in
    record {
      some = omega (arith, t, room);
      most = omega (arith, t);
      few = omega arith;
      less = omega (arith, d, room);
      rows = r;
      bytes =
          ap (λ (i : ℕ). joined (tile_rows w lwc i l)) (r ∙ add-one n)
          ∙ chain_step w lwc n l (omega (arith, d, rows-some (room_of w) room (length (drop (room_of w) l)) (omega (arith, d))));
    }

next_last : (w lwc : ℕ) (l : List ℕ) → Wide w → 0 < length l → length l ≤ room_of w → Next w lwc 0 l l []
unfolding joined tile_rows chain_rows
next_last w lwc l h k m =
    let room = room-some h in
    let one = rows-one (room_of w) room (length l) k m in
    let none = rows_none (room_of w) room 0 refl in
    record {
      some = k;
      most = m;
      few = omega arith;
      less = k;
      rows = omega (arith, one, none);
      bytes = ap (λ (i : ℕ). joined (tile_rows w lwc i l)) one ∙ sym (ap (λ (i : ℕ). row_bytes w 0 l ++ joined (tile_rows w (lwc + 1) i [])) none);
    }

-- where the row takes as many of them as it has room for
pub next_row : (w lwc next n : ℕ) (l part rest : List ℕ) → Wide w → 0 < length l → n ≡ min (room_of w) (length l) → part ≡ take n l → rest ≡ drop n l
    → next ≡ next_after lwc (length rest) → Next w lwc next l part rest
next_row w lwc next n l part rest h k e p r s = go (dec_lt (room_of w) (length l))
  where
    go : Dec (room_of w < length l) → Next w lwc next l part rest
    go (yes m) =
        let f : n ≡ room_of w = omega (arith, e) in
        let x : next ≡ lwc + 1 = s ∙ ap (λ (b : Bool). cond b 0 (lwc + 1)) (ne_eqb (length rest) 0 (λ z. omega (arith, ap length r, length-drop n l, f))) in
        rw (x, p, r, f) (next-full w lwc l h m)
    go (no m) =
        let f : n ≡ length l = omega (arith, e) in
        let t : take n l ≡ l = take_all n l (omega arith) in
        let d : rest ≡ [] = r ∙ ap (λ (i : ℕ). drop i l) f ∙ drop-length l in
        let x : next ≡ 0 = s ∙ ap (λ (b : Bool). cond b 0 (lwc + 1)) (eq-eqb (length rest) 0 (ap length d)) in
        rw (x, p ∙ t, d) (next_last w lwc l h k (omega arith))

pub tile-end : (w lwc n : ℕ) (tile : List ℕ) → n ≡ 0 → joined (tile_rows w lwc n tile) ≡ []
unfolding joined tile_rows
tile-end w lwc n tile e = ap (λ (i : ℕ). joined (tile_rows w lwc i tile)) e

-- ---- the rows of all tiles

pub joined_append : (a b : List (List ℕ)) → joined (a ++ b) ≡ joined a ++ joined b
unfolding joined
joined_append [] b = refl
joined_append (l ∷ ls) b = ap (λ (x : List ℕ). l ++ x) (joined_append ls b) ∙ sym (append_assoc l (joined ls) (joined b))

-- the rows of the tile at index i, whose bytes come first, and those of the tiles after it
pub tiles-step : (w : ℕ) (bytes lengths : List ℕ) (i : ℕ) → i < length lengths → (lwc lwc' : ℕ) (tile rest : List ℕ)
    → tile ≡ take (get_or lengths i 0) bytes → rest ≡ drop (get_or lengths i 0) bytes → length tile ≡ get_or lengths i 0 → lwc' ≡ lwc + rows_of (room_of w) (length tile)
    → joined (tiles_rows w lwc bytes (drop i lengths))
    ≡ joined (tile_rows w lwc (rows_of (room_of w) (length tile)) tile) ++ joined (tiles_rows w lwc' rest (drop (i + 1) lengths))
unfolding tiles_rows
tiles-step w bytes lengths i h lwc lwc' tile rest t r n e =
    let len = get_or lengths i 0 in
    rw (e, n, t, r)
    (ap (λ (x : List ℕ). joined (tiles_rows w lwc bytes x)) (one_off lengths i h)
    ∙ joined_append (tile_rows w lwc (rows_of (room_of w) len) (take len bytes))
    (tiles_rows w (lwc + rows_of (room_of w) len) (drop len bytes) (drop (i + 1) lengths)))

pub tiles-last : (w lwc : ℕ) (bytes lengths : List ℕ) (i : ℕ) → i ≡ length lengths → joined (tiles_rows w lwc bytes (drop i lengths)) ≡ []
unfolding tiles_rows joined
tiles-last w lwc bytes lengths i e = ap (λ (l : List ℕ). joined (tiles_rows w lwc bytes l)) (ends_at lengths i e)

-- ---- how many they are, and their bytes

-- every row has w bytes
pub data Sized (w : ℕ) : List (List ℕ) → Type 0 where
  none : Sized w []
  one : {row : List ℕ} {rows : List (List ℕ)} → length row ≡ w → Sized w rows → Sized w (row ∷ rows)

pub sized_append : {w : ℕ} {a b : List (List ℕ)} → Sized w a → Sized w b → Sized w (a ++ b)
sized_append none q = q
sized_append (one e p) q = one e (sized_append p q)

joined_length : (w : ℕ) (rows : List (List ℕ)) → Sized w rows → length (joined rows) ≡ length rows * w
unfolding joined
joined_length w [] none = sym (zero-mul w)
joined_length w (row ∷ rows) (one e p) = length-append row (joined rows) ∙ ap₂ ◌+◌ e (joined_length w rows p) ∙ omega (arith, suc-mul (length rows) w)

chain_sized : (w lwc n : ℕ) (tile : List ℕ) → Wide w → length tile ≤ n * room_of w + room_of w → Sized w (chain_rows w lwc n tile)
unfolding chain_rows
chain_sized w lwc zero tile h l = one (row-length w 0 tile h.least (omega (arith, zero-mul (room_of w)))) none
chain_sized w lwc (suc n) tile h l =
    one (row-length w (lwc + 1) (take (room_of w) tile) h.least (omega (arith, length-take (room_of w) tile)))
    (chain_sized w (lwc + 1) n (drop (room_of w) tile) h (omega (arith, length-drop (room_of w) tile, suc-mul n (room_of w))))

tile_sized : (w lwc n : ℕ) (tile : List ℕ) → Wide w → length tile ≤ n * room_of w → Sized w (tile_rows w lwc n tile)
unfolding tile_rows
tile_sized w lwc zero tile h l = none
tile_sized w lwc (suc n) tile h l = chain_sized w lwc n tile h (omega (arith, suc-mul n (room_of w)))

pub tiles_sized : (w lwc : ℕ) (bytes lengths : List ℕ) → Wide w → Sized w (tiles_rows w lwc bytes lengths)
unfolding tiles_rows
tiles_sized w lwc bytes [] h = none
tiles_sized w lwc bytes (len ∷ lens) h =
    sized_append (tile_sized w lwc (rows_of (room_of w) len) (take len bytes) h (omega (arith, length-take len bytes, rows_hold (room_of w) (room-some h) len)))
    (tiles_sized w (lwc + rows_of (room_of w) len) (drop len bytes) lens h)

chain_count : (w lwc n : ℕ) (tile : List ℕ) → length (chain_rows w lwc n tile) ≡ suc n
unfolding chain_rows
chain_count w lwc zero tile = refl
chain_count w lwc (suc n) tile = ap suc (chain_count w (lwc + 1) n (drop (room_of w) tile))

pub tile-count : (w lwc n : ℕ) (tile : List ℕ) → length (tile_rows w lwc n tile) ≡ n
unfolding tile_rows
tile-count w lwc zero tile = refl
tile-count w lwc (suc n) tile = chain_count w lwc n tile

pub tiles-count : (w lwc : ℕ) (bytes lengths : List ℕ) → length (tiles_rows w lwc bytes lengths) ≡ rows_needed (room_of w) lengths
unfolding tiles_rows rows_needed
tiles-count w lwc bytes [] = refl
tiles-count w lwc bytes (len ∷ lens) =
    let n = rows_of (room_of w) len in
    length-append (tile_rows w lwc n (take len bytes)) (tiles_rows w (lwc + n) (drop len bytes) lens)
    ∙ ap₂ ◌+◌ (tile-count w lwc n (take len bytes)) (tiles-count w (lwc + n) (drop len bytes) lens)

-- of n rows that hold the tile's bytes
pub tile-length : (w lwc n : ℕ) (tile : List ℕ) → Wide w → length tile ≤ n * room_of w → length (joined (tile_rows w lwc n tile)) ≡ n * w
tile-length w lwc n tile h l = joined_length w (tile_rows w lwc n tile) (tile_sized w lwc n tile h l) ∙ ap (λ (k : ℕ). k * w) (tile-count w lwc n tile)

pub tiles-length : (w lwc : ℕ) (bytes lengths : List ℕ) → Wide w → length (joined (tiles_rows w lwc bytes lengths)) ≡ rows_needed (room_of w) lengths * w
tiles-length w lwc bytes lengths h =
    joined_length w (tiles_rows w lwc bytes lengths) (tiles_sized w lwc bytes lengths h) ∙ ap (λ (k : ℕ). k * w) (tiles-count w lwc bytes lengths)

-- unused rows
pub zero-rows : (k w : ℕ) → joined (replicate k (zero_row w)) ≡ replicate (k * w) 0
unfolding joined
zero-rows zero w = ap (λ (n : ℕ). replicate n 0) (sym (zero-mul w))
zero-rows (suc k) w =
    let e : w + k * w ≡ suc k * w = omega (arith, suc-mul k w) in
    ap (λ (l : List ℕ). replicate w 0 ++ l) (zero-rows k w) ∙ replicate-append-replicate w (k * w) 0 ∙ ap (λ (n : ℕ). replicate n 0) e

pub unused_sized : (k w : ℕ) → Sized w (replicate k (zero_row w))
unused_sized zero w = none
unused_sized (suc k) w = one (length-replicate {A = ℕ} w 0) (unused_sized k w)
