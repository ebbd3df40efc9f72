-- Lengths of tiles: the rows of one, and what decides 16 and the sum of the rows where some of the lengths are still to come.
-- Assumes nothing.
use mathlib.Core.Path.{◌≡◌, refl, sym, ap, ◌∙◌}
use mathlib.Core.Bool.{Bool, true, false, cond, not, ◌||◌}
use mathlib.Core.List.{List, [], ◌∷◌, ◌++◌}
use Prim.Native.Nat.{ℕ, suc, ◌+◌, ◌-◌, ◌*◌, ◌/◌, ◌%◌, ◌<◌, ◌≤◌, min}
use native.Mathlib.Nat.{add-mul, one-mul, add-div_right, div-eq_of_lt, div-eq_of_lt-le, div-add-mod', mod-lt}
use native.Mathlib.Decide.{dec_lt}
use native.Mathlib.Numerals.{add-one}
use native.Mathlib.Omega.{arith}
use lib.Dec.{eqb, ltb}
use lib.ListN.{length, get_or, take, drop}
use lib.Seq.{take-suc, drop-cons, drop-length}
use borrow.Author.Tests.{lt-ltb, le-ltb, eq-eqb, ne_eqb, eqb-true, eqb-false}
use Rattle.std.proofs.lemmas.Grind.{div_ceil_times}
use Rattle.ccsds.proofs.Refusals.{or_false}
use Rattle.tiles.specs.Pack.{rows_of, rows_needed, total, some_zero, wrong_tiles, overfull, largest, capped}

-- ---- the rows of a tile

module _ (room : ℕ) (h : 0 < room) where
  pub rows_none : (len : ℕ) → len ≡ 0 → rows_of room len ≡ 0
  unfolding rows_of
  rows_none len e = let l : len + (room - 1) < room = omega arith in div-eq_of_lt l

  pub rows-some : (len : ℕ) → 0 < len → rows_of room len ≡ (len - 1) / room + 1
  unfolding rows_of
  rows-some len l = let e : len + (room - 1) ≡ len - 1 + room = omega arith in ap (λ (n : ℕ). n / room) e ∙ add-div_right (len - 1) h

  -- one full row, and those of the rest
  pub rows_more : (len : ℕ) → room < len → rows_of room len ≡ rows_of room (len - room) + 1
  unfolding rows_of
  rows_more len l =
      let e : len + (room - 1) ≡ len - room + (room - 1) + room = omega arith in
      ap (λ (n : ℕ). n / room) e ∙ add-div_right (len - room + (room - 1)) h

  pub rows-one : (len : ℕ) → 0 < len → len ≤ room → rows_of room len ≡ 1
  rows-one len l m = let k : len - 1 < room = omega arith in rows-some len l ∙ ap (λ (n : ℕ). n + 1) (div-eq_of_lt k)

  -- they hold its bytes
  pub rows_hold : (len : ℕ) → len ≤ rows_of room len * room
  unfolding rows_of
  rows_hold len =
      let d = div-add-mod' (len + (room - 1)) room in
      let m = mod-lt (len + (room - 1)) h in
      omega arith

  -- a division that rounds up
  pub rows_up : (len : ℕ) → len / room + min 1 (len % room) ≡ rows_of room len
  unfolding rows_of
  rows_up len =
      let c = div_ceil_times len room h in
      let q = len / room + min 1 (len % room) in
      let low : q * room ≤ len + (room - 1) = omega (arith, c.1, h) in
      let high : len + (room - 1) < (q + 1) * room = omega (arith, c.0, h, add-mul q 1 room, one-mul room) in
      sym (div-eq_of_lt-le room low high)

-- ---- tests

-- two tests that say the same
same-eqb : (a b c d : ℕ) → (a ≡ b → c ≡ d) → (c ≡ d → a ≡ b) → eqb a b ≡ eqb c d
same-eqb a b c d f g = go (eqb c d) refl
  where
    go : (t : Bool) → eqb c d ≡ t → eqb a b ≡ eqb c d
    go true e = eq-eqb a b (g (eqb-true c d e)) ∙ sym e
    go false e = ne_eqb a b (λ h. eqb-false c d e (f h)) ∙ sym e

pub or_true : (b : Bool) → b || true ≡ true
or_true true = refl
or_true false = refl

-- ---- 16

zero-wrong : (len n : ℕ) (lens : List ℕ) → len ≡ 0 → wrong_tiles (len ∷ lens) n ≡ true
unfolding wrong_tiles some_zero
zero-wrong len n lens h = rw (eq-eqb len 0 h)

over_wrong : (len n : ℕ) (lens : List ℕ) → n < len → wrong_tiles (len ∷ lens) n ≡ true
unfolding wrong_tiles total
over_wrong len n lens h = ap (λ (t : Bool). some_zero (len ∷ lens) || not t) (ne_eqb (len + total lens) n (λ e. omega arith)) ∙ or_true (some_zero (len ∷ lens))

one_less : (len n : ℕ) (lens : List ℕ) → (len ≡ 0 → ⊥) → len ≤ n → wrong_tiles (len ∷ lens) n ≡ wrong_tiles lens (n - len)
unfolding wrong_tiles total some_zero
one_less len n lens h l = rw (ne_eqb len 0 h, same-eqb (len + total lens) n (total lens) (n - len) (λ e. omega arith) (λ e. omega arith))

-- no length is 0: not the first, and none of the rest
pub some_first : (len : ℕ) (lens : List ℕ) → some_zero (len ∷ lens) ≡ false → (0 < len) × (some_zero lens ≡ false)
unfolding some_zero
some_first len lens e =
    let p = or_false (eqb len 0) (some_zero lens) e in
    let n = eqb-false len 0 p.0 in
    (omega arith, p.1)

-- ---- the sum of the rows

capped_over : (n : ℕ) → largest < n → capped n ≡ largest
unfolding capped
capped_over n h = ap (λ (b : Bool). cond b largest n) (lt-ltb largest n h)

capped-not : (n : ℕ) → n ≤ largest → capped n ≡ n
unfolding capped
capped-not n h = ap (λ (b : Bool). cond b largest n) (le-ltb largest n h)

capped-from : (n : ℕ) → largest ≤ n → capped n ≡ largest
capped-from n h = go (dec_lt largest n)
  where
    go : Dec (largest < n) → capped n ≡ largest
    go (yes l) = capped_over n l
    go (no l) = let e : n ≡ largest = omega arith in capped-not n (omega arith) ∙ e

-- it is above a smaller number just when the sum itself is
capped_above : (n fill : ℕ) → fill < largest → ltb fill (capped n) ≡ ltb fill n
capped_above n fill h = go (dec_lt largest n)
  where
    go : Dec (largest < n) → ltb fill (capped n) ≡ ltb fill n
    go (yes l) = let k : fill < n = omega arith in ap (ltb fill) (capped_over n l) ∙ lt-ltb fill largest h ∙ sym (lt-ltb fill n k)
    go (no l) = ap (ltb fill) (capped-not n (omega arith))

-- ---- sums over lists that are put together

pub needed_append : (room : ℕ) (a b : List ℕ) → rows_needed room (a ++ b) ≡ rows_needed room a + rows_needed room b
unfolding rows_needed
needed_append room [] b = omega arith
needed_append room (len ∷ a) b = let e = needed_append room a b in omega arith

total_append : (a b : List ℕ) → total (a ++ b) ≡ total a + total b
unfolding total
total_append [] b = omega arith
total_append (len ∷ a) b = let e = total_append a b in omega arith

-- one more of the first lengths
module _ (l : List ℕ) (t : ℕ) (h : t < length l) where
  pub needed_next : (room : ℕ) → rows_needed room (take (suc t) l) ≡ rows_needed room (take t l) + rows_of room (get_or l t 0)
  unfolding rows_needed
  needed_next room = ap (rows_needed room) (take-suc l t 0 h) ∙ needed_append room (take t l) (get_or l t 0 ∷ []) ∙ omega arith

  pub total-next : total (take (suc t) l) ≡ total (take t l) + get_or l t 0
  unfolding total
  total-next = ap total (take-suc l t 0 h) ∙ total_append (take t l) (get_or l t 0 ∷ []) ∙ omega arith

-- ---- 17, by that sum

module _ (room fill rows : ℕ) (lens : List ℕ) (h : fill < largest) (e : rows ≡ capped (rows_needed room lens)) where
  by-sum : overfull room lens fill ≡ ltb fill rows
  unfolding overfull
  by-sum = sym (ap (ltb fill) e ∙ capped_above (rows_needed room lens) fill h)

  pub over_full : fill < rows → overfull room lens fill ≡ true
  over_full l = by-sum ∙ lt-ltb fill rows l

  pub not_over_full : rows ≤ fill → overfull room lens fill ≡ false
  not_over_full l = by-sum ∙ le-ltb fill rows l

-- ---- in a list of lengths, from index i on

module _ (l : List ℕ) where
  pub ends_at : (i : ℕ) → i ≡ length l → drop i l ≡ []
  ends_at i h = ap (λ (j : ℕ). drop j l) h ∙ drop-length l

  pub tiles-end : (i n bytes : ℕ) → i ≡ length l → wrong_tiles (drop i l) n ≡ wrong_tiles l bytes → not (eqb n 0) ≡ wrong_tiles l bytes
  unfolding wrong_tiles total some_zero
  tiles-end i n bytes h e =
      ap not (same-eqb n 0 0 n (λ p. sym p) (λ p. sym p)) ∙ sym (ap (λ (x : List ℕ). wrong_tiles x n) (ends_at i h)) ∙ e

  -- all rows are summed
  pub sum-end : (room i sum rows : ℕ) → i ≡ length l → sum ≤ largest → capped (sum + rows_needed room (drop i l)) ≡ rows → sum ≡ rows
  unfolding rows_needed
  sum-end room i sum rows h m e =
      let z : sum + 0 ≡ sum = omega arith in
      sym (ap (λ (x : List ℕ). capped (sum + rows_needed room x)) (ends_at i h) ∙ ap capped z ∙ capped-not sum m) ∙ e

  module _ (i : ℕ) (h : i < length l) where
    pub one_off : drop i l ≡ get_or l i 0 ∷ drop (i + 1) l
    one_off = rw (add-one, drop-cons l i 0)

    pub tiles-zero : (n bytes : ℕ) → get_or l i 0 ≡ 0 → wrong_tiles (drop i l) n ≡ wrong_tiles l bytes → true ≡ wrong_tiles l bytes
    tiles-zero n bytes z e = sym (ap (λ (x : List ℕ). wrong_tiles x n) one_off ∙ zero-wrong _ n _ z) ∙ e

    pub tiles_over : (n bytes : ℕ) → n < get_or l i 0 → wrong_tiles (drop i l) n ≡ wrong_tiles l bytes → true ≡ wrong_tiles l bytes
    tiles_over n bytes z e = sym (ap (λ (x : List ℕ). wrong_tiles x n) one_off ∙ over_wrong _ n _ z) ∙ e

    pub tiles_more : (n bytes : ℕ) → (get_or l i 0 ≡ 0 → ⊥) → get_or l i 0 ≤ n → wrong_tiles (drop i l) n ≡ wrong_tiles l bytes
        → wrong_tiles (drop (i + 1) l) (n - get_or l i 0) ≡ wrong_tiles l bytes
    tiles_more n bytes z m e = sym (ap (λ (x : List ℕ). wrong_tiles x n) one_off ∙ one_less _ n _ z m) ∙ e

    pub total-step : total (drop i l) ≡ get_or l i 0 + total (drop (i + 1) l)
    unfolding total
    total-step = ap total one_off

    pub needed_step : (room : ℕ) → rows_needed room (drop i l) ≡ rows_of room (get_or l i 0) + rows_needed room (drop (i + 1) l)
    unfolding rows_needed
    needed_step room = ap (rows_needed room) one_off

    module _ (room rows sum all : ℕ) (f : rows ≡ rows_of room (get_or l i 0)) (e : capped (sum + rows_needed room (drop i l)) ≡ all) where
      -- with a sum that stops at the largest number
      pub sum_more : capped (min (sum + rows) largest + rows_needed room (drop (i + 1) l)) ≡ all
      sum_more = go (dec_lt largest (sum + rows))
        where
          n : rows_needed room (drop i l) ≡ rows_of room (get_or l i 0) + rows_needed room (drop (i + 1) l)
          n = needed_step room

          go : Dec (largest < sum + rows) → capped (min (sum + rows) largest + rows_needed room (drop (i + 1) l)) ≡ all
          go (yes g) =
              let m : min (sum + rows) largest ≡ largest = omega arith in
              ap (λ (k : ℕ). capped (k + rows_needed room (drop (i + 1) l))) m ∙ capped-from (largest + rows_needed room (drop (i + 1) l)) (omega arith)
              ∙ sym (capped_over (sum + rows_needed room (drop i l)) (omega (arith, n))) ∙ e
          go (no g) =
              let k : min (sum + rows) largest + rows_needed room (drop (i + 1) l) ≡ sum + rows_needed room (drop i l) = omega (arith, n) in
              ap capped k ∙ e
