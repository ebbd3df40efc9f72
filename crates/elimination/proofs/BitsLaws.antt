-- Laws of specs/Bits.antt.
-- Assumes nothing.
use mathlib.Core.Path.{◌≡◌, sym, ap, ap₂, ◌∙◌}
use mathlib.Core.Bool.{Bool, true, false}
use mathlib.Core.List.{List}
use mathlib.Core.Logic.{◌≢◌, ⊎_elim}
use Prim.Native.Nat.{ℕ, ◌+◌, ◌-◌, ◌*◌, ◌/◌, ◌%◌, ◌^◌, ◌≤◌, ◌<◌}
use native.Mathlib.Nat.{one-mul, mod-lt, zero-lt-suc}
use native.Mathlib.Omega.{arith}
use lib.Pow.{shl_exact, pow-lt}
use lib.Count.{count_trailing_zeros}
use lib.ListN.{length, get_or, take, drop, length-take, length-drop}
use borrow.Author.Tests.{eq-eqb, ne_eqb}
use Rattle.std.proofs.Common.{Some, None, ◌==◌, not}
use Rattle.std.proofs.lemmas.Bool.{cases_lt, not-false, eqb-true, true_from_ne_false}
use Rattle.std.proofs.lemmas.List.{get_or-take, get_or-drop}
use Rattle.std.proofs.lemmas.List.Quantifiers.{position-Some}
use Rattle.std.specs.List.{position, position_or_len}
use Rattle.std.proofs.lemmas.List.Sums.{fails_before_first}
use Rattle.std.proofs.lemmas.Bool.Decides.{nat_tests}
use Rattle.elimination.proofs.Digits.{test_bit-none, test_bit_pow, test_bit-differ, LowestSet, trailing_lowest}
use Rattle.elimination.specs.Bits.{test_bit, row_bit, LowestIs, OnlyIs}

-- ---- what the code needs

-- `1 << q`
pub one_shifted : (q : ℕ) → q < 64 → (1 * 2 ^ q) % 2 ^ 64 ≡ 2 ^ q
one_shifted q h = shl_exact {a = 1} 1 q 64 (omega arith) (omega arith) ∙ one-mul (2 ^ q)

-- the unknowns of word i, as digits
in_word : (l : List ℕ) (base i q : ℕ) → 64 * i ≤ q → q < 64 * i + 64 → row_bit l base q ≡ test_bit (get_or l (base + i) 0) (q - 64 * i)
unfolding row_bit
in_word l base i q lo hi =
    let e : q / 64 ≡ i = omega arith in
    let d : q % 64 ≡ q - 64 * i = omega arith in
    ap₂ (λ (x y : ℕ). test_bit (get_or l (base + x) 0) y) e d

-- words that are 0 have no unknown
zero_before : (l : List ℕ) (base i : ℕ) → ((k : ℕ) → k < i → get_or l (base + k) 0 ≡ 0) → (q : ℕ) → q < 64 * i → row_bit l base q ≡ false
unfolding row_bit
zero_before l base i z q h = ap (λ (x : ℕ). test_bit x (q % 64)) (z (q / 64) (omega arith)) ∙ test_bit-none (q % 64)

none-past : (p : ℕ → Bool) (xs : List ℕ) → position p xs ≡ None → length xs ≤ position_or_len p xs
none-past p xs e = grind (arith, nat_tests)

-- the words of a row, as the part that `lowest` looks through
module _ (l : List ℕ) (base words n : ℕ) (size : n ≡ words) (fit : base + words ≤ length l) where
  abbrev part : List ℕ
  part = take n (drop base l)

  part-at : (k : ℕ) → k < words → get_or part k 0 ≡ get_or l (base + k) 0
  part-at k h = get_or-take n (drop base l) k 0 (omega arith) ∙ get_or-drop base l k 0

  size_is : length part ≡ words
  size_is = omega (arith, length-take n (drop base l), length-drop base l)

  -- all are 0: the row has no unknown
  pub row-empty : position (λ x. not (x == 0)) part ≡ None → (q : ℕ) → q < 64 * words → row_bit l base q ≡ false
  row-empty p = zero_before l base words (λ k h. sym (part-at k h) ∙ eqb-true _ 0 (not-false _ (fails_before_first (λ x. not (x == 0)) part k 0 (omega (arith, none-past (λ x. not (x == 0)) part p, size_is)))))

  -- word i is the first that is not 0: its lowest set digit is the row's lowest unknown
  pub row-found : (i : ℕ) → position (λ x. not (x == 0)) part ≡ Some i → ((k : ℕ) → get_or l k 0 < 2 ^ 64)
      → LowestIs (row_bit l base) (64 * words) (Some (i * 64 + count_trailing_zeros 64 (get_or part i 0)))
  row-found i p fits =
      let f = position-Some (λ x. not (x == 0)) part i 0 p in
      let w : ℕ = get_or part i 0 in
      let t : ℕ = count_trailing_zeros 64 w in
      let hi : i < words = omega (arith, f.0, size_is) in
      let pos : 0 < w = grind (arith, nat_tests, f.1) in
      let bound : w < 2 ^ 64 = rw part-at (fits (base + i)) in
      let before : (q : ℕ) → q < 64 * i → row_bit l base q ≡ false = zero_before l base i (λ k h. sym (part-at k (omega arith)) ∙ eqb-true _ 0 (not-false _ (f.2 k h))) in
      let low : LowestSet w 64 t = trailing_lowest 64 w pos bound in
      let h : t < 64 = low.within in
      let here : (q : ℕ) → 64 * i ≤ q → q < 64 * i + 64 → row_bit l base q ≡ test_bit w (q - 64 * i) =
      λ q lo up. in_word l base i q lo up ∙ ap (λ (x : ℕ). test_bit x (q - 64 * i)) (sym (part-at i hi)) in
      let e : i * 64 + t - 64 * i ≡ t = omega arith in (
        omega arith,
        (
          here (i * 64 + t) (omega arith) (omega arith) ∙ ap (test_bit w) e ∙ low.here,
          λ q l. ⊎_elim (λ lo. before q lo) (λ ge. here q ge (omega arith) ∙ low.below (q - 64 * i) (omega arith)) (cases_lt q (64 * i)),
        ),
      )

-- the same for `only`: what word i has, and what that says of the row
module _ (l : List ℕ) (base p i : ℕ) where
  abbrev word : ℕ
  word = get_or l (base + i) 0

  -- word i has no digit set but that of p
  abbrev WordOnly : Type 0
  WordOnly = (j : ℕ) → j < 64 → (64 * i + j ≡ p → ⊥) → test_bit word j ≡ false

  pub word-zero : word ≡ 0 → WordOnly
  word-zero e j h ne = ap (λ (x : ℕ). test_bit x j) e ∙ test_bit-none j

  pub word-only : i ≡ p / 64 → word ≡ 2 ^ (p % 64) → WordOnly
  word-only e w j h ne = ap (λ (x : ℕ). test_bit x j) w ∙ test_bit_pow (p % 64) j ∙ ne_eqb j (p % 64) (λ k. ne (omega arith))

  pub only-more : ((q : ℕ) → q < 64 * i → q ≢ p → row_bit l base q ≡ false) → WordOnly → (q : ℕ) → q < 64 * (i + 1) → q ≢ p → row_bit l base q ≡ false
  only-more before w q h ne =
      ⊎_elim (λ lo. before q lo ne) (λ hi. in_word l base i q hi (omega arith) ∙ w (q - 64 * i) (omega arith) (λ e. ne (omega arith))) (cases_lt q (64 * i))

  -- word i has another digit set
  other : (words j : ℕ) → i < words → j < 64 → (64 * i + j ≡ p → ⊥) → test_bit word j ≡ true → OnlyIs (row_bit l base) (64 * words) p false
  other words j hi hj ne on =
      let e : 64 * i + j - 64 * i ≡ j = omega arith in
      (64 * i + j, (omega arith, (ne, in_word l base i (64 * i + j) (omega arith) (omega arith) ∙ ap (test_bit word) e ∙ on)))

  pub other_word : (words : ℕ) → i < words → (i ≡ p / 64 → ⊥) → 0 < word → word < 2 ^ 64 → OnlyIs (row_bit l base) (64 * words) p false
  other_word words hi ne pos fit =
      let low : LowestSet word 64 (count_trailing_zeros 64 word) = trailing_lowest 64 word pos fit in
      let w : count_trailing_zeros 64 word < 64 = low.within in other words (count_trailing_zeros 64 word) hi w (λ e. ne (omega arith)) low.here

  pub other_digit : (words : ℕ) → i < words → i ≡ p / 64 → row_bit l base p ≡ true → word < 2 ^ 64 → (word ≡ 2 ^ (p % 64) → ⊥) → OnlyIs (row_bit l base) (64 * words) p false
  other_digit words hi e on fit ne =
      let r = test_bit-differ 64 word (2 ^ (p % 64)) fit (pow-lt (mod-lt p (zero-lt-suc 63))) ne in
      let j : ℕ = r.0 in
      let here : test_bit word (p % 64) ≡ true =
      (let k : p - 64 * i ≡ p % 64 = omega arith in ap (test_bit word) (sym k) ∙ sym (in_word l base i p (omega arith) (omega arith)) ∙ on) in
      let apart : j ≡ p % 64 → ⊥ =
      λ k. r.1.1 (ap (test_bit word) k ∙ here ∙ sym (test_bit_pow (p % 64) j ∙ eq-eqb j (p % 64) k)) in
      other words j hi r.1.0 (λ k. apart (omega (arith, r.1.0))) (true_from_ne_false (test_bit word j) (λ k. r.1.1 (k ∙ sym (test_bit_pow (p % 64) j ∙ ne_eqb j (p % 64) apart))))
