-- Laws of specs/Column.antt.
-- Assumes nothing.
use mathlib.Core.Path.{◌≡◌, refl, sym, ap, ap₂, ◌∙◌}
use mathlib.Core.Logic.{◌≢◌, inl, inr, ⊎_elim}
use mathlib.Core.Bool.{Bool, true, false, true≢false, cond, not, xor, ◌&&◌}
use mathlib.Core.List.{List}
use Prim.Native.Nat.{ℕ, zero, suc, ◌+◌, ◌*◌, ◌/◌, ◌%◌, ◌≤◌, ◌<◌}
use native.Mathlib.Nat.{suc-mul, mul-le-mul_right, eq-or-lt_of_le, le_of_suc-le-suc}
use native.Mathlib.Numerals.{add-one}
use native.Mathlib.Omega.{arith}
use borrow.Author.Tests.{eq-eqb, ne_eqb}
use lib.Dec.{eqb}
use lib.ListN.{length, get_or}
use Rattle.algebra.specs.Sums.{◌⊕◌}
use Rattle.std.proofs.lemmas.Bool.{cases_lt}
use Rattle.algebra.proofs.Codeword.{slot}
use Rattle.buffers.specs.Parts.{added, Apart}
use Rattle.buffers.proofs.Added.{added-length, added_out, added_above, added_in}
use Rattle.elimination.specs.Bits.{test_bit, row_bit}
use Rattle.elimination.proofs.Digits.{test_bit-xor}
use Rattle.elimination.specs.Column.{add_row, add_row_where, has_pivot}

-- what holds of either choice holds of the choice
pub cond-elim {ℓ} : {A : Type ℓ} (P : A → Type 0) (b : Bool) (x y : A) → (b ≡ true → P x) → (b ≡ false → P y) → P (cond b x y)
cond-elim P true x y f g = f refl
cond-elim P false x y f g = g refl

pub cond_both {ℓ κ} : {A : Type ℓ} {B : Type κ} (f : A → B) (b : Bool) (x y : A) (u v : B) → (b ≡ true → f x ≡ u) → f y ≡ v → f (cond b x y) ≡ cond b u v
cond_both f true x y u v p q = p refl
cond_both f false x y u v p q = q

pub length-add_row_where : (h : ℕ → Bool) (l : List ℕ) (r w len n : ℕ) → length (add_row_where h l r w len n) ≡ length l
unfolding add_row_where
length-add_row_where h l r w len zero = refl
length-add_row_where h l r w len (suc j) =
    cond-elim (λ (x : List ℕ). length x ≡ length l) (h j) _ _ (λ _. added-length _ (j * w) _ (r * w) len ∙ length-add_row_where h l r w len j)
    (λ _. length-add_row_where h l r w len j)

-- ---- what stands where

-- two rows are apart, and so are their first len elements
pub rows_beside : (a b w len : ℕ) → a ≢ b → len ≤ w → Apart (b * w) (a * w) len
rows_beside a b w len ne small = record {
  either = ⊎_elim (λ lt. inl (omega (arith, slot a b w lt)))
      (λ ge. ⊎_elim (λ q. absurd (ne (sym q))) (λ gt. inr (omega (arith, slot b a w gt))) (eq-or-lt_of_le ge)) (cases_lt a b);
}

-- so they have no index in common
pub rows_apart : (a b w : ℕ) → a ≢ b → (i j : ℕ) → i < w → j < w → a * w + i ≡ b * w + j → ⊥
rows_apart a b w ne i j hi hj e = ⊎_elim (λ below. omega arith) (λ above. omega arith) (rows_beside a b w w ne (omega arith)).either

module _ (h : ℕ → Bool) (l : List ℕ) (r w len : ℕ) (small : len ≤ w) (own : h r ≡ false) where
  not_own : (j : ℕ) → h j ≡ true → j ≡ r → ⊥
  not_own j t e = true≢false (sym t ∙ ap h e ∙ own)

  -- the rows that are not reached yet
  pub add_row_where_ahead : (n k : ℕ) → n * w ≤ k → get_or (add_row_where h l r w len n) k 0 ≡ get_or l k 0
  unfolding add_row_where
  add_row_where_ahead zero k g = refl
  add_row_where_ahead (suc j) k g =
      let ih : get_or (add_row_where h l r w len j) k 0 ≡ get_or l k 0 = add_row_where_ahead j k (omega (arith, suc-mul j w)) in
      cond-elim (λ (x : List ℕ). get_or x k 0 ≡ get_or l k 0) (h j) _ _ (λ _. added_above _ (j * w) _ (r * w) len k (omega (arith, suc-mul j w)) ∙ ih) (λ _. ih)

  -- row r itself
  pub add_row_where_own : (n i : ℕ) → i < w → get_or (add_row_where h l r w len n) (r * w + i) 0 ≡ get_or l (r * w + i) 0
  unfolding add_row_where
  add_row_where_own zero i g = refl
  add_row_where_own (suc j) i g =
      cond-elim (λ (x : List ℕ). get_or x (r * w + i) 0 ≡ get_or l (r * w + i) 0) (h j) _ _
      (λ t. added_out _ (j * w) _ (r * w) len (r * w + i) (λ k hk e. rows_apart j r w (not_own j t) k i (omega arith) g (sym e)) ∙ add_row_where_own j i g)
      (λ _. add_row_where_own j i g)

  -- the elements of a row that take no part
  pub add_row_where-rest : (n j i : ℕ) → len ≤ i → i < w → get_or (add_row_where h l r w len n) (j * w + i) 0 ≡ get_or l (j * w + i) 0
  unfolding add_row_where
  add_row_where-rest zero j i g hi = refl
  add_row_where-rest (suc n) j i g hi =
      cond-elim (λ (x : List ℕ). get_or x (j * w + i) 0 ≡ get_or l (j * w + i) 0) (h n) _ _
      (λ t. added_out _ (n * w) _ (r * w) len (j * w + i) (λ k hk e. rows_apart j n w (λ q. let f : j * w ≡ n * w = ap (λ (x : ℕ). x * w) q in omega arith) i k hi (omega arith) e) ∙ add_row_where-rest n j i g hi)
      (λ _. add_row_where-rest n j i g hi)

  -- the elements of a row that was reached: of the last such row, and then of each
  add_row_where-last : (n i : ℕ) → n * w + w ≤ length l → i < len
      → get_or (add_row_where h l r w len (suc n)) (n * w + i) 0 ≡ cond (h n) (get_or l (n * w + i) 0 ⊕ get_or l (r * w + i) 0) (get_or l (n * w + i) 0)
  unfolding add_row_where
  add_row_where-last n i fit hi =
      let same : get_or (add_row_where h l r w len n) (n * w + i) 0 ≡ get_or l (n * w + i) 0 = add_row_where_ahead n (n * w + i) (omega arith) in
      cond_both (λ (x : List ℕ). get_or x (n * w + i) 0) (h n) _ _ _ _
      (λ _. added_in (add_row_where h l r w len n) (n * w) _ (r * w) len i hi (omega (arith, length-add_row_where h l r w len n)) ∙ ap₂ ◌⊕◌ same (add_row_where_own n i (omega arith))) same

  pub add_row_where-row : (n j i : ℕ) → n * w ≤ length l → j < n → i < len
      → get_or (add_row_where h l r w len n) (j * w + i) 0 ≡ cond (h j) (get_or l (j * w + i) 0 ⊕ get_or l (r * w + i) 0) (get_or l (j * w + i) 0)
  unfolding add_row_where
  add_row_where-row zero j i fit g hi = absurd (omega arith)
  add_row_where-row (suc n) j i fit g hi =
      ⊎_elim (λ e. rw e (add_row_where-last n i (omega (arith, suc-mul n w)) hi))
      (λ lt. cond-elim (λ (x : List ℕ). get_or x (j * w + i) 0 ≡ get_or (add_row_where h l r w len n) (j * w + i) 0) (h n) _ _
      (λ t. added_out _ (n * w) _ (r * w) len (j * w + i) (λ k hk e. rows_apart j n w (λ q. omega arith) i k (omega arith) (omega arith) e)) (λ _. refl)
      ∙ add_row_where-row n j i (omega (arith, suc-mul n w)) lt hi) (eq-or-lt_of_le (le_of_suc-le-suc g))

  -- the same of the bits of a row, where the list is words of 64 unknowns
  pub add_row_where_bit : (n j q : ℕ) → n * w ≤ length l → j < n → q / 64 < len
      → row_bit (add_row_where h l r w len n) (j * w) q ≡ cond (h j) (xor (row_bit l (j * w) q) (row_bit l (r * w) q)) (row_bit l (j * w) q)
  unfolding row_bit
  add_row_where_bit n j q fit g hq =
      ap (λ (x : ℕ). test_bit x (q % 64)) (add_row_where-row n j (q / 64) fit g hq)
      ∙ cond_both (λ (x : ℕ). test_bit x (q % 64)) (h j) _ _ _ _ (λ _. test_bit-xor (get_or l (j * w + q / 64) 0) (get_or l (r * w + q / 64) 0) (q % 64)) refl

-- ---- the rows that have the pivot

pub has_pivot_own : (l : List ℕ) (w r p j : ℕ) → j ≡ r → has_pivot l w r p j ≡ false
unfolding has_pivot
has_pivot_own l w r p j e = ap (λ (b : Bool). not b && row_bit l (j * w) p) (eq-eqb j r e)

pub has_pivot_other : (l : List ℕ) (w r p j : ℕ) → j ≢ r → has_pivot l w r p j ≡ row_bit l (j * w) p
unfolding has_pivot
has_pivot_other l w r p j ne = ap (λ (b : Bool). not b && row_bit l (j * w) p) (ne_eqb j r ne)

pub has_pivot_ne : (l : List ℕ) (w r p j : ℕ) → has_pivot l w r p j ≡ true → r ≢ j
has_pivot_ne l w r p j t e = true≢false (sym t ∙ has_pivot_own l w r p j (sym e))

-- it goes by the word of row j that holds p, and by no other
pub has_pivot-same : (l x : List ℕ) (w r p j : ℕ) → get_or x (j * w + p / 64) 0 ≡ get_or l (j * w + p / 64) 0 → has_pivot x w r p j ≡ has_pivot l w r p j
unfolding has_pivot row_bit
has_pivot-same l x w r p j e = ap (λ (v : ℕ). not (eqb j r) && test_bit v (p % 64)) e

-- so each row that is not reached yet has the pivot as it had it
pub has_pivot_ahead : (l x : List ℕ) (w len r p j k : ℕ) → len ≤ w → x ≡ add_row_where (has_pivot l w r p) l r w len j → j ≤ k → has_pivot x w r p k ≡ has_pivot l w r p k
has_pivot_ahead l x w len r p j k small e h =
    has_pivot-same l x w r p k (ap (λ (y : List ℕ). get_or y (k * w + p / 64) 0) e
    ∙ add_row_where_ahead (has_pivot l w r p) l r w len small (has_pivot_own l w r p r refl) j (k * w + p / 64) (omega (arith, mul-le-mul_right w h)))

-- ---- what the loop needs: row r added to row j. y is the list, the rows themselves or the right-hand side, after j rows

pub add_row_where-one : (h : ℕ → Bool) (d y z : List ℕ) (r w n j : ℕ) → h j ≡ true → y ≡ add_row_where h d r w n j → z ≡ added y (j * w) y (r * w) n → z ≡ add_row_where h d r w n (j + 1)
unfolding add_row_where
add_row_where-one h d y z r w n j t ey ez = ez ∙ rw (add-one, t, ey)

-- ---- rows that all stay

pub add_row_where_skip : (h : ℕ → Bool) (l : List ℕ) (r w len n j : ℕ) → j ≤ n → ((k : ℕ) → j ≤ k → k < n → h k ≡ false) → add_row_where h l r w len j ≡ add_row_where h l r w len n
unfolding add_row_where
add_row_where_skip h l r w len zero j g off = let e : j ≡ 0 = omega arith in ap (add_row_where h l r w len) e
add_row_where_skip h l r w len (suc n) j g off =
    ⊎_elim (λ e. ap (add_row_where h l r w len) e)
    (λ lt. add_row_where_skip h l r w len n j (omega arith) (λ k a b. off k a (omega arith)) ∙ sym (ap (λ (b : Bool). add_row b (add_row_where h l r w len n) r w len n) (off n (omega arith) (omega arith))))
    (eq-or-lt_of_le g)

-- ---- what the search for the next row needs: one row more

pub between_more : (h : ℕ → Bool) (j k : ℕ) → ((i : ℕ) → j ≤ i → i < k → h i ≡ false) → h k ≡ false → (i : ℕ) → j ≤ i → i < k + 1 → h i ≡ false
between_more h j k off here i a b = ⊎_elim (λ e. ap h e ∙ here) (λ lt. off i a lt) (eq-or-lt_of_le (let g : i ≤ k = omega arith in g))

-- ---- one row alone

pub add_row_where_single : (l : List ℕ) (r w len m j : ℕ) → j < m → added l (j * w) l (r * w) len ≡ add_row_where (λ i. eqb i j) l r w len m
unfolding add_row_where
add_row_where_single l r w len m j h =
    add_row_where-one (λ i. eqb i j) l l (added l (j * w) l (r * w) len) r w len j (eq-eqb j j refl)
    (add_row_where_skip (λ i. eqb i j) l r w len j 0 (omega arith) (λ k a b. ne_eqb k j (λ e. omega arith))) refl
    ∙ add_row_where_skip (λ i. eqb i j) l r w len m (j + 1) (omega arith) (λ k a b. ne_eqb k j (λ e. omega arith))

-- ---- no row at all

pub add_row_where-none : (h : ℕ → Bool) (l : List ℕ) (r w len m : ℕ) → ((k : ℕ) → k < m → h k ≡ false) → l ≡ add_row_where h l r w len m
unfolding add_row_where
add_row_where-none h l r w len m off = add_row_where_skip h l r w len m 0 (omega arith) (λ k a b. off k b)
