-- Laws of specs/System.antt.
-- Assumes nothing.
use mathlib.Core.Path.{◌≡◌, refl, sym, ap, ap₂, ◌∙◌}
use mathlib.Core.Logic.{◌≢◌}
use mathlib.Core.Bool.{Bool, true, false, cond, xor}
use mathlib.Core.List.{List}
use Prim.Native.Nat.{ℕ, ◌+◌, ◌*◌, ◌/◌, ◌%◌, ◌≤◌, ◌<◌}
use native.Mathlib.Omega.{arith}
use lib.ListN.{length, get_or, set}
use lib.Seq.{get_or-set_other}
use lib.Dec.{eqb}
use borrow.Author.Tests.{ne_eqb}
use Rattle.buffers.specs.Parts.{added}
use Rattle.elimination.specs.Bits.{test_bit, row_bit}
use Rattle.elimination.specs.Column.{add_row_where}
use Rattle.elimination.proofs.ColumnLaws.{rows_apart, add_row_where-row, add_row_where_bit, add_row_where_single}
use Rattle.algebra.specs.Sums.{◌⊕◌, sum}
use Rattle.algebra.proofs.Sums.{sum_tests, sum-xor, cancel}
use Rattle.elimination.specs.System.{left_side, Solves, SameSolutions, SameCoefficients}
use Rattle.elimination.specs.Reduced.{pivot_at}

-- ---- a row added to others leaves the solutions as they are

-- what a row becomes, as a sum
sum-cond : (t : Bool) (a b : ℕ → Bool) (x : ℕ → ℕ) (n : ℕ)
    → sum (λ q. cond t (xor (a q) (b q)) (a q)) x n ≡ cond t (sum a x n ⊕ sum b x n) (sum a x n)
sum-cond true a b x n = sum-xor a b x n
sum-cond false a b x n = refl

-- and back
cond_cancel : (t : Bool) (a b c d : ℕ) → b ≡ d → cond t (a ⊕ b) a ≡ cond t (c ⊕ d) c → a ≡ c
cond_cancel true a b c d e h = sym (cancel a b) ∙ ap₂ ◌⊕◌ h e ∙ cancel c d
cond_cancel false a b c d e h = h

module _ (h : ℕ → Bool) (l d : List ℕ) (m words width r n : ℕ) (x : ℕ → ℕ → ℕ)
    (own : h r ≡ false) (inside : r < m) (rows : m * (words + 1) ≤ length l) (bytes : m * width ≤ length d) (covers : n ≤ 64 * words) where
  abbrev l' : List ℕ
  l' = add_row_where h l r (words + 1) words m

  abbrev d' : List ℕ
  d' = add_row_where h d r width width m

  added-left : (j i : ℕ) → j < m → left_side l' words n x j i ≡ cond (h j) (left_side l words n x j i ⊕ left_side l words n x r i) (left_side l words n x j i)
  added-left j i hj =
      sum_tests (row_bit l' (j * (words + 1))) (λ q. cond (h j) (xor (row_bit l (j * (words + 1)) q) (row_bit l (r * (words + 1)) q)) (row_bit l (j * (words + 1)) q)) (λ q. x q i) n
      (λ q lt. add_row_where_bit h l r (words + 1) words (omega arith) own m j q rows hj (omega arith))
      ∙ sum-cond (h j) (row_bit l (j * (words + 1))) (row_bit l (r * (words + 1))) (λ q. x q i) n

  added_right : (j i : ℕ) → j < m → i < width → get_or d' (j * width + i) 0 ≡ cond (h j) (get_or d (j * width + i) 0 ⊕ get_or d (r * width + i) 0) (get_or d (j * width + i) 0)
  added_right j i hj hi = add_row_where-row h d r width width (omega arith) own m j i bytes hj hi

  added-solves : Solves l d m words width n x → Solves l' d' m words width n x
  added-solves s j i hj hi = added-left j i hj ∙ ap₂ (cond (h j)) (ap₂ ◌⊕◌ (s j i hj hi) (s r i inside hi)) (s j i hj hi) ∙ sym (added_right j i hj hi)

  added-solved : Solves l' d' m words width n x → Solves l d m words width n x
  added-solved s j i hj hi =
      let off : (a b : ℕ) → cond (h r) a b ≡ b = λ a b. ap (λ (t : Bool). cond t a b) own in
      let pivot : left_side l words n x r i ≡ get_or d (r * width + i) 0 =
      sym (off _ _) ∙ sym (added-left r i inside) ∙ s r i inside hi ∙ added_right r i inside hi ∙ off _ _ in
      cond_cancel (h j) _ _ _ _ pivot (sym (added-left j i hj) ∙ s j i hj hi ∙ added_right j i hj hi)

-- where neither row has an unknown, their sum has not
cond_off : (t : Bool) → cond t (xor false false) false ≡ false
unfolding xor
cond_off true = refl
cond_off false = refl

pub add_row_where-same : (h : ℕ → Bool) (l d : List ℕ) (m words width r : ℕ) → h r ≡ false → r < m → m * (words + 1) ≤ length l → m * width ≤ length d
    → SameSolutions l d (add_row_where h l r (words + 1) words m) (add_row_where h d r width width m) m words width
add_row_where-same h l d m words width r own inside rows bytes = record {
  solves = λ n x covers. (added-solves h l d m words width r n x own inside rows bytes covers, added-solved h l d m words width r n x own inside rows bytes covers);
  absent = λ q hq none j hj.
      add_row_where_bit h l r (words + 1) words (omega arith) own m j q rows hj (omega arith)
      ∙ ap₂ (λ (a b : Bool). cond (h j) (xor a b) a) (none j hj) (none r inside) ∙ cond_off (h j);
}

-- ---- one row added to another

pub add_same : (l d l' d' : List ℕ) (m words width r j : ℕ) → r < m → j < m → j ≢ r → m * (words + 1) ≤ length l → m * width ≤ length d
    → l' ≡ added l (j * (words + 1)) l (r * (words + 1)) words → d' ≡ added d (j * width) d (r * width) width → SameSolutions l d l' d' m words width
add_same l d l' d' m words width r j inside hj ne rows bytes el ed =
    rw (el ∙ add_row_where_single l r (words + 1) words m j hj, ed ∙ add_row_where_single d r width width m j hj)
    (add_row_where-same (λ i. eqb i j) l d m words width r (ne_eqb r j (λ e. ne (sym e))) inside rows bytes)

pub same_refl : {l d : List ℕ} {m words width : ℕ} → SameSolutions l d l d m words width
same_refl = record { solves = λ n x h. (λ s. s, λ s. s); absent = λ q h none. none }

pub same_trans : {l d l' d' l'' d'' : List ℕ} {m words width : ℕ} → SameSolutions l d l' d' m words width → SameSolutions l' d' l'' d'' m words width → SameSolutions l d l'' d'' m words width
same_trans f g = record {
  solves = λ n x h. (λ s. (g.solves n x h).0 ((f.solves n x h).0 s), λ s. (f.solves n x h).1 ((g.solves n x h).1 s));
  absent = λ q h none. g.absent q h (f.absent q h none);
}

-- ---- the pivot words take no part

pub coefficients_trans : (l l' l'' : List ℕ) (words : ℕ) → SameCoefficients l l' words → SameCoefficients l' l'' words → SameCoefficients l l'' words
coefficients_trans _ _ _ words f g j k h = g j k h ∙ f j k h

pub coefficients_pivot_set : (l : List ℕ) (words r v : ℕ) → SameCoefficients l (set l (pivot_at words r) v) words
coefficients_pivot_set l words r v j k h =
    get_or-set_other l (pivot_at words r) (j * (words + 1) + k) v 0
    (λ e. rows_apart j r (words + 1) (λ s. let f : j * (words + 1) ≡ r * (words + 1) = ap (λ (x : ℕ). x * (words + 1)) s in omega arith) k words (omega arith) (omega arith) e)

pub coefficients_bit : (l l' : List ℕ) (words : ℕ) → SameCoefficients l l' words → (j q : ℕ) → q < 64 * words → row_bit l' (j * (words + 1)) q ≡ row_bit l (j * (words + 1)) q
unfolding row_bit
coefficients_bit l l' words same j q h = ap (λ (x : ℕ). test_bit x (q % 64)) (same j (q / 64) (omega arith))

pub coefficients_same : (l l' d : List ℕ) (m words width : ℕ) → SameCoefficients l l' words → SameSolutions l d l' d m words width
coefficients_same l l' d m words width same = record {
  solves = λ n x covers.
      let left : (j i : ℕ) → left_side l' words n x j i ≡ left_side l words n x j i = λ j i. sum_tests _ _ (λ q. x q i) n (λ q h. coefficients_bit l l' words same j q (omega arith)) in
      (λ s j i hj hi. left j i ∙ s j i hj hi, λ s j i hj hi. sym (left j i) ∙ s j i hj hi);
  absent = λ q h none j hj. coefficients_bit l l' words same j q h ∙ none j hj;
}
