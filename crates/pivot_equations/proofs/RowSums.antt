-- A row as the sum of the positions of a check row.
-- Assumes nothing.
use mathlib.Core.Path.{◌≡◌, refl, sym, ap, ap₂, ◌∙◌, subst}
use mathlib.Core.Bool.{Bool, true, false, cond}
use Rattle.std.specs.Prelude.{Option}
use mathlib.Core.List.{List, ◌++◌}
use Prim.Native.Nat.{ℕ, ◌+◌, ◌*◌, ◌/◌, ◌%◌, ◌<◌, ◌≤◌}
use native.Mathlib.Numerals.{add-one}
use native.Mathlib.Omega.{arith}
use lib.ListN.{length, get_or, take, drop, replicate}
use Rattle.std.proofs.lemmas.List.{get_or-take}
use Rattle.algebra.specs.Sums.{◌⊕◌, pick, sum}
use Rattle.algebra.specs.Codeword.{Checks}
use Rattle.algebra.proofs.Sums.{sum-suc, sum_ext, pick-xor}
use Rattle.symbol_sums.specs.Gather.{gathered}
use Rattle.encoder.specs.inner.Positions.{RowOf}
use Rattle.elimination.specs.Bits.{test_bit, row_bit}
use Rattle.elimination.proofs.Digits.{test_bit-none}
use Rattle.peeling.specs.Plan.{Arrays, kind_of}
use Rattle.pivot_equations.specs.Express.{depends_on, coefficient, Reads, OnlyRow, Added, RowIs, is_left_out, kind_but, ReadsAll}
use Rattle.peeling.proofs.Zeroing.{zeros_size, zeros_in, zeros_out, zeroed}
use Rattle.pivot_equations.proofs.Dependence.{depends_none}
use Rattle.pivot_equations.proofs.RowChanges.{only_none, only-more, depends_same, reads_same, add_none}

-- ---- every position but the one that is left out

module _ {l : List ℕ} {words early t : ℕ} (plan : Arrays) (but : Option ℕ) (x : ℕ) where
  pub reads_other : {rows : ℕ} → is_left_out but x ≡ false → Reads l words early rows t (kind_but plan but x) → Reads l words early rows t (kind_of plan x)
  reads_other ne r = rw ne at r

  pub added_own : is_left_out but x ≡ true → Added l l words early t (kind_but plan but x)
  added_own e = rw e (add_none (omega arith))

module _ {c : Checks} {plan : Arrays} {l l' : List ℕ} {words early rows t : ℕ} {but : Option ℕ} where
  pub reads_all_same : OnlyRow l l' words t → ReadsAll c plan l words early rows t but → ReadsAll c plan l' words early rows t but
  reads_all_same o r = record { each = λ x h. reads_same o (r.each x h) }

-- ---- a row is cleared

-- row t of l' is cleared
pub record Cleared (l l' : List ℕ) (words t : ℕ) : Type 0 where
  pub only : OnlyRow l l' words t
  pub zeros : (k : ℕ) → k < words → get_or l' (t * (words + 1) + k) 0 ≡ 0

-- k is spelled at + (words + 1) - at in the code
pub cleared : (l ys : List ℕ) (words t k : ℕ) → k ≡ words + 1 → t * (words + 1) + (words + 1) ≤ length l → ys ≡ replicate (length (take k (drop (t * (words + 1)) l))) 0
    → Cleared l (take (t * (words + 1)) l ++ (ys ++ drop k (drop (t * (words + 1)) l))) words t
cleared l ys words t k e fit r = subst (λ (x : List ℕ). Cleared l x words t) (sym (zeroed l ys (t * (words + 1)) k (words + 1) e fit r)) (record {
  only = record { size = zeros_size l (t * (words + 1)) (words + 1); outside = zeros_out l (t * (words + 1)) (words + 1) };
  zeros = λ i h. zeros_in l (t * (words + 1)) (words + 1) fit i (omega arith);
})

-- ---- the sum, position by position

-- row t of l' is the sum of the first k positions of xs, but for the one that is left out
pub record SumTo (plan : Arrays) (l l' xs : List ℕ) (words early t : ℕ) (but : Option ℕ) (k : ℕ) : Type 0 where
  pub only : OnlyRow l l' words t
  pub bits : (i : ℕ) → i < 64 * words → pick (row_bit l' (t * (words + 1)) i) 1 ≡ gathered (λ x. pick (depends_on l words early (kind_but plan but x) i) 1) xs k

module _ {plan : Arrays} {l xs : List ℕ} {words early t : ℕ} {but : Option ℕ} where
  pub sum-none : {l₀ : List ℕ} → Cleared l₀ l words t → SumTo plan l l xs words early t but 0
  unfolding row_bit sum
  sum-none z = record {
    only = only_none;
    bits = λ i h. ap (λ (x : ℕ). pick (test_bit x (i % 64)) 1) (z.zeros (i / 64) (omega arith)) ∙ ap (λ (b : Bool). pick b 1) (test_bit-none (i % 64));
  }

  pub sum_more : {l' l'' : List ℕ} {rows k : ℕ} → SumTo plan l l' xs words early t but k → Reads l words early rows t (kind_but plan but (get_or xs k 0))
      → Added l' l'' words early t (kind_but plan but (get_or xs k 0)) → SumTo plan l l'' xs words early t but (k + 1)
  sum_more {l'} {l''} {k} s r a = record {
    only = only-more s.only a.only;
    bits = λ i h.
        ap (λ (b : Bool). pick b 1) (a.bits i h) ∙ pick-xor (row_bit l' (t * (words + 1)) i) (depends_on l' words early (kind_but plan but (get_or xs k 0)) i) 1
        ∙ ap₂ ◌⊕◌ (s.bits i h) (ap (λ (b : Bool). pick b 1) (depends_same s.only r i h))
        ∙ sym (sum-suc (λ q. true) (λ q. pick (depends_on l words early (kind_but plan but (get_or xs q 0)) i) 1) k)
        ∙ ap (gathered (λ x. pick (depends_on l words early (kind_but plan but x) i) 1) xs) (sym (add-one k));
  }

-- ---- all of them

coefficient_but : (plan : Arrays) (l : List ℕ) (words early : ℕ) (but : Option ℕ) (x i : ℕ) → pick (depends_on l words early (kind_but plan but x) i) 1 ≡ cond (is_left_out but x) 0 (coefficient plan l words early x i)
coefficient_but plan l words early but x i = go (is_left_out but x)
  where
    go : (b : Bool) → pick (depends_on l words early (cond b 0 (kind_of plan x)) i) 1 ≡ cond b 0 (coefficient plan l words early x i)
    go true = ap (λ (b : Bool). pick b 1) (depends_none l words early 0 i (omega arith))
    go false = refl

-- the first n positions, as a list of their own
gathered_take : (f : ℕ → ℕ) (xs : List ℕ) (n : ℕ) → gathered f (take n xs) n ≡ gathered f xs n
gathered_take f xs n = sum_ext (λ i. true) _ _ n (λ i h. ap f (get_or-take n xs i 0 h))

-- l₁ is l with row t cleared, and l' has all n positions of check row j
pub row_is : {c : Checks} {plan : Arrays} {l l₁ l' xs : List ℕ} {words early rows t j n k : ℕ} {but : Option ℕ} → OnlyRow l l₁ words t → ReadsAll c plan l words early rows t but → RowOf c j n xs
    → SumTo plan l₁ l' (take n xs) words early t but k → k ≡ n → RowIs c plan l l' words early t j but
row_is {c} {plan} {l} {l₁} {l'} {xs} {words} {early} {rows} {t} {j} {n} {k} {but} o r of s e = record {
  only = only-more o s.only;
  bits = λ i h.
      let f : ℕ → ℕ = λ x. pick (depends_on l₁ words early (kind_but plan but x) i) 1 in
      s.bits i h ∙ ap (gathered f (take n xs)) e ∙ gathered_take f xs n
      ∙ of.total f
      ∙ sum_ext (c.has j) _ _ c.n (λ x g. ap (λ (b : Bool). pick b 1) (depends_same o (r.each x g) i h) ∙ coefficient_but plan l words early but x i);
}
