-- Along a plan every position is known, settled by a step from positions before it, or a pivot: so a word is fixed by its known symbols and its pivots.
-- Assumes nothing.
use mathlib.Core.Path.{◌≡◌, refl, sym, ap, ap₂, ◌∙◌}
use mathlib.Core.Logic.{◌⊎◌, inl, inr, ◌≢◌}
use mathlib.Core.Bool.{Bool, true, false, ◌&&◌}
use mathlib.Core.List.{List}
use Prim.Native.Nat.{ℕ, zero, suc, ◌+◌, ◌<◌, ◌≤◌}
use native.Mathlib.Nat.{le_refl, le-suc, le_trans, not-suc-le-zero}
use native.Mathlib.Decide.{ℕ_discrete}
use native.Mathlib.Omega.{arith}
use lib.Dec.{eqb}
use borrow.Author.Tests.{eq-eqb, ne_eqb, eqb-true}
use Rattle.algebra.specs.Sums.{◌⊕◌, pick, sum}
use Rattle.algebra.specs.Codeword.{Checks}
use Rattle.peeling.specs.States.{is_known}
use Rattle.algebra.proofs.Sums.{unit, self, eq_of_add, add4, sum_terms, sum_zeros, sum-only, sum-none, odd, pick-xor}
use Rattle.peeling.specs.Plan.{Arrays, Plan, Closed, Sort, Before, kind_of, row_of, position_of, pivot_of}

-- position p is known, settled by one of the first s steps, or a pivot
abbrev pub Sorted : (ℕ → Bool) → (ℕ → ℕ) → ℕ → (ℕ → ℕ) → ℕ → ℕ → Type 0
Sorted known pos pivots piv s p = (known p ≡ true) ⊎ (((t : ℕ) × ((t < s) × (pos t ≡ p))) ⊎ ((u : ℕ) × ((u < pivots) × (piv u ≡ p))))

-- every position is known, settled by a step or a pivot, and a step's row has just one position that is not so before the step
pub record Triangular (c : Checks) (known : ℕ → Bool) (steps : ℕ) (row pos : ℕ → ℕ) (pivots : ℕ) (piv : ℕ → ℕ) : Type 0 where
  pub sort : (p : ℕ) → p < c.n → Sorted known pos pivots piv steps p
  pub here : (t : ℕ) → t < steps → (pos t < c.n) × (c.has (row t) (pos t) ≡ true)
  pub others : (t p : ℕ) → t < steps → p < c.n → c.has (row t) p ≡ true → p ≢ pos t → Sorted known pos pivots piv t p
  pub inside : (u : ℕ) → u < pivots → piv u < c.n

-- ---- sums

-- one test holds where a number is not zero
pub sum_single : (a : ℕ → Bool) (x : ℕ → ℕ) (q n : ℕ) → q < n → a q ≡ true → ((p : ℕ) → p < n → a p ≡ true → p ≢ q → x p ≡ 0) → sum a x n ≡ x q
sum_single a x q n h t out =
    sum_terms a (λ i. eqb i q) x x n (λ p l. go p (ℕ_discrete p q) (a p) refl (out p l))
    ∙ sum-only (λ i. eqb i q) x q n h (eq-eqb q q refl) (λ p l e. eqb-true p q e)
  where
    zeros : (b d : Bool) (v : ℕ) → v ≡ 0 → pick b v ≡ pick d v
    zeros true true v e = refl
    zeros true false v e = e
    zeros false true v e = sym e
    zeros false false v e = refl

    go : (p : ℕ) → Dec (p ≡ q) → (b : Bool) → a p ≡ b → (a p ≡ true → p ≢ q → x p ≡ 0) → pick b (x p) ≡ pick (eqb p q) (x p)
    go p (yes e) b f o = ap (λ (d : Bool). pick d (x p)) (sym f ∙ ap a e ∙ t ∙ sym (eq-eqb p q e))
    go p (no e) true f o = zeros true (eqb p q) (x p) (o f e)
    go p (no e) false f o = sym (ap (λ (d : Bool). pick d (x p)) (ne_eqb p q e))

pick_add : (b : Bool) (u v : ℕ) → pick b (u ⊕ v) ≡ pick b u ⊕ pick b v
pick_add true u v = refl
pick_add false u v = sym (unit 0)

-- the numbers of two sums added
pub sum_add : (a : ℕ → Bool) (x y : ℕ → ℕ) (n : ℕ) → sum a (λ p. x p ⊕ y p) n ≡ sum a x n ⊕ sum a y n
unfolding sum
sum_add a x y zero = sym (unit 0)
sum_add a x y (suc n) =
    ap₂ ◌⊕◌ (sum_add a x y n) (pick_add (a n) (x n) (y n)) ∙ add4 (sum a x n) (sum a y n) (pick (a n) (x n)) (pick (a n) (y n))

-- a number added as often as two tests hold together
sum_odd : (a f : ℕ → Bool) (v n : ℕ) → sum a (λ p. pick (f p) v) n ≡ pick (odd n (λ p. a p && f p)) v
unfolding sum odd
sum_odd a f v zero = refl
sum_odd a f v (suc n) =
    ap₂ ◌⊕◌ (sum_odd a f v n) (both (a n) (f n)) ∙ sym (pick-xor (odd n (λ p. a p && f p)) (a n && f n) v)
  where
    both : (b d : Bool) → pick b (pick d v) ≡ pick (b && d) v
    both true d = refl
    both false d = refl

pub pick-one : (a b : Bool) → pick a 1 ≡ pick b 1 → a ≡ b
pick-one true true e = refl
pick-one true false e = absurd (omega arith)
pick-one false true e = absurd (omega arith)
pick-one false false e = refl

-- a sum of sums, taken the other way
pub exchange : (a : ℕ → Bool) (e : ℕ → ℕ → Bool) (r : ℕ → Bool) (v : ℕ → ℕ) (n s : ℕ)
    → ((i : ℕ) → i < s → sum a (λ p. pick (e p i) 1) n ≡ pick (r i) 1) → sum a (λ p. sum (e p) v s) n ≡ sum r v s
unfolding sum
exchange a e r v n zero h = sum_zeros a n
exchange a e r v n (suc s) h =
    sum_add a (λ p. sum (e p) v s) (λ p. pick (e p s) (v s)) n
    ∙ ap₂ ◌⊕◌ (exchange a e r v n s (λ i l. h i (le_trans l (le-suc s))))
    (sum_odd a (λ p. e p s) (v s) n
    ∙ ap (λ (b : Bool). pick b (v s)) (pick-one (odd n (λ p. a p && e p s)) (r s) (sym (sum_odd a (λ p. e p s) 1 n) ∙ h s (le_refl (suc s)))))

-- ---- words

module _ {c : Checks} {known : ℕ → Bool} {steps : ℕ} {row pos : ℕ → ℕ} {pivots : ℕ} {piv : ℕ → ℕ} (T : Triangular c known steps row pos pivots piv) where
  -- zero at what is known and at the pivots, and along the steps: zero everywhere
  pub vanishes : (d : ℕ → ℕ) → ((p : ℕ) → p < c.n → known p ≡ true → d p ≡ 0) → ((u : ℕ) → u < pivots → d (piv u) ≡ 0)
      → ((t : ℕ) → t < steps → sum (c.has (row t)) d c.n ≡ 0) → (p : ℕ) → p < c.n → d p ≡ 0
  vanishes d dk dp ds p h = closed p h steps (T.sort p h) (settled steps (le_refl steps))
    where
      closed : (p : ℕ) → p < c.n → (s : ℕ) → Sorted known pos pivots piv s p → ((t : ℕ) → t < s → d (pos t) ≡ 0) → d p ≡ 0
      closed p h s (inl k) z = dk p h k
      closed p h s (inr (inl (t, (l, e)))) z = ap d (sym e) ∙ z t l
      closed p h s (inr (inr (u, (l, e)))) z = ap d (sym e) ∙ dp u l

      last : (s : ℕ) → s < steps → ((t : ℕ) → t < s → d (pos t) ≡ 0) → d (pos s) ≡ 0
      last s l z =
          sym (sum_single (c.has (row s)) d (pos s) c.n (T.here s l).0 (T.here s l).1 (λ p h t ne. closed p h s (T.others s p l h t ne) z)) ∙ ds s l

      more : (s t : ℕ) → Dec (t ≡ s) → t < suc s → s < steps → ((t : ℕ) → t < s → d (pos t) ≡ 0) → d (pos t) ≡ 0
      more s t (yes e) h l z = ap (λ (q : ℕ). d (pos q)) e ∙ last s l z
      more s t (no e) h l z = z t (omega arith)

      settled : (s : ℕ) → s ≤ steps → (t : ℕ) → t < s → d (pos t) ≡ 0
      settled zero l t h = absurd (not-suc-le-zero h)
      settled (suc s) l t h = more s t (ℕ_discrete t s) h l (settled s (le_trans (le-suc s) l))

  -- y plus the same sums of v at what is known and at the pivots, and along the steps: so everywhere
  pub expressed : (x y : ℕ → ℕ) (e : ℕ → ℕ → Bool) (v : ℕ → ℕ) (s : ℕ)
      → ((p : ℕ) → p < c.n → known p ≡ true → x p ≡ y p ⊕ sum (e p) v s)
      → ((u : ℕ) → u < pivots → x (piv u) ≡ y (piv u) ⊕ sum (e (piv u)) v s)
      → ((t : ℕ) → t < steps → sum (c.has (row t)) x c.n ≡ 0)
      → ((t : ℕ) → t < steps → sum (c.has (row t)) y c.n ≡ 0)
      → ((t i : ℕ) → t < steps → i < s → sum (c.has (row t)) (λ p. pick (e p i) 1) c.n ≡ 0)
      → (p : ℕ) → p < c.n → x p ≡ y p ⊕ sum (e p) v s
  expressed x y e v s xk xp xs ys es p h =
      eq_of_add (x p) (y p ⊕ sum (e p) v s)
      (vanishes (λ q. x q ⊕ (y q ⊕ sum (e q) v s)) (λ q l k. none (xk q l k)) (λ u l. none (xp u l)) (λ t l.
      let has : ℕ → Bool = c.has (row t) in
      sum_add has x (λ q. y q ⊕ sum (e q) v s) c.n
      ∙ ap₂ ◌⊕◌ (xs t l)
      (sum_add has y (λ q. sum (e q) v s) c.n
      ∙ ap₂ ◌⊕◌ (ys t l) (exchange has e (λ i. false) v c.n s (λ i k. es t i l k) ∙ sum-none (λ i. false) v s (λ i k. refl)) ∙ unit 0)
      ∙ unit 0) p h)
    where
      none : {a b : ℕ} → a ≡ b → a ⊕ b ≡ 0
      none {a} {b} k = ap (λ (z : ℕ). z ⊕ b) k ∙ self b

-- ---- plans

module _ {c : Checks} {states : List ℕ} {plan : Arrays} {early steps pivots : ℕ} (P : Plan c states plan early steps pivots) (closed : Closed c plan) where
  -- what a position is, by the sort of a missing one
  its_sort : (p : ℕ) → p < c.n → (s : ℕ) → ((t : ℕ) → t < steps → position_of plan t ≡ p → t < s) → (b : Bool) → is_known states p ≡ b
      → Sorted (is_known states) (position_of plan) pivots (pivot_of plan) s p
  its_sort p h s below true e = inl e
  its_sort p h s below false e = go (P.sort p h e)
    where
      go : Sort plan steps pivots p → Sorted (is_known states) (position_of plan) pivots (pivot_of plan) s p
      go (inl k) = absurd (closed p h k)
      go (inr (inl (t, (l, k)))) = inr (inl (t, (below t l k, k)))
      go (inr (inr k)) = inr (inr k)

  -- a step that settles a position that is closed before step t comes before it
  earlier : (t p : ℕ) → Before plan early t p → (t' : ℕ) → t' < steps → position_of plan t' ≡ p → t' < t
  earlier t p before t' l e = go before
    where
      kind : kind_of plan p ≡ t' + 1
      kind = ap (kind_of plan) (sym e) ∙ (P.step t' l).kind

      go : Before plan early t p → t' < t
      go (inl k) = omega (arith, kind)
      go (inr k) = absurd (omega (arith, kind, P.steps-unused, P.rows, k.1.0))

  pub plan_triangular : Triangular c (is_known states) steps (row_of plan) (position_of plan) pivots (pivot_of plan)
  plan_triangular = record {
    sort = λ p h. its_sort p h steps (λ t l e. l) (is_known states p) refl;
    here = λ t l. ((P.step t l).position, (P.step t l).has);
    others = λ t p l h i ne. its_sort p h t (earlier t p ((P.step t l).others p h i ne)) (is_known states p) refl;
    inside = λ u l. (P.pivot u l).position;
  }
