-- Restoring: the numbers of a row other than p, and the sums of the rows after a symbol was restored.
-- Assumes nothing.
use mathlib.Core.Path.{◌≡◌, refl, sym, ap, ap₂, ◌∙◌, subst}
use mathlib.Core.Logic.{◌⊎◌, ◌≢◌, ⊎_elim}
use mathlib.Core.Bool.{Bool, true, false, cond}
use mathlib.Core.List.{List}
use Prim.Native.Nat.{ℕ, ◌+◌, ◌<◌, ◌≤◌}
use native.Mathlib.Nat.{not-suc-le-zero, le_refl}
use native.Mathlib.Numerals.{add-one}
use native.Mathlib.Decide.{dec_lt}
use native.Mathlib.Omega.{arith}
use lib.Dec.{eqb}
use lib.ListN.{length, get_or, set, length-set}
use lib.Seq.{get_or-set_same, get_or-set_other}
use borrow.Author.Tests.{eq-eqb, ne_eqb, eqb-false}
use Rattle.algebra.specs.Sums.{◌⊕◌, sum}
use Rattle.algebra.specs.Codeword.{Checks, byte_at}
use Rattle.algebra.proofs.Sums as sums
use Rattle.symbol_sums.specs.Gather.{gathered, Replaced}
use Rattle.encoder.specs.inner.Positions.{RowOf}
use Rattle.peeling.specs.Plan.{Arrays, kind_of, row_of, position_of, Step, Plan}
use Rattle.peeling.specs.Values.{row_sum, StepsHold, StepsRestored}
use Rattle.pivot_equations.specs.Unused.{Others}
use Rattle.peeling.proofs.StepLaws.{few-steps, step_apart}
use Rattle.peeling.proofs.SymbolLaws.{replaced_other}
use Rattle.pivot_equations.proofs.SumWithout.{without, sum_without}

-- ---- the numbers other than p

one_more_lem : (f : ℕ → ℕ) (xs : List ℕ) (n : ℕ) → gathered f xs (n + 1) ≡ gathered f xs n ⊕ f (get_or xs n 0)
one_more_lem f xs n = ap (gathered f xs) (add-one n) ∙ sums.sum-suc (λ i. true) (λ i. f (get_or xs i 0)) n

pub others-none : (xs : List ℕ) (p : ℕ) → Others xs 0 p xs 0
unfolding sum
others-none xs p = record {
  size = refl;
  few = omega arith;
  each = λ i h. absurd (not-suc-le-zero h);
  behind = λ i h. refl;
  total = λ f. refl;
}

-- number n stands at index k too
abbrev pub moved : List ℕ → ℕ → ℕ → List ℕ
moved xs n k = set xs k (get_or xs n 0)

module _ {xs xs' : List ℕ} {n p k : ℕ} (h : Others xs n p xs' k) (fit : n < length xs) where
  x_is : get_or xs' n 0 ≡ get_or xs n 0
  x_is = h.behind n (le_refl n)

  front : (i : ℕ) → i < k → get_or (moved xs' n k) i 0 ≡ get_or xs' i 0
  front i l = get_or-set_other xs' k i (get_or xs' n 0) 0 (λ e. omega arith)

  front-total : (f : ℕ → ℕ) → gathered f (moved xs' n k) k ≡ gathered (without p f) xs n
  front-total f = sums.sum_ext (λ i. true) (λ i. f (get_or (moved xs' n k) i 0)) (λ i. f (get_or xs' i 0)) k (λ i l. ap f (front i l)) ∙ h.total f

  behind : (i : ℕ) → n + 1 ≤ i → get_or (moved xs' n k) i 0 ≡ get_or xs i 0
  behind i l = get_or-set_other xs' k i (get_or xs' n 0) 0 (λ e. omega (arith, h.few)) ∙ h.behind i (omega arith)

  old : (i : ℕ) → i < k → (get_or (moved xs' n k) i 0 ≢ p) × ((y : ℕ) × ((y < n + 1) × (get_or (moved xs' n k) i 0 ≡ get_or xs y 0)))
  old i l = let e = h.each i l in (λ q. e.0 (sym (front i l) ∙ q), (e.1.0, (omega (arith, e.1.1.0), front i l ∙ e.1.1.1)))

  -- number n is p
  pub others_skip : get_or xs' n 0 ≡ p → Others xs (n + 1) p (moved xs' n k) k
  others_skip q = record {
    size = length-set xs' k (get_or xs' n 0) ∙ h.size;
    few = omega (arith, h.few);
    each = old;
    behind = behind;
    total = λ f.
        front-total f ∙ sym (sums.unit (gathered (without p f) xs n))
        ∙ sym (one_more_lem (without p f) xs n
        ∙ ap (λ (v : ℕ). gathered (without p f) xs n ⊕ v) (ap (λ (b : Bool). cond b 0 (f (get_or xs n 0))) (eq-eqb (get_or xs n 0) p (sym x_is ∙ q))));
  }

  -- number n is another
  pub others-take : get_or xs' n 0 ≢ p → Others xs (n + 1) p (moved xs' n k) (k + 1)
  others-take d = record {
    size = length-set xs' k (get_or xs' n 0) ∙ h.size;
    few = omega (arith, h.few);
    each = λ i l. go i l (dec_lt i k);
    behind = behind;
    total = λ f.
        one_more_lem f (moved xs' n k) k
        ∙ ap₂ ◌⊕◌ (front-total f)
        (ap f (here ∙ x_is) ∙ sym (ap (λ (b : Bool). cond b 0 (f (get_or xs n 0))) (ne_eqb (get_or xs n 0) p (λ e. d (x_is ∙ e)))))
        ∙ sym (one_more_lem (without p f) xs n);
  }
    where
      here : get_or (moved xs' n k) k 0 ≡ get_or xs' n 0
      here = get_or-set_same xs' k (get_or xs' n 0) 0 (omega (arith, h.few, h.size))

      go : (i : ℕ) → i < k + 1 → Dec (i < k) → (get_or (moved xs' n k) i 0 ≢ p) × ((y : ℕ) × ((y < n + 1) × (get_or (moved xs' n k) i 0 ≡ get_or xs y 0)))
      go i l (yes g) = old i g
      go i l (no g) =
          let e : get_or (moved xs' n k) i 0 ≡ get_or xs' n 0 = let q : i ≡ k = omega arith in ap (λ (y : ℕ). get_or (moved xs' n k) y 0) q ∙ here in
          (λ q. d (sym e ∙ q), (n, (omega arith, e ∙ x_is)))

pub others-at : {xs xs' : List ℕ} {n n' p k k' : ℕ} → Others xs n p xs' k → n ≡ n' → k' ≡ k → Others xs n' p xs' k'
others-at {xs} {xs'} {n' = n'} {p} {k} h e f = subst (λ (m : ℕ). Others xs n' p xs' m) (sym f) (subst (λ (m : ℕ). Others xs m p xs' k) e h)

-- ---- of a row

module _ {c : Checks} {j n k p : ℕ} {xs xs' : List ℕ} (r : RowOf c j n xs) (o : Others xs n p xs' k) where
  pub others_few : k ≤ length xs'
  others_few = omega (arith, o.size, o.few, r.size, r.few)

  pub others-sum : (f : ℕ → ℕ) → gathered f xs' k ≡ sum (c.has j) (without p f) c.n
  others-sum f = o.total f ∙ r.total (without p f)

-- ---- a symbol that was replaced

module _ (c : Checks) (w j p : ℕ) {s s' : List ℕ} (h : Replaced (λ b. sum (c.has j) (without p (byte_at w s b)) c.n) w p s s') where
  -- the row by which it was restored adds up to zero
  restored-row : p < c.n → c.has j p ≡ true → (b : ℕ) → b < w → row_sum c w s' j b ≡ 0
  restored-row l t b g =
      sum_without (c.has j) (byte_at w s' b) p c.n l t
      ∙ ap₂ ◌⊕◌ (sums.sum_ext (c.has j) (without p (byte_at w s' b)) (without p (byte_at w s b)) c.n (λ x k. same x (eqb x p) refl)) (h.each b g)
      ∙ sums.self (sum (c.has j) (without p (byte_at w s b)) c.n)
    where
      same : (x : ℕ) (e : Bool) → eqb x p ≡ e → cond e 0 (byte_at w s' b x) ≡ cond e 0 (byte_at w s b x)
      same x true q = refl
      same x false q = replaced_other h x b (eqb-false x p q) g

  -- a row that doesn't have it is as it was
  other_row : (i : ℕ) → ((x : ℕ) → x < c.n → c.has i x ≡ true → x ≢ p) → (b : ℕ) → b < w → row_sum c w s' i b ≡ row_sum c w s i b
  other_row i n b g = sums.sum_cong (c.has i) (c.has i) (byte_at w s' b) (byte_at w s b) c.n (λ x l. refl) (λ x l t. replaced_other h x b (n x l t) g)

-- ---- step after step

module _ (c : Checks) (w : ℕ) {states : List ℕ} {plan : Arrays} {early steps pivots : ℕ} (made : Plan c states plan early steps pivots) where
  pub restored-more : {s₀ s s' : List ℕ} {t : ℕ} → early ≤ t → t < steps → StepsRestored c w plan s₀ s early t
      → Replaced (λ b. sum (c.has (row_of plan t)) (without (position_of plan t) (byte_at w s b)) c.n) w (position_of plan t) s s' → StepsRestored c w plan s₀ s' early (t + 1)
  restored-more {s₀} {s} {s'} {t} el h a r = record { size = r.size ∙ a.size; same = same; holds = holds }
    where
      own : Step c states plan early t
      own = made.step t h

      same : (p b : ℕ) → p < c.n → b < w → (kind_of plan p ≤ early) ⊎ (1024 < kind_of plan p) → byte_at w s' b p ≡ byte_at w s₀ b p
      same p b l g k = replaced_other r p b (λ q. ne q k) g ∙ a.same p b l g k
        where
          ne : p ≡ position_of plan t → (kind_of plan p ≤ early) ⊎ (1024 < kind_of plan p) → ⊥
          ne q k = let z : kind_of plan p ≡ t + 1 = ap (kind_of plan) q ∙ own.kind in ⊎_elim (λ d. omega arith) (λ d. omega (arith, few-steps made)) k

      holds : StepsHold c w plan s' (t + 1)
      holds i b l g = go (dec_lt i t)
        where
          go : Dec (i < t) → row_sum c w s' (row_of plan i) b ≡ 0
          go (yes d) = other_row c w (row_of plan t) (position_of plan t) r (row_of plan i) (step_apart made t i h d) b g ∙ a.holds i b d g
          go (no d) =
              let q : i ≡ t = omega arith in
              ap (λ (y : ℕ). row_sum c w s' (row_of plan y) b) q ∙ restored-row c w (row_of plan t) (position_of plan t) r own.position own.has b g
