-- The check rows that no step used: how many there are, and their numbers.
-- Assumes nothing.
use Rattle.std.proofs.Common.{◌≡◌, ℕ, zero, suc, ◌+◌, ◌<◌, ◌≤◌, Bool, true, false, cond, eqb, ◌≢◌, sym, refl, ap, ◌∙◌, le_trans, not-suc-le-zero, add-one, arith, eq-eqb, ne_eqb}
use native.Mathlib.Nat.{le-suc}
use native.Mathlib.Decide.{dec_lt, ℕ_discrete}
use Rattle.peeling.specs.Plan.{Arrays, used_by, unused_below}

-- the one with number i is among the first m check rows
abbrev pub Unused : Arrays → ℕ → ℕ → Type 0
Unused plan m i = (j : ℕ) × ((j < m) × ((used_by plan j ≡ 0) × (unused_below plan j ≡ i)))

unused-suc : (plan : Arrays) (j : ℕ) → unused_below plan (suc j) ≡ cond (eqb (used_by plan j) 0) (suc (unused_below plan j)) (unused_below plan j)
unfolding unused_below
unused-suc plan j = refl

-- ---- one plan

module _ (plan : Arrays) where
  unused-next : (j : ℕ) (u : Bool) → eqb (used_by plan j) 0 ≡ u → unused_below plan (j + 1) ≡ cond u (suc (unused_below plan j)) (unused_below plan j)
  unfolding unused_below
  unused-next j u e = ap (unused_below plan) (add-one j) ∙ ap (λ (b : Bool). cond b (suc (unused_below plan j)) (unused_below plan j)) e

  pub unused-none : (j : ℕ) → used_by plan j ≢ 0 → unused_below plan (j + 1) ≡ unused_below plan j
  unused-none j h = unused-next j false (ne_eqb (used_by plan j) 0 h)

  pub unused-one : (j : ℕ) → used_by plan j ≡ 0 → unused_below plan (j + 1) ≡ unused_below plan j + 1
  unused-one j h = unused-next j true (eq-eqb (used_by plan j) 0 h) ∙ sym (add-one (unused_below plan j))

  unused-step : (j : ℕ) → (unused_below plan j ≤ unused_below plan (suc j)) × (unused_below plan (suc j) ≤ suc (unused_below plan j))
  unfolding unused_below
  unused-step j = go (eqb (used_by plan j) 0)
    where
      go : (b : Bool) → (unused_below plan j ≤ cond b (suc (unused_below plan j)) (unused_below plan j)) × (cond b (suc (unused_below plan j)) (unused_below plan j) ≤ suc (unused_below plan j))
      go true = (omega arith, omega arith)
      go false = (omega arith, omega arith)

  pub unused_le : (j : ℕ) → unused_below plan j ≤ j
  unfolding unused_below
  unused_le zero = omega arith
  unused_le (suc j) = omega (arith, unused-step j, unused_le j)

  -- an unused row's number is below those of the rows behind it
  pub unused-below : (x j : ℕ) → x < j → used_by plan x ≡ 0 → unused_below plan x < unused_below plan j
  unused-below x zero h e = absurd (not-suc-le-zero h)
  unused-below x (suc j) h e = go (dec_lt x j) (λ l. unused-below x j l e)
    where
      go : Dec (x < j) → (x < j → unused_below plan x < unused_below plan j) → unused_below plan x < unused_below plan (suc j)
      go (yes l) ih = omega (arith, ih l, unused-step j)
      go (no l) ih =
          let q : x ≡ j = omega arith in
          let s : unused_below plan (x + 1) ≡ unused_below plan (suc j) = ap (unused_below plan) (add-one x ∙ ap suc q) in
          omega (arith, unused-one x e)

  -- an unused one counts
  pub unused-some : (r m : ℕ) → r < m → used_by plan r ≡ 0 → 0 < unused_below plan m
  unused-some r m h u = omega (arith, unused-below r m h u)

-- every number below how many there are is some row's
pub unused-row : (plan : Arrays) (m i : ℕ) → i < unused_below plan m → Unused plan m i
unfolding unused_below
unused-row plan zero i h = absurd (not-suc-le-zero h)
unused-row plan (suc m) i h = go (ℕ_discrete (used_by plan m) 0) (ℕ_discrete (unused_below plan m) i) (unused-row plan m i)
  where
    up : Unused plan m i → Unused plan (suc m) i
    up (j, (l, e)) = (j, (omega arith, e))

    go : Dec (used_by plan m ≡ 0) → Dec (unused_below plan m ≡ i) → (i < unused_below plan m → Unused plan m i) → Unused plan (suc m) i
    go (yes u) (yes e) ih = (m, (omega arith, (u, e)))
    go (yes u) (no e) ih = up (ih (omega (arith, unused-one plan m u, ap (unused_below plan) (add-one m))))
    go (no u) e ih = up (ih (omega (arith, unused-none plan m u, ap (unused_below plan) (add-one m))))

-- no row is used
pub unused_all : (plan : Arrays) (m : ℕ) → ((j : ℕ) → j < m → used_by plan j ≡ 0) → unused_below plan m ≡ m
unfolding unused_below
unused_all plan zero h = refl
unused_all plan (suc m) h =
    ap (λ (b : Bool). cond b (suc (unused_below plan m)) (unused_below plan m)) (eq-eqb (used_by plan m) 0 (h m (omega arith))) ∙ ap suc (unused_all plan m (λ j l. h j (le_trans l (le-suc m))))

-- ---- two plans

-- the same rows are used
pub unused-same : (plan plan' : Arrays) (m : ℕ) → ((j : ℕ) → j < m → used_by plan' j ≡ used_by plan j) → unused_below plan' m ≡ unused_below plan m
unfolding unused_below
unused-same plan plan' zero h = refl
unused-same plan plan' (suc m) h =
    let f = unused-same plan plan' m (λ j l. h j (le_trans l (le-suc m))) in
    ap (λ (x : ℕ). cond (eqb x 0) (suc (unused_below plan' m)) (unused_below plan' m)) (h m (omega arith)) ∙ ap (λ (x : ℕ). cond (eqb (used_by plan m) 0) (suc x) x) f

-- a step uses one more
pub unused_settled : (plan plan' : Arrays) (r m : ℕ) → r < m → used_by plan r ≡ 0 → used_by plan' r ≡ 1 → ((j : ℕ) → j < m → j ≢ r → used_by plan' j ≡ used_by plan j)
    → suc (unused_below plan' m) ≡ unused_below plan m
unused_settled plan plan' r zero h u u' e = absurd (not-suc-le-zero h)
unused_settled plan plan' r (suc m) h u u' e = go (ℕ_discrete m r) (λ l. unused_settled plan plan' r m l u u' (λ j g. e j (le_trans g (le-suc m))))
  where
    go : Dec (m ≡ r) → (r < m → suc (unused_below plan' m) ≡ unused_below plan m) → suc (unused_below plan' (suc m)) ≡ unused_below plan (suc m)
    go (yes d) ih =
        let s : unused_below plan' m ≡ unused_below plan m = unused-same plan plan' m (λ j l. e j (le_trans l (le-suc m)) (λ f. omega arith)) in
        ap suc (unused-suc plan' m ∙ ap (λ (b : Bool). cond b (suc (unused_below plan' m)) (unused_below plan' m)) (ne_eqb (used_by plan' m) 0 (λ f. let k : used_by plan' m ≡ 1 = ap (used_by plan') d ∙ u' in omega arith)) ∙ s)
        ∙ sym (unused-suc plan m ∙ ap (λ (b : Bool). cond b (suc (unused_below plan m)) (unused_below plan m)) (eq-eqb (used_by plan m) 0 (ap (used_by plan) d ∙ u)))
    go (no d) ih =
        ap suc (unused-suc plan' m ∙ ap (λ (x : ℕ). cond (eqb x 0) (suc (unused_below plan' m)) (unused_below plan' m)) (e m (omega arith) d))
        ∙ count (eqb (used_by plan m) 0) (ih (omega arith)) ∙ sym (unused-suc plan m)
      where
        count : (b : Bool) → suc (unused_below plan' m) ≡ unused_below plan m → suc (cond b (suc (unused_below plan' m)) (unused_below plan' m)) ≡ cond b (suc (unused_below plan m)) (unused_below plan m)
        count true f = ap suc f
        count false f = f
