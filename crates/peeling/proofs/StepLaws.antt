-- A plan's steps: how many there are, their order, and which positions they leave.
-- Assumes nothing.
use Rattle.std.proofs.Common.{◌≡◌, ℕ, ◌+◌, ◌<◌, ◌≤◌, Bool, true, false, ◌≢◌, ◌⊎◌, List, sym, refl, ap, ◌∙◌, inl, inr, ⊎_elim, arith}
use native.Mathlib.Decide.{ℕ_discrete}
use Rattle.algebra.specs.Codeword.{Checks}
use Rattle.peeling.specs.States.{is_known}
use Rattle.peeling.specs.Plan.{Arrays, kind_of, pivot_of, row_of, position_of, Sort, Plan, Closed}

-- position p is a pivot
abbrev pub IsPivot : Arrays → ℕ → ℕ → Type 0
IsPivot plan pivots p = (u : ℕ) × ((u < pivots) × (pivot_of plan u ≡ p))

module _ {c : Checks} {states : List ℕ} {plan : Arrays} {early steps pivots : ℕ} (made : Plan c states plan early steps pivots) where
  pub few-steps : (steps ≤ c.m) × (steps ≤ 1024)
  few-steps = (omega (arith, made.steps-unused), omega (arith, made.steps-unused, made.rows))

  -- the rows of earlier steps don't have the position of step t
  pub step_apart : (t i : ℕ) → t < steps → i < t → (x : ℕ) → x < c.n → c.has (row_of plan i) x ≡ true → x ≢ position_of plan t
  step_apart t i h l x k has q = go (ℕ_discrete x (position_of plan i))
    where
      kind : kind_of plan x ≡ t + 1
      kind = ap (kind_of plan) q ∙ (made.step t h).kind

      go : Dec (x ≡ position_of plan i) → ⊥
      go (yes e) =
          let z : kind_of plan x ≡ i + 1 = ap (kind_of plan) e ∙ (made.step i (omega arith)).kind in
          omega (arith, kind)
      go (no e) = ⊎_elim (λ b. omega (arith, kind)) (λ b. omega (arith, kind, b.1.0, few-steps)) ((made.step i (omega arith)).others x k has e)

  -- where no position is open, one is known or settled by a step, or is a pivot
  pub kind_cases : Closed c plan → (p : ℕ) → p < c.n → (kind_of plan p ≤ steps) ⊎ IsPivot plan pivots p
  kind_cases closed p hp = go (is_known states p) refl
    where
      sorted : Sort plan steps pivots p → (kind_of plan p ≤ steps) ⊎ IsPivot plan pivots p
      sorted (inl e) = absurd (closed p hp e)
      sorted (inr (inl (t, (ht, e)))) = let k : kind_of plan p ≡ t + 1 = ap (kind_of plan) (sym e) ∙ (made.step t ht).kind in inl (omega arith)
      sorted (inr (inr s)) = inr s

      go : (b : Bool) → is_known states p ≡ b → (kind_of plan p ≤ steps) ⊎ IsPivot plan pivots p
      go true e = inl (omega (arith, made.known p hp e))
      go false e = sorted (made.sort p hp e)
