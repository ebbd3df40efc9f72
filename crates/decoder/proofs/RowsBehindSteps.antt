-- Rows behind the steps, and what stays expressed when they change.
-- Assumes nothing.
use mathlib.Core.Path.{◌≡◌, sym, ap, ◌∙◌}
use mathlib.Core.Logic.{◌⊎◌, inl, inr}
use mathlib.Core.Bool.{Bool}
use mathlib.Core.List.{List}
use Prim.Native.Nat.{ℕ, ◌+◌, ◌-◌, ◌*◌, ◌/◌, ◌%◌, ◌<◌, ◌≤◌}
use native.Mathlib.Nat.{add-mul, div-lt_iff_lt-mul}
use native.Mathlib.Omega.{arith}
use lib.Dec.{lit<}
use lib.ListN.{get_or}
use lib.Seq.{get_or-drop}
use Rattle.algebra.specs.Sums.{pick}
use Rattle.algebra.specs.Codeword.{Checks}
use Rattle.algebra.proofs.Sums.{sum_ext}
use Rattle.algebra.proofs.Codeword.{slot}
use Rattle.elimination.specs.Bits.{row_bit, test_bit}
use Rattle.elimination.proofs.Order.{lt_or_le}
use Rattle.peeling.specs.Plan.{Arrays, kind_of, row_of, Plan, Closed, Unsolved}
use Rattle.pivot_equations.specs.Express.{depends_on, coefficient, StepsExpressed, SameBelow}
use Rattle.decoder.specs.Equations.{behind}
use Rattle.peeling.proofs.StepLaws.{few-steps, IsPivot, kind_cases}
use Rattle.pivot_equations.proofs.Dependence.{depends_none, depends_step, depends_pivot}

-- row i behind the steps is row steps + i
module _ (l : List ℕ) (words steps : ℕ) where
  pub behind-at : (i k : ℕ) → get_or (behind words steps l) (i * (words + 1) + k) 0 ≡ get_or l ((steps + i) * (words + 1) + k) 0
  behind-at i k =
      let e : steps * (words + 1) + (i * (words + 1) + k) ≡ (steps + i) * (words + 1) + k = omega (arith, add-mul steps i (words + 1)) in
      get_or-drop (steps * (words + 1)) l (i * (words + 1) + k) 0 ∙ ap (λ (t : ℕ). get_or l t 0) e

  pub behind_bit : (i u : ℕ) → row_bit (behind words steps l) (i * (words + 1)) u ≡ row_bit l ((steps + i) * (words + 1)) u
  unfolding row_bit
  behind_bit i u = ap (λ (v : ℕ). test_bit v (u % 64)) (behind-at i (u / 64))

-- ---- before any pivot is solved

module _ {c : Checks} {states : List ℕ} {plan : Arrays} {early steps pivots : ℕ} (P : Plan c states plan early steps pivots) (closed : Closed c plan) (U : Unsolved plan pivots) where
  -- rows that change behind the steps leave what the steps depend on
  module _ (l l' : List ℕ) (words : ℕ) (S : SameBelow l l' words steps) where
    same_row : (t i : ℕ) → t < steps → i < 64 * words → row_bit l' (t * (words + 1)) i ≡ row_bit l (t * (words + 1)) i
    unfolding row_bit
    same_row t i h g =
        let b : i / 64 < words = (div-lt_iff_lt-mul (lit< tt)).1 (omega arith) in
        let r : t * (words + 1) + (words + 1) ≤ steps * (words + 1) = slot t steps (words + 1) h in
        ap (λ (v : ℕ). test_bit v (i % 64)) (S.below (t * (words + 1) + i / 64) (omega arith))

    same_depends : (p i : ℕ) → p < c.n → i < 64 * words → depends_on l' words early (kind_of plan p) i ≡ depends_on l words early (kind_of plan p) i
    same_depends p i h g = go (kind_cases P closed p h) (lt_or_le early (kind_of plan p))
      where
        go : (kind_of plan p ≤ steps) ⊎ IsPivot plan pivots p → (early < kind_of plan p) ⊎ (kind_of plan p ≤ early)
            → depends_on l' words early (kind_of plan p) i ≡ depends_on l words early (kind_of plan p) i
        go k (inr none) = depends_none l' words early (kind_of plan p) i none ∙ sym (depends_none l words early (kind_of plan p) i none)
        go (inl b) (inl some) =
            let few : kind_of plan p ≤ 1024 = omega (arith, few-steps P) in
            depends_step l' words early (kind_of plan p) i some few ∙ same_row (kind_of plan p - 1) i (omega arith) g
            ∙ sym (depends_step l words early (kind_of plan p) i some few)
        go (inr (u, (hu, q))) (inl some) =
            let e : kind_of plan p ≡ 1025 + u = ap (kind_of plan) (sym q) ∙ U u hu in
            let few : u < 3072 = omega (arith, P.pivots_few, P.positions) in
            depends_pivot l' words early (kind_of plan p) i u some e few ∙ sym (depends_pivot l words early (kind_of plan p) i u some e few)

    pub steps_stay : StepsExpressed c plan l words early steps → StepsExpressed c plan l' words early steps
    steps_stay X t i h g =
        sum_ext (c.has (row_of plan t)) (λ x. coefficient plan l' words early x i) (λ x. coefficient plan l words early x i) c.n (λ p q. ap (λ (b : Bool). pick b 1) (same_depends p i q g))
        ∙ X t i h g
