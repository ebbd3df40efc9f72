-- A word that has the known symbols and for which the steps' rows hold agrees just when its pivots solve the rows of the check rows that no step used.
-- Assumes nothing.
use mathlib.Core.Path.{◌≡◌, refl, sym, ap, ap₂, ◌∙◌, subst}
use mathlib.Core.Logic.{◌⊎◌, inl, inr, ◌↔◌}
use mathlib.Core.Bool.{Bool, true, false}
use mathlib.Core.List.{List}
use Prim.Native.Nat.{ℕ, ◌+◌, ◌*◌, ◌<◌, ◌≤◌}
use native.Mathlib.Omega.{arith}
use lib.Dec.{eqb}
use lib.ListN.{length, get_or}
use borrow.Author.Tests.{eq-eqb, ne_eqb, eqb-true}
use Rattle.algebra.specs.Sums.{◌⊕◌, pick, sum}
use Rattle.algebra.specs.Codeword.{Checks, byte_at, row_sum}
use Rattle.peeling.specs.States.{is_known}
use Rattle.decoder.specs.Outcome.{AgreesWith}
use Rattle.algebra.proofs.Sums.{unit, unit_l, self, eq_of_add, sum_ext, sum-none, sum-only, sum_tests, sum_zeros}
use Rattle.elimination.specs.Bits.{row_bit}
use Rattle.elimination.specs.System.{left_side, Solves}
use Rattle.peeling.specs.Plan.{Arrays, Plan, Closed, Unsolved, kind_of, row_of, pivot_of, used_by, unused_below}
use Rattle.peeling.specs.Values.{Values, StepsHold, Sides}
use Rattle.pivot_equations.specs.Express.{depends_on, coefficient, StepsExpressed}
use Rattle.peeling.proofs.StepLaws.{few-steps}
use Rattle.peeling.proofs.UnusedRows.{Unused, unused-below, unused-row}
use Rattle.pivot_equations.proofs.Dependence.{depends_none, depends_pivot}
use Rattle.decoder.proofs.Triangle.{vanishes, expressed, exchange, sum_add, pick-one, plan_triangular}

-- lr are the packed rows of the check rows that no step used, one after the other, and d their right-hand sides
pub record System (c : Checks) (w : ℕ) (plan : Arrays) (y l : List ℕ) (words early rest : ℕ) (lr d : List ℕ) : Type 0 where
  pub count : rest ≡ unused_below plan c.m
  pub bits : (j i : ℕ) → j < c.m → used_by plan j ≡ 0 → i < 64 * words
      → pick (row_bit lr (unused_below plan j * (words + 1)) i) 1 ≡ sum (c.has j) (λ x. coefficient plan l words early x i) c.n
  pub sides : Sides c w plan y d

-- x has the known symbols, and the steps' rows hold
pub record Along (c : Checks) (w : ℕ) (block states : List ℕ) (plan : Arrays) (x : List ℕ) (steps : ℕ) : Type 0 where
  pub size : length x ≡ c.n * w
  pub bytes : (t : ℕ) → get_or x t 0 < 256
  pub known-byte : (p b : ℕ) → p < c.n → b < w → is_known states p ≡ true → byte_at w x b p ≡ byte_at w block b p
  pub holds : StepsHold c w plan x steps

-- ---- what a position depends on

module _ {c : Checks} {states : List ℕ} {plan : Arrays} {early steps pivots : ℕ} (P : Plan c states plan early steps pivots) (closed : Closed c plan) (U : Unsolved plan pivots)
    (l : List ℕ) (words : ℕ) (X : StepsExpressed c plan l words early steps) where
  known-none : (p i : ℕ) → p < c.n → is_known states p ≡ true → depends_on l words early (kind_of plan p) i ≡ false
  known-none p i h e = depends_none l words early (kind_of plan p) i (omega (arith, P.known p h e))

  pivot_own : (u i : ℕ) → u < pivots → depends_on l words early (kind_of plan (pivot_of plan u)) i ≡ eqb i u
  pivot_own u i h =
      depends_pivot l words early (kind_of plan (pivot_of plan u)) i u (omega (arith, P.early_steps, few-steps P, U u h)) (U u h)
      (omega (arith, P.pivots_few, P.positions))

  -- no position depends on a pivot that there is not
  pub high_depends : (u : ℕ) → pivots ≤ u → u < 64 * words → (p : ℕ) → p < c.n → depends_on l words early (kind_of plan p) u ≡ false
  high_depends u lo hi p h =
      pick-one (depends_on l words early (kind_of plan p) u) false
      (vanishes (plan_triangular P closed) (λ q. coefficient plan l words early q u)
      (λ q k e. ap (λ (b : Bool). pick b 1) (known-none q u k e))
      (λ t k. ap (λ (b : Bool). pick b 1) (pivot_own t u k ∙ ne_eqb u t (λ e. omega arith)))
      (λ t k. X t u k hi) p h)

  -- a word along the plan is y plus the pivots that each position depends on
  pub along_expressed : {w : ℕ} {block y x : List ℕ} → Values c w block states plan y steps pivots → Along c w block states plan x steps → pivots ≤ 64 * words
      → (p b : ℕ) → p < c.n → b < w
      → byte_at w x b p ≡ byte_at w y b p ⊕ sum (depends_on l words early (kind_of plan p)) (λ u. byte_at w x b (pivot_of plan u)) pivots
  along_expressed {w} {block} {y} {x} Y A room p b h hb =
      expressed (plan_triangular P closed) (byte_at w x b) (byte_at w y b) (λ q i. depends_on l words early (kind_of plan q) i) v pivots
      (λ q k e. A.known-byte q b k hb e ∙ sym (Y.known-byte q b k hb e) ∙ sym (unit (byte_at w y b q))
      ∙ ap (◌⊕◌ (byte_at w y b q)) (sym (sum-none (depends_on l words early (kind_of plan q)) v pivots (λ i m. known-none q i k e))))
      (λ u k. sym (unit_l (v u))
      ∙ ap₂ ◌⊕◌ (sym (Y.pivot-byte u b k hb))
      (sym (sum_tests (depends_on l words early (kind_of plan (pivot_of plan u))) (λ i. eqb i u) v pivots (λ i m. pivot_own u i k)
      ∙ sum-only (λ i. eqb i u) v u pivots k (eq-eqb u u refl) (λ i m e. eqb-true i u e))))
      (λ t k. A.holds t b k hb) (λ t k. Y.holds t b k hb) (λ t i k m. X t i k (omega arith)) p h
    where
      v : ℕ → ℕ
      v u = byte_at w x b (pivot_of plan u)

-- ---- the check rows

pub agreeing_along : {c : Checks} {w : ℕ} {block states : List ℕ} {plan : Arrays} {x : List ℕ} {early steps pivots : ℕ} → Plan c states plan early steps pivots → AgreesWith c w block states x
    → Along c w block states plan x steps
unfolding row_sum
agreeing_along {plan = plan} P A = record {
  size = A.size;
  bytes = A.bytes;
  known-byte = λ p b h hb e. A.same p h e b hb;
  holds = λ t b h hb. A.rows (row_of plan t) (P.step t h).row b hb;
}

module _ {c : Checks} {w : ℕ} {block states : List ℕ} {plan : Arrays} {y l lr d : List ℕ} {words early rest steps pivots : ℕ}
    (P : Plan c states plan early steps pivots) (closed : Closed c plan) (U : Unsolved plan pivots) (Y : Values c w block states plan y steps pivots)
    (X : StepsExpressed c plan l words early steps) (S : System c w plan y l words early rest lr d) (room : pivots ≤ 64 * words) where
  -- the check row that row i of lr is of
  row_of_lem : (i : ℕ) → i < rest → Unused plan c.m i
  row_of_lem i h = unused-row plan c.m i (subst (λ (k : ℕ). i < k) S.count h)

  -- no row has a pivot that there is not
  pub high_absent : (u : ℕ) → pivots ≤ u → u < 64 * words → (i : ℕ) → i < rest → row_bit lr (i * (words + 1)) u ≡ false
  high_absent u lo hi i h = go (row_of_lem i h)
    where
      go : Unused plan c.m i → row_bit lr (i * (words + 1)) u ≡ false
      go (j, (hj, (un, e))) =
          ap (λ (k : ℕ). row_bit lr (k * (words + 1)) u) (sym e)
          ∙ pick-one (row_bit lr (unused_below plan j * (words + 1)) u) false
          (S.bits j u hj un hi
          ∙ sum_ext (c.has j) (λ q. coefficient plan l words early q u) (λ q. 0) c.n
          (λ q k. ap (λ (b : Bool). pick b 1) (high_depends P closed U l words X u lo hi q k))
          ∙ sum_zeros (c.has j) c.n)

  module _ {x : List ℕ} (A : Along c w block states plan x steps) where
    abbrev v : ℕ → ℕ → ℕ
    v u b = byte_at w x b (pivot_of plan u)

    -- an unused row's sum over x is its sum over y, plus its pivots
    unused-sum : (j b : ℕ) → j < c.m → used_by plan j ≡ 0 → b < w
        → row_sum c w x j b ≡ get_or d (unused_below plan j * w + b) 0 ⊕ left_side lr words pivots v (unused_below plan j) b
    unfolding row_sum
    unused-sum j b hj un hb =
        sum_ext (c.has j) (byte_at w x b) (λ p. byte_at w y b p ⊕ sum (depends_on l words early (kind_of plan p)) (λ u. v u b) pivots) c.n
        (λ p h. along_expressed P closed U l words X Y A room p b h hb)
        ∙ sum_add (c.has j) (byte_at w y b) (λ p. sum (depends_on l words early (kind_of plan p)) (λ u. v u b) pivots) c.n
        ∙ ap₂ ◌⊕◌ (sym (S.sides j b hj un hb))
        (exchange (c.has j) (λ p i. depends_on l words early (kind_of plan p) i) (row_bit lr (unused_below plan j * (words + 1))) (λ u. v u b) c.n pivots
        (λ i h. sym (S.bits j i hj un (omega arith))))

    pub agrees_iff : AgreesWith c w block states x ↔ Solves lr d rest words w pivots (λ u b. byte_at w x b (pivot_of plan u))
    unfolding row_sum
    agrees_iff = (
      λ G i b h hb. solves G i b hb (row_of_lem i h),
      λ s. record { size = A.size; bytes = A.bytes; rows = λ j hj b hb. row s j hj b hb (P.used j hj); same = λ p h e b hb. A.known-byte p b h hb e },
    )
      where
        solves : AgreesWith c w block states x → (i b : ℕ) → b < w → Unused plan c.m i → left_side lr words pivots v i b ≡ get_or d (i * w + b) 0
        solves G i b hb (j, (hj, (un, e))) =
            subst (λ (k : ℕ). left_side lr words pivots v k b ≡ get_or d (k * w + b) 0) e
            (sym (eq_of_add (get_or d (unused_below plan j * w + b) 0) (left_side lr words pivots v (unused_below plan j) b) (sym (unused-sum j b hj un hb) ∙ G.rows j hj b hb)))

        row : Solves lr d rest words w pivots v → (j : ℕ) → j < c.m → (b : ℕ) → b < w → (used_by plan j ≡ 0) ⊎ ((t : ℕ) × ((t < steps) × (row_of plan t ≡ j)))
            → row_sum c w x j b ≡ 0
        row s j hj b hb (inl un) =
            unused-sum j b hj un hb
            ∙ ap (◌⊕◌ (get_or d (unused_below plan j * w + b) 0)) (s (unused_below plan j) b (subst (λ (k : ℕ). unused_below plan j < k) (sym S.count) (unused-below plan j c.m hj un)) hb)
            ∙ self (get_or d (unused_below plan j * w + b) 0)
        row s j hj b hb (inr (t, (l, e))) = ap (λ (k : ℕ). row_sum c w x k b) (sym e) ∙ A.holds t b l hb
