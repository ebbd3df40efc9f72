-- The rows of a plan's steps, and of the check rows that no step used.
-- Assumes nothing.
use mathlib.Core.Path.{◌≡◌, refl, sym, ap, ap₂, ◌∙◌}
use mathlib.Core.Logic.{inl, inr, ◌≢◌, ⊎_elim}
use mathlib.Core.Bool.{Bool, true, false, cond}
use Rattle.std.specs.Prelude.{Option, Some, None}
use mathlib.Core.List.{List}
use Prim.Native.Nat.{ℕ, ◌+◌, ◌-◌, ◌*◌, ◌<◌, ◌≤◌}
use native.Mathlib.Nat.{eq-or-lt_of_le, mul-le-mul_right}
use native.Mathlib.Omega.{arith}
use borrow.Author.Tests.{ne_eqb, eqb-false}
use lib.Dec.{eqb}
use Rattle.algebra.specs.Sums.{◌⊕◌, pick, sum}
use Rattle.algebra.specs.Codeword.{Checks}
use Rattle.peeling.specs.States.{is_known}
use Rattle.algebra.proofs.Sums.{self, sum_cong, sum_ext, sum_zeros}
use Rattle.algebra.proofs.Codeword.{slot}
use Rattle.elimination.specs.Bits.{row_bit}
use Rattle.elimination.specs.Reduced.{pivot_word}
use Rattle.elimination.proofs.Order.{eq_or_ne}
use Rattle.elimination.proofs.ColumnLaws.{cond-elim}
use Rattle.peeling.specs.Plan.{Arrays, kind_of, pivot_of, row_of, position_of, used_by, unused_below, Step, Plan, Closed, Unsolved}
use Rattle.pivot_equations.specs.Express.{coefficient, Reads, OnlyRow, RowIs, Places, StepsExpressed, SameFrom, SameBelow, ReadsAll, RestTo}
use Rattle.peeling.proofs.StepLaws.{few-steps, step_apart}
use Rattle.peeling.proofs.UnusedRows.{unused-below}
use Rattle.pivot_equations.proofs.SumWithout.{without, sum_without}
use Rattle.pivot_equations.proofs.RowChanges.{bit_other, depends_same}
use Rattle.pivot_equations.proofs.Dependence.{depends_none, depends_step}

-- ---- rows that stay

pub from-none : {l : List ℕ} {words steps : ℕ} → SameFrom l l words steps
from-none = record { size = refl; behind = λ k h. refl }

pub from_more : {l l' l'' : List ℕ} {words steps t : ℕ} → SameFrom l l' words steps → OnlyRow l' l'' words t → t < steps → SameFrom l l'' words steps
from_more {words} {steps} {t} s o h = record {
  size = o.size ∙ s.size;
  behind = λ k g. o.outside k (inr (omega (arith, slot t steps (words + 1) h))) ∙ s.behind k g;
}

pub below_none : {l : List ℕ} {words steps : ℕ} → SameBelow l l words steps
below_none = record { size = refl; below = λ k h. refl }

pub below-only : {l l' : List ℕ} {words steps t : ℕ} → OnlyRow l l' words t → steps ≤ t → SameBelow l l' words steps
below-only {words} {steps} {t} o h = record { size = o.size; below = λ k g. o.outside k (inl (omega (arith, mul-le-mul_right (words + 1) h))) }

pub below_more : {l l' l'' : List ℕ} {words steps : ℕ} → SameBelow l l' words steps → SameBelow l' l'' words steps → SameBelow l l'' words steps
below_more a b = record { size = b.size ∙ a.size; below = λ k h. b.below k h ∙ a.below k h }

-- pivots keep their places where the rows behind the steps stay
pub places_from : (c : Checks) (plan : Arrays) {l l' : List ℕ} {words steps rows : ℕ} → SameFrom l l' words steps → Places c plan l words steps rows → Places c plan l' words steps rows
places_from c plan {l} {l'} {words} s places p h g =
    let q = places p h g in (
      q.0,
      λ k.
          let r = q.1 k in
          let e : pivot_word l' words (kind_of plan p - 4097) ≡ pivot_word l words (kind_of plan p - 4097) =
          s.behind _ (omega (arith, mul-le-mul_right (words + 1) r.0)) in
          (r.0, (r.1.0, rw e r.1.1)),
    )

pub reads-rows : {c : Checks} {plan : Arrays} {l : List ℕ} {words early rows rows' t : ℕ} {but : Option ℕ} → rows' ≡ rows → ReadsAll c plan l words early rows t but → ReadsAll c plan l words early rows' t but
reads-rows e r = rw e r

-- ---- what a position's kind says

reads_none : {l : List ℕ} {words early rows t : ℕ} → Reads l words early rows t 0
reads_none = record { step = λ h g. absurd (omega arith); pivot = λ h g. absurd (omega arith); solved = λ h. absurd (omega arith) }

module _ {c : Checks} {states : List ℕ} {plan : Arrays} {early steps pivots : ℕ} (made : Plan c states plan early steps pivots) (closed : Closed c plan) where
  -- a position is known, settled or put off
  data Settled (x : ℕ) : Type 0 where
    known : kind_of plan x ≡ 0 → Settled x
    step : (s : ℕ) → s < steps → position_of plan s ≡ x → kind_of plan x ≡ s + 1 → Settled x
    pivot : (u : ℕ) → u < pivots → pivot_of plan u ≡ x → 1024 < kind_of plan x → Settled x

  settled : (x : ℕ) → x < c.n → Settled x
  settled x h = go (is_known states x) refl
    where
      go : (b : Bool) → is_known states x ≡ b → Settled x
      go true e = known (made.known x h e)
      go false e =
          ⊎_elim (λ o. absurd (closed x h o))
          (⊎_elim (λ s. step s.0 s.1.0 s.1.1 (ap (kind_of plan) (sym s.1.1) ∙ (made.step s.0 s.1.0).kind))
          (λ u. pivot u.0 u.1.0 u.1.1 (rw u.1.1 at (made.pivot u.0 u.1.0).kind.0))) (made.sort x h e)

  -- what stands for a position is read from another row than t
  module _ {l : List ℕ} {words t : ℕ} (places : Places c plan l words steps c.m) where
    reads_settled : (x : ℕ) → x < c.n → ((s : ℕ) → s < steps → position_of plan s ≡ x → s ≢ t) → (4096 < kind_of plan x → kind_of plan x - 4097 ≢ t)
        → Reads l words early c.m t (kind_of plan x)
    reads_settled x h away other = go (settled x h)
      where
        go : Settled x → Reads l words early c.m t (kind_of plan x)
        go (known e) = rw e reads_none
        go (step s hs e k) = rw k (record {
          step = λ g g'. (λ q. away s hs e (omega arith), omega (arith, (few-steps made).0));
          pivot = λ g g'. absurd (omega (arith, (few-steps made).1));
          solved = λ g. absurd (omega (arith, (few-steps made).1));
        })
        go (pivot u hu e k) = record {
          step = λ g g'. absurd (omega arith);
          pivot = λ g g'. (places x h k).0 g';
          solved = λ g. (other g, ((places x h k).1 g).1);
        }

    -- row t of a step
    pub reads-step : t < steps → ReadsAll c plan l words early c.m t (Some (position_of plan t))
    reads-step h = record {
      each = λ x g.
          cond-elim (λ (k : ℕ). Reads l words early c.m t k) (eqb x (position_of plan t)) 0 (kind_of plan x) (λ e. reads_none)
          (λ ne. reads_settled x g (λ s hs e q. eqb-false x (position_of plan t) ne (sym e ∙ ap (position_of plan) q))
          (λ k q. let b = ((places x g (omega arith)).1 k).0 in omega arith));
    }

    other_step : t < steps → (x : ℕ) → x < c.n → x ≢ position_of plan t → Reads l words early c.m t (kind_of plan x)
    other_step h x g ne = rw (ne_eqb x (position_of plan t) ne) at ((reads-step h).each x g)

    -- the new row t makes its step hold
    step-holds : {l' : List ℕ} → early ≤ t → t < steps → RowIs c plan l l' words early t (row_of plan t) (Some (position_of plan t))
        → (i : ℕ) → i < 64 * words → sum (c.has (row_of plan t)) (λ x. coefficient plan l' words early x i) c.n ≡ 0
    step-holds {l'} late h row i hi =
        sum_without a (λ x. coefficient plan l' words early x i) p c.n s.position s.has
        ∙ ap₂ ◌⊕◌
        (sum_ext a (without p (λ x. coefficient plan l' words early x i)) (without p (λ x. coefficient plan l words early x i)) c.n (λ x g. others x g (eqb x p) refl) ∙ sym (row.bits i hi))
        own
        ∙ self (pick (row_bit l' (t * (words + 1)) i) 1)
      where
        s : Step c states plan early t
        s = made.step t h

        p : ℕ
        p = position_of plan t

        a : ℕ → Bool
        a = c.has (row_of plan t)

        others : (x : ℕ) → x < c.n → (b : Bool) → eqb x p ≡ b → cond b 0 (coefficient plan l' words early x i) ≡ cond b 0 (coefficient plan l words early x i)
        others x g true e = refl
        others x g false e = ap (λ (b : Bool). pick b 1) (depends_same row.only (other_step h x g (eqb-false x p e)) i hi)

        own : coefficient plan l' words early p i ≡ pick (row_bit l' (t * (words + 1)) i) 1
        own =
            let k = s.kind in
            let e : kind_of plan p - 1 ≡ t = omega arith in
            ap (λ (b : Bool). pick b 1) (depends_step l' words early (kind_of plan p) i (omega arith) (omega (arith, (few-steps made).1)))
            ∙ ap (λ (r : ℕ). pick (row_bit l' (r * (words + 1)) i) 1) e

    -- and the steps before it hold as they did
    step_kept : {l' : List ℕ} → OnlyRow l l' words t → t < steps → (s : ℕ) → s < t → (i : ℕ) → i < 64 * words
        → sum (c.has (row_of plan s)) (λ x. coefficient plan l words early x i) c.n ≡ 0 → sum (c.has (row_of plan s)) (λ x. coefficient plan l' words early x i) c.n ≡ 0
    step_kept {l'} only h s hs i hi e =
        sum_cong (c.has (row_of plan s)) (c.has (row_of plan s)) (λ x. coefficient plan l' words early x i) (λ x. coefficient plan l words early x i) c.n (λ x g. refl)
        (λ x g on. ap (λ (b : Bool). pick b 1) (depends_same only (other_step h x g (step_apart made t s h hs x g on)) i hi))
        ∙ e

    pub steps-more : {l' : List ℕ} → early ≤ t → t < steps → RowIs c plan l l' words early t (row_of plan t) (Some (position_of plan t))
        → StepsExpressed c plan l words early t → StepsExpressed c plan l' words early (t + 1)
    steps-more {l'} late h row done s i hs hi =
        ⊎_elim (λ e. rw e (step-holds late h row i hi)) (λ lt. step_kept row.only h s lt i hi (done s i lt hi))
        (eq-or-lt_of_le (let g : s ≤ t = omega arith in g))

  -- before step `early` no position depends on a pivot
  pub steps-none : (l : List ℕ) (words : ℕ) → StepsExpressed c plan l words early early
  steps-none l words t i h hi =
      sum_cong (c.has (row_of plan t)) (c.has (row_of plan t)) (λ x. coefficient plan l words early x i) (λ x. 0) c.n (λ x g. refl)
      (λ x g on. ap (λ (b : Bool). pick b 1) (depends_none l words early (kind_of plan x) i (low x g on)))
      ∙ sum_zeros (c.has (row_of plan t)) c.n
    where
      s : Step c states plan early t
      s = made.step t (omega (arith, made.early_steps))

      low : (x : ℕ) → x < c.n → c.has (row_of plan t) x ≡ true → kind_of plan x ≤ early
      low x g on =
          ⊎_elim (λ own. let k : kind_of plan x ≡ t + 1 = ap (kind_of plan) own ∙ s.kind in omega arith)
          (λ ne. ⊎_elim (λ lo. omega arith) (λ hi. absurd (omega (arith, hi.0))) (s.others x g on ne)) (eq_or_ne x (position_of plan t))

-- ---- the check rows that no step used

module _ {c : Checks} {states : List ℕ} {plan : Arrays} {early steps pivots : ℕ} (made : Plan c states plan early steps pivots) (closed : Closed c plan)
    (unsolved : Unsolved plan pivots) where
  unsolved-kind : (x : ℕ) → x < c.n → kind_of plan x ≤ 4096
  unsolved-kind x h = go (settled made closed x h)
    where
      go : Settled made closed x → kind_of plan x ≤ 4096
      go (known e) = omega arith
      go (step s hs e k) = omega (arith, (few-steps made).1)
      go (pivot u hu e k) =
          let f : kind_of plan x ≡ 1025 + u = ap (kind_of plan) (sym e) ∙ unsolved u hu in omega (arith, made.pivots_few, made.positions)

  -- so no pivot stands in a row
  pub places_any : (l l' : List ℕ) (words rows : ℕ) → Places c plan l words steps rows → Places c plan l' words steps rows
  places_any l l' words rows places x h g = ((places x h g).0, λ k. absurd (omega (arith, unsolved-kind x h)))

  -- row t is that of check row j
  pub rest_below : (j : ℕ) → j < c.m → used_by plan j ≡ 0 → steps + unused_below plan j < c.m
  rest_below j h e = omega (arith, unused-below plan j c.m h e, made.steps-unused)

  module _ {l : List ℕ} {words t : ℕ} (places : Places c plan l words steps c.m) where
    reads_other : steps ≤ t → (x : ℕ) → x < c.n → Reads l words early c.m t (kind_of plan x)
    reads_other h x g = reads_settled made closed places x g (λ s hs e q. omega arith) (λ k q. omega (arith, unsolved-kind x g))

    pub reads-rest : steps ≤ t → ReadsAll c plan l words early c.m t None
    reads-rest h = record {
      each = λ x g. reads_other h x g;
    }

    pub rest_more : {l' : List ℕ} (j : ℕ) → t ≡ steps + unused_below plan j → used_by plan j ≡ 0 → RowIs c plan l l' words early t j None
        → RestTo c plan l words early steps j → RestTo c plan l' words early steps (j + 1)
    rest_more {l'} j e unused row done k i h z hi =
        ⊎_elim (λ q. rw q here) before (eq-or-lt_of_le (let g : k ≤ j = omega arith in g))
      where
        same : (x : ℕ) → x < c.n → coefficient plan l words early x i ≡ coefficient plan l' words early x i
        same x g = ap (λ (b : Bool). pick b 1) (sym (depends_same row.only (reads_other (omega arith) x g) i hi))

        here : pick (row_bit l' ((steps + unused_below plan j) * (words + 1)) i) 1 ≡ sum (c.has j) (λ x. coefficient plan l' words early x i) c.n
        here =
            ap (λ (r : ℕ). pick (row_bit l' (r * (words + 1)) i) 1) (sym e) ∙ row.bits i hi
            ∙ sum_ext (c.has j) (λ x. coefficient plan l words early x i) (λ x. coefficient plan l' words early x i) c.n same

        before : k < j → pick (row_bit l' ((steps + unused_below plan k) * (words + 1)) i) 1 ≡ sum (c.has k) (λ x. coefficient plan l' words early x i) c.n
        before lt =
            ap (λ (b : Bool). pick b 1) (bit_other row.only (steps + unused_below plan k) i (λ q. omega (arith, unused-below plan k j lt z)) hi) ∙ done k i lt z hi
            ∙ sum_ext (c.has k) (λ x. coefficient plan l words early x i) (λ x. coefficient plan l' words early x i) c.n same

-- a used row has none
pub rest_skip : (c : Checks) (plan : Arrays) (l : List ℕ) (words early steps j : ℕ) → used_by plan j ≢ 0 → RestTo c plan l words early steps j → RestTo c plan l words early steps (j + 1)
rest_skip c plan l words early steps j ne done k i h z hi =
    ⊎_elim (λ q. absurd (ne (ap (used_by plan) (sym q) ∙ z))) (λ lt. done k i lt z hi) (eq-or-lt_of_le (let g : k ≤ j = omega arith in g))
