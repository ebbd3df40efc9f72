-- How a plan changes by a step and by a pivot.
-- Assumes nothing.
use Rattle.std.proofs.Common.{◌≡◌, ℕ, ◌+◌, ◌<◌, Bool, false, true, cond, ◌≢◌, List, get_or, ap, ◌∙◌, arith, get_or-set_other, get_or-set_same}
use Rattle.peeling.specs.declared.plan.Step as Entry
use Rattle.peeling.specs.Plan.{Arrays, no_step, kind_of, pivot_of, row_of, position_of, used_by}
use Rattle.peeling.specs.Peel.{StepMade, PivotMade}

-- whether check row j is used
pub used_as : (plan : Arrays) (j : ℕ) (b : Bool) → get_or plan.used j false ≡ b → used_by plan j ≡ cond b 1 0
used_as plan j b e = ap (λ (u : Bool). cond u 1 0) e

-- step t is entered: check row r, position p
pub record Settled (plan plan' : Arrays) (t r p : ℕ) : Type 0 where
  pub row : row_of plan' t ≡ r
  pub rows : (k : ℕ) → k ≢ t → row_of plan' k ≡ row_of plan k
  pub position : position_of plan' t ≡ p
  pub positions : (k : ℕ) → k ≢ t → position_of plan' k ≡ position_of plan k
  pub used : used_by plan' r ≡ 1
  pub others : (j : ℕ) → j ≢ r → used_by plan' j ≡ used_by plan j
  pub kind : kind_of plan' p ≡ t + 1
  pub kinds : (k : ℕ) → k ≢ p → kind_of plan' k ≡ kind_of plan k
  pub pivots : (u : ℕ) → pivot_of plan' u ≡ pivot_of plan u

pub settled : {plan plan' : Arrays} {t r p : ℕ} → t < 1024 → r < 1024 → p < 3072 → StepMade plan plan' t r p → Settled plan plan' t r p
settled {plan} {plan'} {t} {r} {p} ht hr hp m =
    record {
      row = ap (λ (s : Entry.Step). s.row) here;
      rows = λ k h. ap (λ (s : Entry.Step). s.row) (there k h);
      position = ap (λ (s : Entry.Step). s.position) here;
      positions = λ k h. ap (λ (s : Entry.Step). s.position) (there k h);
      used = used_as plan' r true (ap (λ (l : List Bool). get_or l r false) m.used ∙ get_or-set_same plan.used r true false (omega (arith, plan.used_len)));
      others = λ j h. used_as plan' j (get_or plan.used j false) (ap (λ (l : List Bool). get_or l j false) m.used ∙ get_or-set_other plan.used r j true false h);
      kind = at p m.kinds ∙ get_or-set_same plan.kinds p (t + 1) 0 (omega (arith, plan.kinds_len));
      kinds = λ k h. at k m.kinds ∙ get_or-set_other plan.kinds p k (t + 1) 0 h;
      pivots = λ u. at u m.pivots;
    }
  where
    here : get_or plan'.steps t no_step ≡ record { row = r; position = p }
    here = ap (λ (l : List Entry.Step). get_or l t no_step) m.steps ∙ get_or-set_same plan.steps t (record { row = r; position = p }) no_step (omega (arith, plan.steps_len))

    there : (k : ℕ) → k ≢ t → get_or plan'.steps k no_step ≡ get_or plan.steps k no_step
    there k h = ap (λ (l : List Entry.Step). get_or l k no_step) m.steps ∙ get_or-set_other plan.steps t k (record { row = r; position = p }) no_step h

    at : {l l' : List ℕ} (k : ℕ) → l' ≡ l → get_or l' k 0 ≡ get_or l k 0
    at k e = ap (λ (l : List ℕ). get_or l k 0) e

-- pivot s is entered: position x
pub record Deferred (plan plan' : Arrays) (s x : ℕ) : Type 0 where
  pub position : pivot_of plan' s ≡ x
  pub pivots : (u : ℕ) → u ≢ s → pivot_of plan' u ≡ pivot_of plan u
  pub kind : kind_of plan' x ≡ 1025 + s
  pub kinds : (k : ℕ) → k ≢ x → kind_of plan' k ≡ kind_of plan k
  pub rows : (t : ℕ) → row_of plan' t ≡ row_of plan t
  pub positions : (t : ℕ) → position_of plan' t ≡ position_of plan t
  pub used : (j : ℕ) → used_by plan' j ≡ used_by plan j

pub deferred : {plan plan' : Arrays} {s x : ℕ} → s < 3072 → x < 3072 → PivotMade plan plan' s x → Deferred plan plan' s x
deferred {plan} {plan'} {s} {x} hs hx m =
    record {
      position = at s m.pivots ∙ get_or-set_same plan.pivots s x 0 (omega (arith, plan.pivots_len));
      pivots = λ u h. at u m.pivots ∙ get_or-set_other plan.pivots s u x 0 h;
      kind = at x m.kinds ∙ get_or-set_same plan.kinds x (1025 + s) 0 (omega (arith, plan.kinds_len));
      kinds = λ k h. at k m.kinds ∙ get_or-set_other plan.kinds x k (1025 + s) 0 h;
      rows = λ t. ap (λ (l : List Entry.Step). (get_or l t no_step).row) m.steps;
      positions = λ t. ap (λ (l : List Entry.Step). (get_or l t no_step).position) m.steps;
      used = λ j. used_as plan' j (get_or plan.used j false) (ap (λ (l : List Bool). get_or l j false) m.used);
    }
  where
    at : {l l' : List ℕ} (k : ℕ) → l' ≡ l → get_or l' k 0 ≡ get_or l k 0
    at k e = ap (λ (l : List ℕ). get_or l k 0) e
