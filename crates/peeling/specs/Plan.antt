-- The plan of a decoding: every missing position is settled by a check row, a step, in which all other positions are closed before it, or is put
-- off as a pivot. Internal: no public contract cites it.
-- Assumes nothing.
use Rattle.std.specs.Prelude.{◌≡◌, ℕ, zero, suc, ◌+◌, ◌<◌, ◌≤◌, true, false, cond, ◌≢◌, ◌⊎◌, List, ◌==◌, slice_index, slice_index_or}
use Rattle.algebra.specs.Codeword.{Checks}
use Rattle.peeling.specs.States.{is_known}
use Rattle.ccsds.specs.inner.Layout.{max_n, max_m}
use Rattle.peeling.specs.declared.plan.Plan as Declared
use Rattle.peeling.specs.declared.plan.Step as Entry

-- what a plan is made of
abbrev pub Arrays : Type 0
Arrays = Declared.Plan

-- the kinds of the pivots
abbrev pub first_pivot : ℕ
first_pivot = max_m + 1

abbrev pub last_pivot : ℕ
last_pivot = max_m + max_n

abbrev pub first_solved : ℕ
first_solved = last_pivot + 1

-- what position p is: 0 known, t + 1 settled by step t, firstPivot + u pivot u, firstSolved + h a pivot that row h of the reduced rows has, 65535
-- open
abbrev pub kind_of : Arrays → ℕ → ℕ
kind_of plan p = slice_index plan.kinds p

-- the position of pivot u
abbrev pub pivot_of : Arrays → ℕ → ℕ
pivot_of plan u = slice_index plan.pivots u

-- what stands where no step is
abbrev pub no_step : Entry.Step
no_step = record { row = 0; position = 0 }

-- the check row of step t
abbrev pub row_of : Arrays → ℕ → ℕ
row_of plan t = (slice_index_or plan.steps t no_step).row

-- and the position that it settles
abbrev pub position_of : Arrays → ℕ → ℕ
position_of plan t = (slice_index_or plan.steps t no_step).position

-- not 0 where a step used check row j
abbrev pub used_by : Arrays → ℕ → ℕ
used_by plan j = cond (slice_index_or plan.used j false) 1 0

-- how many of the check rows below j no step used; of an unused row, its number among these
unfoldable pub unused_below : Arrays → ℕ → ℕ
unused_below plan zero = 0
unused_below plan (suc j) = cond (used_by plan j == 0) (suc (unused_below plan j)) (unused_below plan j)

-- position p is closed before step t: known, settled by an earlier step, or, from step `early` on, a pivot
abbrev pub Before : Arrays → ℕ → ℕ → ℕ → Type 0
Before plan early t p = (kind_of plan p ≤ t) ⊎ ((early ≤ t) × ((max_m < kind_of plan p) × (kind_of plan p < 65535)))

pub record Step (c : Checks) (states : List ℕ) (plan : Arrays) (early t : ℕ) : Type 0 where
  pub row : row_of plan t < c.m
  pub position : position_of plan t < c.n
  pub missing : is_known states (position_of plan t) ≡ false
  pub kind : kind_of plan (position_of plan t) ≡ t + 1
  pub has : c.has (row_of plan t) (position_of plan t) ≡ true
  pub others : (p : ℕ) → p < c.n → c.has (row_of plan t) p ≡ true → p ≢ position_of plan t → Before plan early t p

pub record PutOff (c : Checks) (states : List ℕ) (plan : Arrays) (u : ℕ) : Type 0 where
  pub position : pivot_of plan u < c.n
  pub missing : is_known states (pivot_of plan u) ≡ false
  pub kind : (max_m < kind_of plan (pivot_of plan u)) × (kind_of plan (pivot_of plan u) < 65535)

-- missing position p is open, settled or put off
abbrev pub Sort : Arrays → ℕ → ℕ → ℕ → Type 0
Sort plan steps pivots p =
    (kind_of plan p ≡ 65535) ⊎ (((t : ℕ) × ((t < steps) × (position_of plan t ≡ p))) ⊎ ((u : ℕ) × ((u < pivots) × (pivot_of plan u ≡ p))))

-- no pivot was put off before step `early`
pub record Plan (c : Checks) (states : List ℕ) (plan : Arrays) (early steps pivots : ℕ) : Type 0 where
  pub positions : c.n ≤ max_n
  pub rows : c.m ≤ max_m
  pub early_steps : early ≤ steps
  pub pivots_few : pivots ≤ c.n
  pub steps-unused : steps + unused_below plan c.m ≡ c.m
  pub known : (p : ℕ) → p < c.n → is_known states p ≡ true → kind_of plan p ≡ 0
  pub sort : (p : ℕ) → p < c.n → is_known states p ≡ false → Sort plan steps pivots p
  pub step : (t : ℕ) → t < steps → Step c states plan early t
  pub pivot : (u : ℕ) → u < pivots → PutOff c states plan u
  pub used : (j : ℕ) → j < c.m → (used_by plan j ≡ 0) ⊎ ((t : ℕ) × ((t < steps) × (row_of plan t ≡ j)))

-- no position is open
abbrev pub Closed : Checks → Arrays → Type 0
Closed c plan = (p : ℕ) → p < c.n → kind_of plan p ≢ 65535

-- no pivot is solved yet: each has its number
abbrev pub Unsolved : Arrays → ℕ → Type 0
Unsolved plan pivots = (u : ℕ) → u < pivots → kind_of plan (pivot_of plan u) ≡ first_pivot + u
