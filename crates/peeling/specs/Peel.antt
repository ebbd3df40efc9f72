-- How far peeling has come. Internal: no public contract cites it.
-- Assumes nothing.
use Rattle.std.specs.Prelude.{◌≡◌, ℕ, ◌+◌, ◌-◌, ◌<◌, ◌≤◌, Bool, true, false, ◌≢◌, List, length, slice_index, slice_set, Option, IfSome, MatchOption}
use Rattle.algebra.specs.Codeword.{Checks}
use Rattle.peeling.specs.States.{is_known}
use Rattle.peeling.specs.Plan.{Arrays, first_pivot, kind_of, Plan, used_by, Unsolved}
use Rattle.peeling.specs.Values.{Values}
use Rattle.peeling.specs.declared.peel.Progress.{Progress}

-- no step used a row
abbrev pub NothingUsed : Arrays → Type 0
NothingUsed plan = (j : ℕ) → used_by plan j ≡ 0

-- every missing position is open and no row is used
pub record Opened (n : ℕ) (states : List ℕ) (plan : Arrays) : Type 0 where
  pub known : (p : ℕ) → p < n → is_known states p ≡ true → kind_of plan p ≡ 0
  pub open_kind : (p : ℕ) → p < n → is_known states p ≡ false → kind_of plan p ≡ 65535
  pub unused : NothingUsed plan

-- r is the answer to: is every position known?
abbrev pub AllKnownIs : List ℕ → Bool → Type 0
AllKnownIs states true = (p : ℕ) → p < length states → is_known states p ≡ true
AllKnownIs states false = (p : ℕ) × ((p < length states) × (is_known states p ≡ false))

-- of the first n positions of xs, the i-th is open, and no other
pub record OnlyOpen (plan : Arrays) (xs : List ℕ) (n i : ℕ) : Type 0 where
  pub below : i < n
  pub open_kind : kind_of plan (slice_index xs i) ≡ 65535
  pub others : (k : ℕ) → k < n → k ≢ i → kind_of plan (slice_index xs k) ≢ 65535

-- r is the index of a position of xs that is open, while no other is
abbrev pub SingleIs : Arrays → List ℕ → Option ℕ → Type 0
SingleIs plan xs r = IfSome r (OnlyOpen plan xs (length xs))

-- no position from `from` on below n is open
abbrev pub NoneOpen : Arrays → ℕ → ℕ → Type 0
NoneOpen plan from n = (p : ℕ) → from ≤ p → p < n → kind_of plan p ≢ 65535

-- x is the first that is
pub record FirstOpen (plan : Arrays) (from n x : ℕ) : Type 0 where
  pub after : from ≤ x
  pub below : x < n
  pub passed : NoneOpen plan from x
  pub found : kind_of plan x ≡ 65535

-- r is the first open position from `from` on below n, or none is
abbrev pub NextOpen : Arrays → ℕ → ℕ → Option ℕ → Type 0
NextOpen plan from n r = MatchOption r (NoneOpen plan from n) (FirstOpen plan from n)

-- step t is entered: check row r settles position p
pub record StepMade (plan plan' : Arrays) (t r p : ℕ) : Type 0 where
  pub kinds : plan'.kinds ≡ slice_set plan.kinds p (t + 1)
  pub pivots : plan'.pivots ≡ plan.pivots
  pub steps : plan'.steps ≡ slice_set plan.steps t (record { row = r; position = p })
  pub used : plan'.used ≡ slice_set plan.used r true

-- pivot s is entered: position x
pub record PivotMade (plan plan' : Arrays) (s x : ℕ) : Type 0 where
  pub kinds : plan'.kinds ≡ slice_set plan.kinds x (first_pivot + s)
  pub pivots : plan'.pivots ≡ slice_set plan.pivots s x
  pub steps : plan'.steps ≡ plan.steps
  pub used : plan'.used ≡ plan.used

-- the plan and the symbols as far as they are made; every position before the cursor is closed
pub record State (c : Checks) (w : ℕ) (block states : List ℕ) (plan : Arrays) (symbols : List ℕ) (g : Progress) : Type 0 where
  pub made : Plan c states plan g.early g.steps g.pivots
  pub unsolved : Unsolved plan g.pivots
  pub values : Values c w block states plan symbols g.steps g.pivots
  pub begun : g.pivots ≡ 0 → g.early ≡ g.steps
  pub cursor_below : g.cursor ≤ c.n
  pub pivots_below : g.pivots ≤ g.cursor
  pub closed : (p : ℕ) → p < g.cursor → kind_of plan p ≢ 65535

-- so far for some block and some states
pub record Reached (c : Checks) (w : ℕ) (plan : Arrays) (symbols : List ℕ) (g : Progress) : Type 0 where
  pub block : List ℕ
  pub states : List ℕ
  pub state : State c w block states plan symbols g

-- what is left to do
abbrev pub left : ℕ → Progress → ℕ
left n g = g.fuel + (n - g.cursor)

-- and one turn further: less is left to do
pub record Continued (c : Checks) (w : ℕ) (plan : Arrays) (symbols : List ℕ) (g : Progress) (plan' : Arrays) (symbols' : List ℕ) (h : Progress) : Type 0 where
  pub state : (block states : List ℕ) → State c w block states plan symbols g → State c w block states plan' symbols' h
  pub less : left c.n h < left c.n g
  pub last : IfSome h.last (λ x. x < c.n)
