-- What is said of a block's system of equations: specs/Express.antt at its check rows, its plan and its rows. Internal: no public contract cites it.
-- Assumes nothing.
use Rattle.std.specs.Prelude.{List, ℕ, ◌+◌, ◌*◌, ◌≤◌, length}
use Rattle.algebra.specs.Codeword.{Checks}
use Rattle.encoder.specs.inner.Positions.{checks}
use Rattle.peeling.specs.Plan.{Unsolved}
use Rattle.pivot_equations.specs.Express.{all_rows, Reads, Added, Planned, Room, Places, StepsExpressed, RestExpressed}
use Rattle.pivot_equations.specs.declared.system.System.{System}

-- the check rows of its block
abbrev pub checks_of : System → Checks
checks_of s = checks s.block.now.shape

-- its rows are those of its plan
abbrev pub IsPlanned : System → Type 0
IsPlanned s = Planned (checks_of s) s.plan.now s.rows

-- and no pivot is solved yet
abbrev pub IsUnsolved : System → Type 0
IsUnsolved s = Unsolved s.plan.now s.rows.pivots

-- so many words have room for its rows
abbrev pub HasRoom : System → ℕ → Type 0
HasRoom s size = Room (checks_of s) s.rows size

-- all its rows are within the words l
abbrev pub AreWithin : System → List ℕ → Type 0
AreWithin s l = all_rows s.rows * (s.rows.packed + 1) ≤ length l

-- each pivot has a place
abbrev pub HasPlaces : System → List ℕ → Type 0
HasPlaces s l = Places (checks_of s) s.plan.now l s.rows.packed s.rows.steps (checks_of s).m

-- what stands for a position of this kind may be read while row t is made
abbrev pub ReadsKind : System → List ℕ → ℕ → ℕ → Type 0
ReadsKind s l t kind = Reads l s.rows.packed s.rows.early (all_rows s.rows) t kind

-- row t has a position of this kind added
abbrev pub AddsKind : System → List ℕ → List ℕ → ℕ → ℕ → Type 0
AddsKind s l l' t kind = Added l l' s.rows.packed s.rows.early t kind

-- the rows of the steps hold
abbrev pub StepsHere : System → List ℕ → Type 0
StepsHere s l = StepsExpressed (checks_of s) s.plan.now l s.rows.packed s.rows.early s.rows.steps

-- and those behind the steps
abbrev pub RestHere : System → List ℕ → Type 0
RestHere s l = RestExpressed (checks_of s) s.plan.now l s.rows.packed s.rows.early s.rows.steps
