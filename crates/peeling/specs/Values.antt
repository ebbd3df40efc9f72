-- The symbols along a plan. Internal: no public contract cites it.
-- Assumes nothing.
use Rattle.std.specs.Prelude.{◌≡◌, ℕ, ◌+◌, ◌*◌, ◌<◌, ◌≤◌, Bool, true, false, ◌≢◌, ◌⊎◌, List, length, slice_index}
use Rattle.algebra.specs.Sums.{sum}
use Rattle.algebra.specs.Codeword.{Checks, byte_at}
use Rattle.peeling.specs.States.{is_known}
use Rattle.peeling.specs.Plan.{Arrays, kind_of, pivot_of, row_of, used_by, unused_below, Plan, Closed, Unsolved}

-- check row j's sum over the symbols, in byte b of each
abbrev pub row_sum : Checks → ℕ → List ℕ → ℕ → ℕ → ℕ
row_sum c w symbols j b = sum (c.has j) (byte_at w symbols b) c.n

-- the check rows of the first `steps` steps add up to zero
abbrev pub StepsHold : Checks → ℕ → Arrays → List ℕ → ℕ → Type 0
StepsHold c w plan symbols steps = (t b : ℕ) → t < steps → b < w → row_sum c w symbols (row_of plan t) b ≡ 0

-- the symbols of a block after the first `steps` steps, with `pivots` pivots, all zero
pub record Values (c : Checks) (w : ℕ) (block states : List ℕ) (plan : Arrays) (symbols : List ℕ) (steps pivots : ℕ) : Type 0 where
  pub size : length symbols ≡ c.n * w
  pub known-byte : (p b : ℕ) → p < c.n → b < w → is_known states p ≡ true → byte_at w symbols b p ≡ byte_at w block b p
  pub pivot-byte : (u b : ℕ) → u < pivots → b < w → byte_at w symbols b (pivot_of plan u) ≡ 0
  pub holds : StepsHold c w plan symbols steps

-- what peeling leaves of a block: every missing position is settled, or put off as a pivot that is zero
pub record Peeled (c : Checks) (w : ℕ) (block states : List ℕ) (plan : Arrays) (symbols : List ℕ) (early steps pivots : ℕ) : Type 0 where
  pub made : Plan c states plan early steps pivots
  pub closed : Closed c plan
  pub unsolved : Unsolved plan pivots
  pub values : Values c w block states plan symbols steps pivots
  pub begun : pivots ≡ 0 → early ≡ steps

-- the positions of the steps from `early` on have new symbols, so that all steps' rows hold
pub record StepsRestored (c : Checks) (w : ℕ) (plan : Arrays) (symbols symbols' : List ℕ) (early steps : ℕ) : Type 0 where
  pub size : length symbols' ≡ length symbols
  pub same : (p b : ℕ) → p < c.n → b < w → (kind_of plan p ≤ early) ⊎ (1024 < kind_of plan p) → byte_at w symbols' b p ≡ byte_at w symbols b p
  pub holds : StepsHold c w plan symbols' steps

-- r is the answer to: does each check row that no step used add up to zero?
abbrev pub HoldIs : Checks → ℕ → Arrays → List ℕ → Bool → Type 0
HoldIs c w plan symbols true = (j b : ℕ) → j < c.m → used_by plan j ≡ 0 → b < w → row_sum c w symbols j b ≡ 0
HoldIs c w plan symbols false = (j : ℕ) × ((b : ℕ) × ((j < c.m) × ((used_by plan j ≡ 0) × ((b < w) × (row_sum c w symbols j b ≢ 0)))))

-- the sums of the check rows that no step used stand one after the other
abbrev pub Sides : Checks → ℕ → Arrays → List ℕ → List ℕ → Type 0
Sides c w plan symbols d = (j b : ℕ) → j < c.m → used_by plan j ≡ 0 → b < w → slice_index d (unused_below plan j * w + b) ≡ row_sum c w symbols j b
