-- The equations of the pivots, and their symbols. Internal: no public contract cites it.
-- Assumes nothing.
use Rattle.std.specs.Prelude.{◌≡◌, List, ℕ, ◌+◌, ◌*◌, ◌<◌, ◌≤◌, length, drop}
use Rattle.algebra.specs.Codeword.{Checks}
use Rattle.elimination.specs.System.{SameSolutions}
use Rattle.elimination.specs.Reduced.{Reduced}
use Rattle.peeling.specs.Plan.{Arrays, unused_below}
use Rattle.peeling.specs.Values.{Sides, StepsRestored, Peeled}
use Rattle.pivot_equations.specs.Express.{StepsExpressed, RestExpressed, Room}
use Rattle.pivot_equations.specs.declared.rows.Rows.{Rows}
use Rattle.decoder.specs.Pivots.{Put}

-- where the rows of the check rows that no step used begin
abbrev pub behind : ℕ → ℕ → List ℕ → List ℕ
behind words steps l = drop (steps * (words + 1)) l

-- behind the steps, l has so many reduced rows with right-hand sides d: the equations of the check rows that no step used have their solutions
pub record Equations (c : Checks) (w : ℕ) (plan : Arrays) (symbols : List ℕ) (r : Rows) (l d : List ℕ) : Type 0 where
  pub rows : List ℕ
  pub sides : List ℕ
  pub count : r.rest ≡ unused_below plan c.m
  pub step-rows : StepsExpressed c plan rows r.packed r.early r.steps
  pub rest-rows : RestExpressed c plan rows r.packed r.early r.steps
  pub sums : Sides c w plan symbols sides
  pub same : SameSolutions (behind r.packed r.steps rows) sides (behind r.packed r.steps l) d r.rest r.packed w
  pub reduced : Reduced (behind r.packed r.steps l) r.rest r.packed r.rest

-- the pivots' symbols were put in, and the steps restored again
pub record PutIn (c : Checks) (w : ℕ) (r : Rows) (l d : List ℕ) (plan : Arrays) (symbols : List ℕ) (plan' : Arrays) (symbols' : List ℕ) : Type 0 where
  pub between : List ℕ
  pub put : Put c w r.packed r.steps r.rest r.pivots l d plan symbols plan' between
  pub restored : StepsRestored c w plan' between symbols' r.early r.steps

-- the rows and their right-hand sides are within words and bytes of these lengths
pub record RowsRoom (r : Rows) (w words bytes : ℕ) : Type 0 where
  pub fit : r.steps * (r.packed + 1) + r.rest * (r.packed + 1) ≤ words
  pub sides : r.rest * w ≤ bytes

-- what peeling leaves of a block, and the equations of its pivots
pub record Solvable (c : Checks) (w : ℕ) (states : List ℕ) (plan : Arrays) (symbols : List ℕ) (r : Rows) (l d : List ℕ) : Type 0 where
  pub peeled : Peeled c w symbols states plan symbols r.early r.steps r.pivots
  pub equations : Equations c w plan symbols r l d
  pub room : Room c r (length l)
  pub sides : length d ≡ c.m * w
  pub some : 0 < w
