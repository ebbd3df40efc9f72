-- `pivot_equations::system::System::steps` meets its contract: the steps up to t are expressed.
-- Assumes nothing.
use Rattle.peeling.specs.Plan.{Arrays}
use mathlib.Core.Path.{◌≡◌}
use mathlib.Core.List.{List}
use Prim.Native.Nat.{ℕ, ◌≤◌}
use lib.ListN.{length}
use Rattle.algebra.specs.Codeword.{Checks}
use Rattle.encoder.specs.inner.Positions.{checks}
use Rattle.pivot_equations.specs.Express.{StepsExpressed, SameFrom}
use Rattle.pivot_equations.specs.declared.rows.Rows.{Rows}
use Rattle.pivot_equations.proofs.system.System.steps.Given as goal

-- the steps from `early` to t are expressed, and nothing behind the steps has changed
pub record Expressed (c : Checks) (r : Rows) (plan : Arrays) (words words' xs : List ℕ) (t : ℕ) : Type 0 where
  pub size : length xs ≡ 64
  pub from : r.early ≤ t
  pub to : t ≤ r.steps
  pub expressed : StepsExpressed c plan words' r.packed r.early t
  pub behind : SameFrom words words' r.packed r.steps

abbrev pub invariant-loop-t : goal.invariant-loop-t
invariant-loop-t l = Expressed (checks l.self.block.now.shape) l.self.rows l.self.plan.now l.initial.words l.words l.xs l.t
