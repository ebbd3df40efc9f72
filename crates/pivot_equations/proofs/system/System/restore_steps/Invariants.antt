-- `pivot_equations::system::System::restore_steps` meets its contract: the first t steps hold.
-- Assumes nothing.
use Rattle.peeling.specs.Plan.{Arrays}
use mathlib.Core.Path.{◌≡◌}
use mathlib.Core.List.{List}
use Prim.Native.Nat.{ℕ, ◌≤◌}
use lib.ListN.{length}
use Rattle.algebra.specs.Codeword.{Checks}
use Rattle.encoder.specs.inner.Positions.{checks}
use Rattle.peeling.specs.Values.{StepsRestored}
use Rattle.pivot_equations.specs.declared.rows.Rows.{Rows}
use Rattle.pivot_equations.proofs.system.System.restore_steps.Given as goal

-- the steps from `early` to t are restored
pub record Restored (c : Checks) (w : ℕ) (r : Rows) (plan : Arrays) (symbols symbols' xs : List ℕ) (t : ℕ) : Type 0 where
  pub size : length xs ≡ 64
  pub from : r.early ≤ t
  pub to : t ≤ r.steps
  pub restored : StepsRestored c w plan symbols symbols' r.early t

abbrev pub invariant-loop-t : goal.invariant-loop-t
invariant-loop-t l = Restored (checks l.self.block.now.shape) l.self.block.now.shape.w l.self.rows l.self.plan.now l.initial.symbols l.symbols l.xs l.t
