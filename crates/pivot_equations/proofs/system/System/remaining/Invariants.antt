-- `pivot_equations::system::System::remaining` meets its contract: the unused check rows before j are expressed.
-- Assumes nothing.
use mathlib.Core.Path.{◌≡◌}
use mathlib.Core.List.{List}
use Prim.Native.Nat.{ℕ, ◌+◌}
use lib.ListN.{length}
use Rattle.algebra.specs.Codeword.{Checks}
use Rattle.encoder.specs.inner.Positions.{checks}
use Rattle.peeling.specs.Plan.{Arrays, unused_below}
use Rattle.pivot_equations.specs.Express.{SameBelow, RestTo}
use Rattle.pivot_equations.specs.declared.rows.Rows.{Rows}
use Rattle.pivot_equations.proofs.system.System.remaining.Given as goal

-- the unused check rows before j are expressed in rows up to t, and nothing of the steps has changed
pub record Expressed (c : Checks) (r : Rows) (plan : Arrays) (words words' xs : List ℕ) (t j : ℕ) : Type 0 where
  pub size : length xs ≡ 64
  pub next : t ≡ r.steps + unused_below plan j
  pub expressed : RestTo c plan words' r.packed r.early r.steps j
  pub steps : SameBelow words words' r.packed r.steps

abbrev pub invariant-loop-j : goal.invariant-loop-j
invariant-loop-j l = Expressed (checks l.self.block.now.shape) l.self.rows l.self.plan.now l.initial.words l.words l.xs l.t l.j
