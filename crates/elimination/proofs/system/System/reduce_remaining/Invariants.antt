-- `elimination::system::System::reduce_remaining` meets its contract.
-- Assumes nothing.
use Prim.Native.Nat.{ℕ, ◌<◌}
use mathlib.Core.Bool.{Bool, false}
use mathlib.Core.Logic.{◌≢◌}
use mathlib.Core.List.{List}
use lib.ListN.{get_or}
use Rattle.elimination.specs.declared.system.System.{System}
use Rattle.elimination.specs.Kept.{Kept, ReducedAt}
use Rattle.elimination.proofs.system.System.reduce_remaining.Given as goal

-- the rows for which `done` has true are reduced, the first j rows are among them, and the solutions are those of the start
pub record ReducedTo (a b : System) (done : List Bool) (j : ℕ) : Type 0 where
  pub reduced : ReducedAt done b
  pub marked : (i : ℕ) → i < j → get_or done i false ≢ false
  pub kept : Kept a b

abbrev pub invariant-loop-j : goal.invariant-loop-j
invariant-loop-j l = ReducedTo l.initial.self l.self l.done l.j
