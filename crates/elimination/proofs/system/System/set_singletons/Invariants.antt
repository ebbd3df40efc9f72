-- `elimination::system::System::set_singletons` meets its contract.
-- Assumes nothing.
use Prim.Native.Nat.{ℕ}
use mathlib.Core.Path.{◌≡◌}
use mathlib.Core.Bool.{Bool}
use mathlib.Core.List.{List}
use Rattle.elimination.specs.declared.system.System.{System}
use Rattle.elimination.specs.System.{SameCoefficients}
use Rattle.elimination.specs.Kept.{Kept, ReducedAt}
use Rattle.elimination.specs.SharedUnknowns.{SharedMasks}
use Rattle.elimination.proofs.system.System.set_singletons.Given as goal

-- only pivot words have changed, so the masks still hold, and the rows for which `done` has true are reduced
pub record SingletonsSet (a b : System) (masks : List ℕ) (done : List Bool) : Type 0 where
  pub kept : Kept a b
  pub coefficients : SameCoefficients a.rows.now b.rows.now a.shape.words
  pub rhs : b.rhs.now ≡ a.rhs.now
  pub shared : SharedMasks masks b.rows.now b.shape.rows b.shape.words b.shape.words
  pub reduced : ReducedAt done b

abbrev pub invariant-loop-step : goal.invariant-loop-step
invariant-loop-step l = SingletonsSet l.initial.self l.self l.masks l.done
