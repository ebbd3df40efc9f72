-- `elimination::system::System::forward_pass` meets its contract. The invariant: no more steps than turns, the search starts within the rows, and the solutions are those of the start.
-- Assumes nothing.
use Prim.Native.Nat.{◌≤◌}
use Rattle.elimination.specs.Kept.{Kept}
use Rattle.elimination.proofs.system.System.forward_pass.Given as goal

abbrev pub invariant-loop-t : goal.invariant-loop-t
invariant-loop-t l = (l.count ≤ l._t) × ((l.from ≤ l.m) × Kept l.initial.self l.self)
