-- `elimination::system::System::clear_active` meets its contract. The invariant: the solutions are those of the start.
-- Assumes nothing.
use Prim.Native.Nat.{◌-◌, ◌≤◌}
use Rattle.elimination.specs.Kept.{Kept}
use Rattle.elimination.proofs.system.System.clear_active.Given as goal

abbrev pub invariant-loop-i : goal.invariant-loop-i
invariant-loop-i l = (l.from ≤ 1024) × ((l.active.count ≤ l.initial.active.count) × Kept l.initial.self l.self)

abbrev pub decreases-loop-i : goal.decreases-loop-i
decreases-loop-i l = 1024 - l.from
