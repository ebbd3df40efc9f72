-- `elimination::system::System::next_with_pivot` meets its contract. The invariant: no row passed has the pivot.
-- Assumes nothing.
use mathlib.Core.Path.{◌≡◌}
use mathlib.Core.Bool.{false}
use Prim.Native.Nat.{ℕ, ◌+◌, ◌≤◌, ◌<◌}
use Rattle.elimination.specs.Column.{has_pivot}
use Rattle.elimination.proofs.system.System.next_with_pivot.Given as goal

abbrev pub invariant-loop-k : goal.invariant-loop-k
invariant-loop-k l = (i : ℕ) → l.j ≤ i → i < l.k → has_pivot l.self.rows.now (l.self.shape.words + 1) l.r l.p i ≡ false
