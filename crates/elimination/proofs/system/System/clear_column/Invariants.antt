-- `elimination::system::System::clear_column` meets its contract.
-- Assumes nothing.
use mathlib.Core.Path.{◌≡◌}
use mathlib.Core.Bool.{Bool}
use Prim.Native.Nat.{ℕ, ◌+◌, ◌-◌, ◌≤◌}
use Rattle.elimination.specs.declared.system.System.{System}
use Rattle.elimination.specs.Column.{has_pivot, add_row_where}
use Rattle.elimination.specs.Kept.{SameBuffers}
use Rattle.elimination.proofs.system.System.clear_column.Given as goal

-- row r is added, on both sides, to the rows below j for which h is true (those with the pivot)
pub record ClearedTo (a b : System) (h : ℕ → Bool) (r j : ℕ) : Type 0 where
  pub up_to : j ≤ a.shape.rows
  pub buffers : SameBuffers a b
  pub rows : b.rows.now ≡ add_row_where h a.rows.now r (a.shape.words + 1) a.shape.words j
  pub rhs : b.rhs.now ≡ add_row_where h a.rhs.now r a.shape.width a.shape.width j

abbrev pub invariant-loop-j : goal.invariant-loop-j
invariant-loop-j l = ClearedTo l.initial.self l.self (has_pivot l.initial.self.rows.now (l.initial.self.shape.words + 1) l.r l.p) l.r l.from

abbrev pub decreases-loop-j : goal.decreases-loop-j
decreases-loop-j l = l.initial.self.shape.rows - l.from
