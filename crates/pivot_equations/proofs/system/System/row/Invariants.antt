-- `pivot_equations::system::System::row` meets its contract: the expressions of the positions passed are added.
-- Assumes nothing.
use Prim.Native.Nat.{ℕ, ◌<◌}
use lib.ListN.{length, get_or}
use Rattle.pivot_equations.specs.Express.{all_rows, Reads, kind_but}
use Rattle.pivot_equations.proofs.RowSums.{SumTo}
use Rattle.pivot_equations.proofs.system.System.row.Given as goal

abbrev pub invariant-loop-x : goal.invariant-loop-x
invariant-loop-x l =
    let s = l.self in
    ((k : ℕ) → k < length l.x-items → Reads l.initial.words s.rows.packed s.rows.early (all_rows s.rows) l.e.row (kind_but s.plan.now l.e.but (get_or l.x-items k 0)))
    × SumTo s.plan.now l.initial.words l.words l.x-items s.rows.packed s.rows.early l.e.row l.e.but l.x-index
