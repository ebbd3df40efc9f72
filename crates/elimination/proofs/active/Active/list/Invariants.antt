-- `elimination::active::Active::list` meets its contract. The invariant: no more rows are listed than were passed.
-- Assumes nothing.
use Prim.Native.Nat.{◌≤◌}
use Rattle.elimination.proofs.active.Active.list.Given as goal

abbrev pub invariant-loop-j : goal.invariant-loop-j
invariant-loop-j l = l.self.count ≤ l.j
