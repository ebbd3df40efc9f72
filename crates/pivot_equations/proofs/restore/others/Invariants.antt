-- `pivot_equations::restore::others` meets its contract: of the first i numbers, those other than p stand at the front.
-- Assumes nothing.
use Prim.Native.Nat.{◌≤◌}
use Rattle.pivot_equations.specs.Unused.{Others}
use Rattle.pivot_equations.proofs.restore.others.Given as goal

abbrev pub invariant-loop-i : goal.invariant-loop-i
invariant-loop-i l = (l.i ≤ l.n) × Others l.initial.xs l.i l.p l.xs l.k
