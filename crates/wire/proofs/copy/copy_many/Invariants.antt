-- `wire::copy::copy_many` meets its contract: at the loop the first i bytes stand, and after it all but 16 at most.
-- Assumes nothing.
use Prim.Native.Nat.{◌≤◌}
use lib.ListN.{length}
use Rattle.wire.proofs.AppendedLaws.{Copied}
use Rattle.wire.proofs.copy.copy_many.Given as goal

abbrev pub invariant-loop-i : goal.invariant-loop-i
invariant-loop-i l = (l.i ≤ length l.s) × Copied l.initial.out l.out l.at l.s l.i
