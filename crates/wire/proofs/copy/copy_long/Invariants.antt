-- `wire::copy::copy_long` meets its contract.
-- Assumes nothing.
use Prim.Native.Nat.{◌+◌, ◌*◌, ◌≤◌}
use lib.ListN.{length}
use Rattle.wire.proofs.AppendedLaws.{Copied}
use Rattle.wire.proofs.copy.copy_long.Given as goal

abbrev pub invariant-loop-k : goal.invariant-loop-k
invariant-loop-k l = (l.start + 64 * l.k ≤ length l.s) × Copied l.initial.out l.out l.at l.s (l.start + 64 * l.k)
