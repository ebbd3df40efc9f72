-- `symbol_sums::put_sum_parts` meets its contract: c bytes are written.
-- Assumes nothing.
use mathlib.Core.List.{List}
use Prim.Native.Nat.{ℕ, ◌≤◌, ◌-◌}
use lib.ListN.{length}
use Rattle.symbol_sums.specs.Gather.{SumWritten}
use Rattle.symbol_sums.proofs.put_sum_parts.Given as goal

abbrev pub invariant-loop-c : goal.invariant-loop-c
invariant-loop-c g l = (l.c ≤ l.w) × ((q : List ℕ) → SumWritten l.w l.j l.prev l.src l.xs (length l.xs) 0 l.from q l.initial.dst → SumWritten l.w l.j l.prev l.src l.xs (length l.xs) 0 l.c q l.dst)

abbrev pub decreases-loop-c : goal.decreases-loop-c
decreases-loop-c g l = l.w - l.c
