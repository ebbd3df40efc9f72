-- `symbol_sums::restore_parts` meets its contract: c bytes are written.
-- Assumes nothing.
use mathlib.Core.List.{List}
use Prim.Native.Nat.{ℕ, ◌≤◌, ◌-◌}
use lib.ListN.{length}
use Rattle.std.specs.Prelude.{None}
use Rattle.symbol_sums.specs.Gather.{SumWritten}
use Rattle.symbol_sums.proofs.restore_parts.Given as goal

abbrev pub invariant-loop-c : goal.invariant-loop-c
invariant-loop-c g l = (l.c ≤ l.w) × ((q : List ℕ) → SumWritten l.w l.p None q l.xs (length l.xs) 0 l.from q l.initial.buf → SumWritten l.w l.p None q l.xs (length l.xs) 0 l.c q l.buf)

abbrev pub decreases-loop-c : goal.decreases-loop-c
decreases-loop-c g l = l.w - l.c
