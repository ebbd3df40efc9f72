-- `symbol_sums::gather` meets its contract: after i turns, i positions are added.
-- Assumes nothing.
use Prim.Native.Nat.{ℕ}
use Rattle.symbol_sums.specs.Gather.{summed}
use Rattle.symbol_sums.proofs.gather.Given as goal

abbrev pub invariant-loop-x : goal.invariant-loop-x
invariant-loop-x g l = (f : ℕ → ℕ) → g.C.Chunk.holds f l.c l.fn.start → g.C.Chunk.holds (summed f l.w l.src l.xs l.x-index) l.c l.t
