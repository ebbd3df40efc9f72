-- `symbol_sums::cancels_parts` meets its contract: after i turns, the sums of i chunks are zero.
-- Assumes nothing.
use mathlib.Core.Bool.{true}
use Prim.Native.Nat.{◌+◌, ◌*◌}
use lib.ListN.{length}
use Rattle.symbol_sums.specs.Gather.{summed, ZeroIs}
use Rattle.symbol_sums.proofs.cancels_parts.Given as goal

abbrev pub invariant-loop-i : goal.invariant-loop-i
invariant-loop-i g l = ZeroIs (summed (λ b. 0) l.w l.src l.xs (length l.xs)) l.from (l.from + l.i * g.C.Chunk.SIZE) true
