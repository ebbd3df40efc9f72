-- `symbol_sums::chunk::or_16` meets its contract: after i turns, i elements stand in the array.
-- Assumes nothing.
use Prim.Native.Nat.{ℕ}
use lib.Bits.{bit_or}
use lib.ListN.{get_or}
use Rattle.algebra.proofs.Fronts.{Filled}
use Rattle.symbol_sums.proofs.chunk.or_16.Given as goal

abbrev pub invariant-loop-i : goal.invariant-loop-i
invariant-loop-i l = Filled (λ (b : ℕ). bit_or (get_or l.t b 0) (get_or l.u b 0)) 16 l.i l.r
