-- `buffers::part_16` meets its contract: after i turns, i bytes stand in the array.
-- Assumes nothing.
use Prim.Native.Nat.{ℕ, ◌+◌}
use lib.ListN.{get_or}
use Rattle.algebra.proofs.Fronts.{Filled}
use Rattle.buffers.proofs.part_16.Given as goal

abbrev pub invariant-loop-i : goal.invariant-loop-i
invariant-loop-i l = Filled (λ (b : ℕ). get_or l.src (l.from + b) 0) 16 l.i l.t
