-- `buffers::sum_16` meets its contract: after i turns, i sums stand in the array.
-- Assumes nothing.
use Prim.Native.Nat.{ℕ, ◌+◌}
use lib.ListN.{get_or}
use Rattle.algebra.specs.Sums.{◌⊕◌}
use Rattle.algebra.proofs.Fronts.{Filled}
use Rattle.buffers.proofs.sum_16.Given as goal

abbrev pub invariant-loop-i : goal.invariant-loop-i
invariant-loop-i l = Filled (λ (b : ℕ). get_or l.dst (l.at + b) 0 ⊕ get_or l.src (l.from + b) 0) 16 l.i l.t
