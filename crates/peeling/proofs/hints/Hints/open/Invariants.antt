-- `peeling::hints::Hints::open` meets its contract.
-- Assumes nothing.
use Rattle.std.proofs.Common.{◌≡◌, length}
use Rattle.peeling.proofs.hints.Hints.open.Given as goal

abbrev pub invariant-loop-x : goal.invariant-loop-x
invariant-loop-x l = length l.self.counts ≡ 1024

abbrev pub invariant-loop-j : goal.invariant-loop-j
invariant-loop-j l = length l.self.ready ≡ 16
