-- `elimination::weights::lightest_between` meets its contract. The invariant: the same of the row so far.
-- Assumes nothing.
use Rattle.std.proofs.Common.{◌<◌, length}
use Rattle.elimination.proofs.weights.lightest_between.Given as goal

abbrev pub invariant-loop-j : goal.invariant-loop-j
invariant-loop-j l = (l.initial.best.weight < 65535 → l.initial.best.row < length l.weights) → l.best.weight < 65535 → l.best.row < length l.weights
