-- `closing::count_marks` meets its contract: what is counted, and what is still to count, are all.
-- Assumes nothing.
use mathlib.Core.Path.{◌≡◌}
use mathlib.Core.List.{List}
use Prim.Native.Nat.{ℕ, ◌+◌, ◌≤◌}
use lib.ListN.{drop}
use Rattle.algebra.specs.Lists.{count}
use Rattle.block.specs.Status.{heard_mark, filled_mark}
use Rattle.closing.proofs.count_marks.Given as goal

-- k of the first i marks are v
pub record Counted (v : ℕ) (marks : List ℕ) (i k : ℕ) : Type 0 where
  pub few : k ≤ i
  pub all : k + count v (drop i marks) ≡ count v marks

abbrev pub invariant-loop-mark : goal.invariant-loop-mark
invariant-loop-mark l = Counted heard_mark l.marks l.mark-index l.heard × Counted filled_mark l.marks l.mark-index l.filled
