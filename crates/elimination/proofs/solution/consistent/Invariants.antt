-- `elimination::solution::consistent` meets its contract. The invariant: no row passed is a zero row with a right-hand side other than 0.
-- Assumes nothing.
use mathlib.Core.Path.{◌≡◌}
use Prim.Native.Nat.{ℕ, ◌+◌, ◌*◌, ◌<◌}
use lib.ListN.{get_or}
use Rattle.elimination.specs.Reduced.{pivot_word}
use Rattle.elimination.proofs.solution.consistent.Given as goal

abbrev pub invariant-loop-j : goal.invariant-loop-j
invariant-loop-j l = (t i : ℕ) → t < l.j → i < l.s.width → pivot_word l.rows l.s.words t ≡ 0 → get_or l.rhs (t * l.s.width + i) 0 ≡ 0
