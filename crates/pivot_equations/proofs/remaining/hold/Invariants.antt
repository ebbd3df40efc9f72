-- `pivot_equations::remaining::hold` meets its contract: the first j rows pass.
-- Assumes nothing.
use mathlib.Core.Path.{◌≡◌}
use lib.ListN.{length}
use Rattle.encoder.specs.inner.Positions.{checks}
use Rattle.pivot_equations.proofs.UnusedSums.{Passed}
use Rattle.pivot_equations.proofs.remaining.hold.Given as goal

abbrev pub invariant-loop-j : goal.invariant-loop-j
invariant-loop-j l = (length l.xs ≡ 64) × Passed (checks l.block.shape) l.block.shape.w l.plan l.symbols l.j
