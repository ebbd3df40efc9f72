-- `pivot_equations::remaining::sums` meets its contract: the sums of the unused of the first j rows are there.
-- Assumes nothing.
use mathlib.Core.Path.{◌≡◌}
use lib.ListN.{length}
use Rattle.encoder.specs.inner.Positions.{checks}
use Rattle.pivot_equations.specs.Unused.{SidesTo}
use Rattle.pivot_equations.proofs.remaining.sums.Given as goal

abbrev pub invariant-loop-j : goal.invariant-loop-j
invariant-loop-j l = (length l.xs ≡ 64) × SidesTo (checks l.block.shape) l.block.shape.w l.plan l.symbols l.bytes l.j l.i
