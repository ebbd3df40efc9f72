-- `symbol_sums::chunk::or_16` meets its contract: after i turns, i elements stand in the array.
-- Assumes nothing.
use mathlib.Core.Path.{refl}
use native.Mathlib.Omega.{arith}
use Rattle.algebra.proofs.Fronts.{filled_none, filled_more, filled_all}
use Rattle.symbol_sums.proofs.chunk.or_16.Goals as goal

pub loop-i-init : goal.loop-i-init
loop-i-init c = filled_none refl

pub bounds-t-i : goal.bounds-t-i
bounds-t-i c = omega (arith, c.requires.0)

pub bounds-u-i : goal.bounds-u-i
bounds-u-i c = omega (arith, c.requires.1)

pub bounds-r-i : goal.bounds-r-i
bounds-r-i c = omega (arith, c.loop-i.invariant.size)

pub loop-i-preserved : goal.loop-i-preserved
loop-i-preserved c = filled_more c.loop-i.invariant (omega arith) refl

pub returns : goal.returns
returns c = record { size = c.loop-i.invariant.size; each = filled_all c.loop-i.invariant (omega arith) }
