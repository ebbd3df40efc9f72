-- `buffers::part_16` meets its contract: after i turns, i bytes stand in the array.
-- Assumes nothing.
use mathlib.Core.Path.{refl}
use native.Mathlib.Omega.{arith}
use Rattle.algebra.proofs.Fronts.{filled_none, filled_more, filled_all}
use Rattle.buffers.proofs.part_16.Goals as goal

pub loop-i-init : goal.loop-i-init
loop-i-init c = filled_none refl

pub loop-i-preserved : goal.loop-i-preserved
loop-i-preserved c = filled_more c.loop-i.invariant (omega arith) refl

pub returns : goal.returns
returns c = record { size = c.loop-i.invariant.size; each = filled_all c.loop-i.invariant (omega arith) }
