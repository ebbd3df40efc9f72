-- `wire::sdnv::number_at` meets its contract: what is still to be read says the same as the whole.
-- Assumes nothing.
use mathlib.Core.Logic.{◌⊎◌}
use mathlib.Core.Path.{◌≡◌}
use Prim.Native.Nat.{◌+◌, ◌-◌, ◌*◌, ◌^◌, ◌≤◌, ◌<◌}
use lib.ListN.{length}
use Rattle.wire.specs.Sdnv.{sdnv_from}
use Rattle.wire.proofs.sdnv.number_at.Given as goal

abbrev pub invariant-loop-i : goal.invariant-loop-i
invariant-loop-i l = (l.i ≡ 0 ⊎ (l.at + l.i ≤ length l.s)) × (l.value < 2 ^ (7 * l.i)) × (sdnv_from (5 - l.i) l.value l.s (l.at + l.i) ≡ sdnv_from 5 0 l.s l.at)
