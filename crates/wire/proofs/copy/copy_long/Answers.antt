-- `wire::copy::copy_long` meets its contract.
-- Assumes nothing.
use mathlib.Core.Path.{◌≡◌}
use Prim.Native.Nat.{◌+◌, ◌*◌}
use native.Mathlib.Omega.{arith}
use Rattle.wire.proofs.AppendedLaws.{appended_since, appended_over, copied_first, copied_less, copied_on, copied_all}
use Rattle.wire.proofs.copy.copy_long.Goals as goal

pub loop-k-init : goal.loop-k-init
loop-k-init c =
    let a = c.args in
    let first = copied_first 16 a.s.now c.copy_16.ensures (omega arith) in
    (omega arith, copied_less _ a.s.now (appended_since first (omega arith)) (omega arith) (omega arith) (omega (arith, c.copy_16.ensures)))

pub loop-k-preserved : goal.loop-k-preserved
loop-k-preserved c =
    let a = c.args in
    let start = c.second_part-start.result in
    let next : start + 64 * (c.loop-k.k + 1) ≡ start + 64 * c.loop-k.k + 64 = omega arith in
    rw next (omega arith, copied_on 64 a.s.now c.loop-k.invariant.1 c.copy_64.ensures (omega arith) (omega arith) (omega (arith, c.copy_16.ensures)))

pub returns : goal.returns
returns c =
    let a = c.args in
    appended_over c.copy_16.ensures (omega arith) (copied_all 64 a.s.now c.loop-k.invariant.1 c.copy_64-2.ensures (omega arith) (omega arith) (omega (arith, c.copy_16.ensures)))
