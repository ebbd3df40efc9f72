-- `symbol_sums::put_sum` meets its contract: chunks of 64 bytes, then of 16, and then the last 16.
-- Assumes nothing.
use mathlib.Core.Path.{◌≡◌}
use Prim.Native.Nat.{◌-◌, ◌+◌}
use native.Mathlib.Omega.{arith}
use lib.ListN.{length}
use Rattle.symbol_sums.proofs.Symbols.{written_none, sum-join, sum_replaced}
use Rattle.symbol_sums.proofs.put_sum.Goals as goal

pub returns-then-w-lt16 : goal.returns-then-w-lt16
returns-then-w-lt16 c =
    let a = c.args in
    sum_replaced a.w a.j a.prev a.src.now a.xs.now (length a.xs.now) (c.put_sum_parts.ensures.written _ written_none) (omega (arith, c.put_sum_parts.ensures.end))

pub returns-then-done-w : goal.returns-then-done-w
returns-then-done-w c =
    let a = c.args in
    let e : a.w - 16 + 16 ≡ a.w = omega arith in
    let done = c.put_sum_parts-done.ensures in
    sum_replaced a.w a.j a.prev a.src.now a.xs.now (length a.xs.now)
    (sum-join _ _ _ _ _ _ c.requires.prev_lt_j.0 (done.written _ (c.put_sum_parts-wide.ensures.written _ written_none)) c.put_sum_part.ensures
    (omega (arith, done.end, c.put_sum_parts-wide.ensures.end)) (omega (arith, e)) (omega (arith, e))) e

pub returns-else-done-w : goal.returns-else-done-w
returns-else-done-w c =
    let a = c.args in
    let done = c.put_sum_parts-done.ensures in
    sum_replaced a.w a.j a.prev a.src.now a.xs.now (length a.xs.now) (done.written _ (c.put_sum_parts-wide.ensures.written _ written_none))
    (omega (arith, done.end, c.put_sum_parts-wide.ensures.end))
