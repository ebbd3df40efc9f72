-- `symbol_sums::restore` meets its contract: chunks of 64 bytes, then of 16, and then the last 16.
-- Assumes nothing.
use mathlib.Core.Path.{◌≡◌}
use Prim.Native.Nat.{◌-◌, ◌+◌}
use native.Mathlib.Omega.{arith}
use lib.ListN.{length}
use Rattle.symbol_sums.proofs.Symbols.{written_none, restore_join, restore_replaced}
use Rattle.symbol_sums.proofs.restore.Goals as goal

pub returns-then-w-lt16 : goal.returns-then-w-lt16
returns-then-w-lt16 c =
    let a = c.args in
    restore_replaced a.w a.p a.xs.now (length a.xs.now) (c.restore_parts.ensures.written _ written_none) (omega (arith, c.restore_parts.ensures.end))

pub returns-then-done-w : goal.returns-then-done-w
returns-then-done-w c =
    let a = c.args in
    let e : a.w - 16 + 16 ≡ a.w = omega arith in
    let done = c.restore_parts-done.ensures in
    restore_replaced a.w a.p a.xs.now (length a.xs.now)
    (restore_join _ _ _ _ c.requires.by_index (done.written _ (c.restore_parts-wide.ensures.written _ written_none)) c.restore_part.ensures
    (omega (arith, done.end, c.restore_parts-wide.ensures.end)) (omega (arith, e)) (omega (arith, e))) e

pub returns-else-done-w : goal.returns-else-done-w
returns-else-done-w c =
    let a = c.args in
    let done = c.restore_parts-done.ensures in
    restore_replaced a.w a.p a.xs.now (length a.xs.now) (done.written _ (c.restore_parts-wide.ensures.written _ written_none))
    (omega (arith, done.end, c.restore_parts-wide.ensures.end))
