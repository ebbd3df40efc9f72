-- `symbol_sums::cancels` meets its contract: chunks of 64 bytes, then of 16, and then the last 16.
-- Assumes nothing.
use mathlib.Core.Path.{sym, ap, subst}
use mathlib.Core.Bool.{true, false, not}
use Prim.Native.Nat.{◌+◌, ◌-◌, ◌%◌}
use native.Mathlib.Omega.{arith}
use lib.ListN.{length}
use borrow.Author.Tests.{eq-eqb}
use Rattle.symbol_sums.specs.Gather.{summed, CancelIs}
use Rattle.symbol_sums.proofs.ZeroTests.{zero-not, zero-last, zero_two, zero_to, cancel_is}
use Rattle.symbol_sums.proofs.cancels.Goals as goal

pub returns-then-w-lt16 : goal.returns-then-w-lt16
returns-then-w-lt16 c =
    let a = c.args in
    let f = summed (λ b. 0) a.w a.src.now a.xs.now (length a.xs.now) in
    cancel_is a.w a.src.now a.xs.now (length a.xs.now) c.cancels_parts.result (zero_to f 0 c.cancels_parts.result (omega arith) c.cancels_parts.ensures)

pub returns-then-not-cancels_parts : goal.returns-then-not-cancels_parts
returns-then-not-cancels_parts c =
    let a = c.args in
    let f = summed (λ b. 0) a.w a.src.now a.xs.now (length a.xs.now) in
    let p = c.cancels_parts-2 in
    cancel_is a.w a.src.now a.xs.now (length a.xs.now) false (zero-not f 0 0 _ a.w p.result p.ensures (ap not c.if-not-cancels_parts.true) (omega arith))

pub returns-then-not-cancels_parts-2 : goal.returns-then-not-cancels_parts-2
returns-then-not-cancels_parts-2 c =
    let a = c.args in
    let f = summed (λ b. 0) a.w a.src.now a.xs.now (length a.xs.now) in
    let p = c.cancels_parts-3 in
    cancel_is a.w a.src.now a.xs.now (length a.xs.now) false
    (zero-not f 0 _ _ a.w p.result p.ensures (ap not c.if-not-cancels_parts-2.true) (omega arith))

pub returns-then-w-eq0 : goal.returns-then-w-eq0
returns-then-w-eq0 c =
    let a = c.args in
    let n = length a.xs.now in
    let f = summed (λ b. 0) a.w a.src.now a.xs.now n in
    let p = c.cancels_parts-2 in
    let q = c.cancels_parts-3 in
    let all = zero_two f _ _ _ p.result q.result p.ensures (ap not c.if-not-cancels_parts.false) (omega arith) q.ensures (ap not c.if-not-cancels_parts-2.false) in
    subst (CancelIs a.w a.src.now a.xs.now n) (sym (eq-eqb (a.w % 16) 0 c.if-w-eq0.true))
    (cancel_is a.w a.src.now a.xs.now n true (λ b l₁ l₂. all b (omega (arith, l₂, c.if-w-eq0.true))))

pub returns-else-w-eq0 : goal.returns-else-w-eq0
returns-else-w-eq0 c =
    let a = c.args in
    let n = length a.xs.now in
    let f = summed (λ b. 0) a.w a.src.now a.xs.now n in
    let p = c.cancels_parts-2 in
    let q = c.cancels_parts-3 in
    let all = zero_two f _ _ _ p.result q.result p.ensures (ap not c.if-not-cancels_parts.false) (omega arith) q.ensures (ap not c.if-not-cancels_parts-2.false) in
    cancel_is a.w a.src.now a.xs.now n c.cancels_part.result
    (zero-last f _ (a.w - 16) (a.w - 16 + 16) a.w all (omega arith) (omega arith) c.cancels_part.result c.cancels_part.ensures)
