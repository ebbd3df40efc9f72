-- `pivot_equations::remaining::sums` meets its contract: the sums of the unused of the first j rows are there.
-- Assumes nothing.
use mathlib.Core.Path.{refl, ◌≡◌}
use native.Mathlib.Omega.{arith}
use Rattle.encoder.specs.inner.Positions.{checks}
use Rattle.peeling.proofs.CodeSizes.{few-rows, layout-rows}
use Rattle.peeling.proofs.UnusedRows.{unused_le}
use Rattle.pivot_equations.proofs.UnusedSums.{is_unused, is_used, sides-none, sides-used, sides-room, sides-put, sides_all}
use Rattle.pivot_equations.proofs.remaining.sums.Goals as goal
use Rattle.pivot_equations.proofs.remaining.sums.Goals.{then-not-plan-j, else-not-plan-j}

pub loop-j-init : goal.loop-j-init
loop-j-init c = (refl, sides-none _ _ _ _ _ c.requires.bytes_len)

pub bounds-plan-j : goal.bounds-plan-j
bounds-plan-j c = omega (arith, few-rows c.args.block.now.laid, layout-rows c.args.block.now.laid)

pub put_sum-requires-clause-prev_lt_j : goal.put_sum-requires-clause-prev_lt_j
put_sum-requires-clause-prev_lt_j c = (tt, sides-room _ _ _ _ c.loop-j.invariant.1 (omega (arith, layout-rows c.args.block.now.laid)))

pub overflow_add-i : goal.overflow_add-i
overflow_add-i c = omega (arith, few-rows c.args.block.now.laid, layout-rows c.args.block.now.laid, c.loop-j.invariant.1.count, unused_le c.args.plan.now c.loop-j.j)

pub loop-j-preserved : goal.loop-j-preserved
loop-j-preserved c =
    let plan = c.args.plan.now in
    let p = c.loop-j.invariant.1 in
    elim c.if-not-plan-j.branch [
      | then-not-plan-j w ↦ rw (w.bytes-is, w.xs-is, w.i-is) (w.of_row-n.ensures.size, sides-put _ _ _ _ p (is_unused plan _ w.if-not-plan-j.true) w.of_row-n.ensures w.put_sum.ensures)
      | else-not-plan-j w ↦ rw (w.bytes-is, w.xs-is, w.i-is) (c.loop-j.invariant.0, sides-used _ _ _ _ p (is_used plan _ w.if-not-plan-j.false))
    ]

pub returns : goal.returns
returns c =
    let e : c.loop-j.j ≡ (checks c.args.block.now.shape).m = omega (arith, layout-rows c.args.block.now.laid) in
    sides_all _ _ _ _ c.loop-j.invariant.1 e
