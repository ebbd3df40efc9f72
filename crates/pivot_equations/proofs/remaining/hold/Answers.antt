-- `pivot_equations::remaining::hold` meets its contract: those of the first j rows that no step used add up to zero.
-- Assumes nothing.
use mathlib.Core.Path.{ap}
use mathlib.Core.Bool.{not}
use native.Mathlib.Omega.{arith}
use Rattle.encoder.specs.inner.Positions.{checks}
use Rattle.peeling.proofs.CodeSizes.{few-rows, layout-rows}
use Rattle.pivot_equations.proofs.UnusedSums.{is_unused, is_used, pass_row, pass_used, pass_not}
use Rattle.pivot_equations.proofs.remaining.hold.Goals as goal
use Rattle.pivot_equations.proofs.remaining.hold.Goals.{then-not-plan-j+else-not-cancels, else-not-plan-j}

pub bounds-plan-j : goal.bounds-plan-j
bounds-plan-j c = omega (arith, few-rows c.args.block.now.laid, layout-rows c.args.block.now.laid)

pub returns-then-not-cancels : goal.returns-then-not-cancels
returns-then-not-cancels c =
    let b = c.args.block.now in
    let plan = c.args.plan.now in
    pass_not (checks b.shape) b.shape.w plan c.args.symbols.now (omega (arith, layout-rows b.laid)) (is_unused plan _ c.if-not-plan-j.true) c.of_row-n.ensures _ c.cancels.ensures (ap not c.if-not-cancels.true)

pub loop-j-preserved : goal.loop-j-preserved
loop-j-preserved c =
    let b = c.args.block.now in
    let plan = c.args.plan.now in
    let p = c.loop-j.invariant.1 in
    elim c.if-not-plan-j.branch [
      | then-not-plan-j+else-not-cancels w ↦ rw w.xs-is (w.of_row-n.ensures.size, pass_row (checks b.shape) b.shape.w plan c.args.symbols.now p w.of_row-n.ensures _ w.cancels.ensures (ap not w.if-not-cancels.false))
      | else-not-plan-j w ↦ rw w.xs-is (c.loop-j.invariant.0, pass_used (checks b.shape) b.shape.w plan c.args.symbols.now p (is_used plan _ w.if-not-plan-j.false))
    ]

pub returns : goal.returns
returns c = λ x b h. c.loop-j.invariant.1 x b (omega (arith, layout-rows c.args.block.now.laid))
