-- `peeling::peel::try_row` meets its contract: the row is passed over, or its only open position is settled.
-- Assumes nothing.
use Rattle.std.proofs.Common.{false, ◌<◌, arith}
use Rattle.encoder.specs.inner.Positions.{checks}
use Rattle.peeling.specs.Peel.{OnlyOpen}
use Rattle.peeling.proofs.CodeSizes.{row_count}
use Rattle.peeling.proofs.OpenLaws.{only_taken}
use Rattle.peeling.proofs.PlanLaws.{used_as}
use Rattle.peeling.proofs.PeelLaws.{state_late, settle_ready, state_settled}
use Rattle.peeling.proofs.peel.try_row.Goals as goal
use Rattle.peeling.proofs.peel.try_row.Goals.{Start, In-Some}

row_lt : (s : Start) → s.args.r < (checks s.args.rows.now.shape).m
row_lt s = omega (arith, s.requires.r_bound.0, row_count s.args.rows.now.shape)

-- the row has one open position
module _ (o : In-Some) where
  only : OnlyOpen o.args.plan.now o.of_row-n.new.xs o.of_row-n.result o.in-Some.i
  only = only_taken (omega (arith, o.of_row-n.ensures.few, o.of_row-n.ensures.size)) o.in-Some.ensures

pub bounds-plan-r : goal.bounds-plan-r
bounds-plan-r c =
    let m = c.requires.reached.state.made in
    omega (arith, row_lt (goal.at.bounds-plan-r c).Start, m.rows)

pub returns-then-plan-r : goal.returns-then-plan-r
returns-then-plan-r c = record { state = λ block states S. state_late S _ _; less = omega (arith, c.requires.r_bound.1); last = tt }

pub settle-requires : goal.settle-requires
settle-requires c =
    let p = goal.at.settle-requires c in
    let q = settle_ready c.requires.reached.state c.of_row-n.ensures (row_lt p.Start) (only p.In-Some) (used_as c.args.plan.now c.args.r false c.if-plan-r.false) _ c.from-p.ensures in
    record { t_lt_max_m = q.0; w_in_bounds = q.1.0; by_index = q.1.1 }

pub early_steps-requires : goal.early_steps-requires
early_steps-requires c =
    let p = goal.at.early_steps-requires c in
    (settle_ready c.requires.reached.state c.of_row-n.ensures (row_lt p.Start) (only p.In-Some) (used_as c.args.plan.now c.args.r false c.if-plan-r.false) _ c.from-p.ensures).0.0

pub returns : goal.returns
returns c =
    let p = goal.at.returns c in
    record {
      state = λ block states S. state_settled S c.of_row-n.ensures (row_lt p.Start) (only p.In-Some) (used_as c.args.plan.now c.args.r false c.if-plan-r.false) _ c.from-p.ensures _ _ _ c.settle.ensures.made c.settle.ensures.replaced
          c.early_steps.ensures;
      less = omega (arith, c.requires.r_bound.1);
      last = omega (arith, c.of_row-n.ensures.below _ (only p.In-Some).below, c.from-p.ensures);
    }
