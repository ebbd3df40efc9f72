-- `peeling::peel::peel_open` meets its contract: each turn goes on from where the last one came to.
-- Assumes nothing.
use Rattle.std.proofs.Common.{None, ◌≤◌, length, arith}
use mathlib.Core.Path.{subst⁻¹}
use Rattle.encoder.specs.inner.Positions.{checks}
use Rattle.peeling.specs.Peel.{State}
use Rattle.peeling.proofs.CodeSizes.{few-positions, few-rows}
use Rattle.peeling.proofs.PeelLaws.{state-start}
use Rattle.peeling.proofs.peel.peel_open.Goals as goal
use Rattle.peeling.proofs.peel.peel_open.Goals.{Start}

few : (s : Start) → length s.args.states.now ≤ 3072
few s = omega (arith, few-positions s.args.rows.now.shape, s.requires.states_len.0)

start : (s : Start)
    → let a = s.args in
    State (checks a.rows.now.shape) a.rows.now.shape.w a.symbols.now a.states.now a.plan.now a.symbols.now (record { steps = 0; pivots = 0; early = 0; cursor = 0; fuel = 32768; last = None })
start s = state-start _ s.args.rows.now.shape.w _ _ _ _ 32768 None (few-positions s.args.rows.now.shape) (few-rows s.args.rows.now.laid) s.requires.states_len.1 s.requires.states_len.0 s.requires.opened

pub open-requires : goal.open-requires
open-requires c = few (goal.at.open-requires c).Start

pub loop-g-init : goal.loop-g-init
loop-g-init c = subst⁻¹ (State (checks c.args.rows.now.shape) c.args.rows.now.shape.w c.args.symbols.now c.args.states.now c.args.plan.now c.args.symbols.now) c.beginning-g.ensures (start (goal.at.loop-g-init c).Start)

pub loop-g-preserved : goal.loop-g-preserved
loop-g-preserved c = c.turn-g.ensures.state _ _ c.loop-g.invariant
