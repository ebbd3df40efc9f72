-- `peeling::peel::put_off` meets its contract: the cursor passes over closed positions, and the open one after them is put off.
-- Assumes nothing.
use Rattle.std.proofs.Common.{ℕ, ◌+◌, ◌<◌, None, List, arith}
use Rattle.algebra.proofs.Codeword.{slot}
use Rattle.encoder.specs.inner.Positions.{checks}
use Rattle.peeling.specs.Peel.{FirstOpen, State}
use Rattle.peeling.proofs.CodeSizes.{symbols_of}
use Rattle.peeling.proofs.PlanLaws.{deferred}
use Rattle.peeling.proofs.PeelLaws.{state_pass, state_defer}
use Rattle.peeling.proofs.peel.put_off.Goals as goal
use Rattle.peeling.proofs.peel.put_off.Goals.{In-Some}

-- the next open position
module _ (o : In-Some) where
  first : FirstOpen o.args.plan.now o.args.g.cursor (o.args.rows.now.shape.layout.k + o.args.rows.now.shape.layout.m) o.in-Some.x
  first = o.in-Some.ensures

  below : o.in-Some.x < (checks o.args.rows.now.shape).n
  below = omega (arith, symbols_of o.args.rows.now.shape o.args.rows.now.laid.shaped.given, first.below)

  -- the cursor is there
  passed : {block states : List ℕ}
      → let a = o.args in
      let g = a.g in
      State (checks a.rows.now.shape) a.rows.now.shape.w block states a.plan.now a.symbols.now g
      → State (checks a.rows.now.shape) a.rows.now.shape.w block states a.plan.now a.symbols.now
      (record { steps = g.steps; pivots = g.pivots; early = g.early; cursor = o.in-Some.x; fuel = g.fuel; last = None })
  passed S = state_pass S None first.after (omega (arith, below)) first.passed

  few : (o.args.g.pivots < 3072) × (o.in-Some.x < 3072)
  few = let S = passed o.requires.reached.state in (omega (arith, below, S.pivots_below, S.made.positions), omega (arith, below, S.made.positions))

pub next_open-requires : goal.next_open-requires
next_open-requires c =
    let m = c.requires.reached.state.made in
    (omega (arith, symbols_of c.args.rows.now.shape c.args.rows.now.laid.shaped.given, c.requires.cursor_bound), omega (arith, symbols_of c.args.rows.now.shape c.args.rows.now.laid.shaped.given, m.positions))

pub returns-in_default : goal.returns-in_default
returns-in_default c =
    let e = symbols_of c.args.rows.now.shape c.args.rows.now.laid.shaped.given in
    record { state = λ block states S. state_pass S None (omega (arith, e, c.requires.cursor_bound)) (omega (arith, e)) c.in_default.ensures; less = omega (arith, e, c.requires.cursor_bound); last = tt }

pub defer-requires : goal.defer-requires
defer-requires c =
    let o = (goal.at.defer-requires c).In-Some in
    record { s_lt_max_n = few o; w_in_bounds = omega (arith, slot _ _ c.args.rows.now.shape.w (below o), c.requires.reached.state.values.size) }

pub returns : goal.returns
returns c =
    let o = (goal.at.returns c).In-Some in
    let f = few o in
    record {
      state = λ block states S. state_defer (passed o S) (below o) (first o).found (deferred f.0 f.1 c.defer.ensures.made) c.defer.ensures.replaced _;
      less = omega (arith, below o, (first o).after);
      last = below o;
    }
