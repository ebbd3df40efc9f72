-- `decoder::solve::by_pivots` meets its contract.
-- Assumes nothing.
use mathlib.Core.Path.{◌∙◌}
use native.Mathlib.Omega.{arith}
use Rattle.encoder.specs.inner.Positions.{checks}
use Rattle.peeling.proofs.CodeSizes.{layout-rows}
use Rattle.peeling.proofs.StepLaws.{few-steps}
use Rattle.decoder.specs.Equations.{Solvable}
use Rattle.decoder.proofs.Assembly.{Ready, ready, room_at, rows-room, by-rows_no}
use Rattle.decoder.proofs.solve.by_pivots.Goals as goal
use Rattle.decoder.proofs.solve.by_pivots.Goals.{After-new-r, After-reduce}

at-rows : (c : After-new-r) → Ready c.args.block.now.shape c.args.symbols.now c.args.states.now c.args.plan.now c.args.symbols.now c.new-r.result
at-rows c = ready c.args.block.now.laid c.requires.peeled c.new-r.result c.new-r.ensures.numbers c.new-r.ensures.rest c.new-r.ensures.packed

solvable : (c : After-reduce) → Ready c.args.block.now.shape c.args.symbols.now c.args.states.now c.args.plan.now c.args.symbols.now c.new-r.result
    → Solvable (checks c.args.block.now.shape) c.args.block.now.shape.w c.args.states.now c.args.plan.now c.args.symbols.now c.new-r.result c.reduce.new.words c.reduce.new.bytes
solvable c R =
    record {
      peeled = R.peeled;
      equations = c.reduce.ensures;
      room = room_at (c.reduce.auto.words ∙ c.requires.words_len.0) R.room;
      sides = c.reduce.auto.bytes ∙ c.requires.words_len.1;
      some = c.requires.w_nonzero.0;
    }

pub new-r-requires : goal.new-r-requires
new-r-requires c =
    let m = c.requires.peeled.made in
    let l = layout-rows c.args.block.now.laid in
    (omega (arith, (few-steps m).0), omega (arith, m.rows), omega (arith, m.pivots_few, m.positions))

pub invariant_of-system : goal.invariant_of-system
invariant_of-system c = record { all = c.new-r.ensures.rest ∙ layout-rows c.args.block.now.laid }

pub reduce-requires-clause-room : goal.reduce-requires-clause-room
reduce-requires-clause-room c = room_at c.requires.words_len.0 (at-rows (goal.at.reduce-requires-clause-room c).After-new-r).room

pub consistent_behind-consistent-requires-clause-rows_room : goal.consistent_behind-consistent-requires-clause-rows_room
consistent_behind-consistent-requires-clause-rows_room c =
    let R = at-rows (goal.at.consistent_behind-consistent-requires-clause-rows_room c).After-new-r in
    let G = solvable (goal.at.consistent_behind-consistent-requires-clause-rows_room c).After-reduce R in
    rows-room R.all G.room G.sides

pub fill-requires-clause-solvable : goal.fill-requires-clause-solvable
fill-requires-clause-solvable c = solvable (goal.at.fill-requires-clause-solvable c).After-reduce (at-rows (goal.at.fill-requires-clause-solvable c).After-new-r)

pub returns : goal.returns
returns c =
    by-rows_no (solvable (goal.at.returns c).After-reduce (at-rows (goal.at.returns c).After-new-r)) c.requires.w_nonzero.1 _ c.consistent_behind-consistent.ensures c.if-consistent.false _ _ c.clear_missing.ensures c.clear_missing.auto.symbols c.clear_missing.auto.states
