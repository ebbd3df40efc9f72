-- `pivot_equations::system::System::remaining` meets its contract: the unused check rows before j are expressed.
-- Assumes nothing.
use mathlib.Core.Path.{refl, ◌≡◌}
use Prim.Native.Nat.{◌<◌}
use native.Mathlib.Omega.{arith}
use lib.ListN.{get_or}
use mathlib.Core.Bool.{false}
use Rattle.encoder.specs.inner.Positions.{checks}
use Rattle.peeling.specs.Plan.{unused_below}
use Rattle.pivot_equations.specs.Express.{Places}
use Rattle.peeling.proofs.CodeSizes.{row_count, layout-rows}
use Rattle.peeling.proofs.UnusedRows.{unused-none, unused-one}
use Rattle.pivot_equations.proofs.UnusedSums.{is_unused, is_used}
use Rattle.pivot_equations.proofs.Expressed.{below_none, below_more, below-only, places_any, reads-rows, reads-rest, rest_below, rest_more, rest_skip}
use Rattle.pivot_equations.proofs.system.System.remaining.Goals as goal
use Rattle.pivot_equations.proofs.system.System.remaining.Goals.{In-loop-j, then-not-self-j, else-not-self-j}

-- pivots have their places still
places : (c : In-loop-j) → Places (checks c.args.self.now.block.now.shape) c.args.self.now.plan.now c.loop-j.words c.args.self.now.rows.packed c.args.self.now.rows.steps (checks c.args.self.now.block.now.shape).m
places c =
    let p = c.requires.planned in
    let s = c.args.self.now in
    places_any p.made p.closed c.requires.unsolved c.args.words.now c.loop-j.words s.rows.packed (checks s.block.now.shape).m c.requires.places

-- row t is one of the check rows' if no step used check row j
below : (c : In-loop-j) → c.loop-j.j < c.args.self.now.block.now.shape.layout.m → get_or c.args.self.now.plan.now.used c.loop-j.j false ≡ false → c.loop-j.t < (checks c.args.self.now.block.now.shape).m
below c h e =
    let p = c.requires.planned in
    let s = c.args.self.now in
    omega (arith, c.loop-j.invariant.next, rest_below p.made p.closed c.requires.unsolved c.loop-j.j (omega (arith, layout-rows s.block.now.laid)) (is_unused s.plan.now c.loop-j.j e))

pub loop-j-init : goal.loop-j-init
unfolding unused_below
loop-j-init c = record { size = refl; next = omega arith; expressed = λ j i h. absurd (omega arith); steps = below_none }

pub bounds-self-j : goal.bounds-self-j
bounds-self-j c = omega (arith, c.requires.planned.made.rows, layout-rows c.args.self.now.block.now.laid, c.args.self.now.plan.now.used_len)

pub row-requires-clause-row_bound : goal.row-requires-clause-row_bound
row-requires-clause-row_bound c =
    let s = c.args.self.now in
    let b = below (goal.at.row-requires-clause-row_bound c).In-loop-j c.loop-j-test.true c.if-not-self-j.true in
    (omega (arith, b, s.all), omega (arith, layout-rows s.block.now.laid, row_count s.block.now.shape))

pub row-requires-clause-reads_all : goal.row-requires-clause-reads_all
row-requires-clause-reads_all c =
    let p = c.requires.planned in
    reads-rows c.args.self.now.all (reads-rest p.made p.closed c.requires.unsolved (places (goal.at.row-requires-clause-reads_all c).In-loop-j) (omega (arith, c.loop-j.invariant.next)))

pub overflow_add-t : goal.overflow_add-t
overflow_add-t c = omega (arith, below (goal.at.overflow_add-t c).In-loop-j c.loop-j-test.true c.if-not-self-j.true, c.requires.planned.made.rows)

pub loop-j-preserved : goal.loop-j-preserved
loop-j-preserved c =
    let s = c.args.self.now in
    let plan = s.plan.now in
    let r = s.rows in
    let p = c.requires.planned in
    let l = c.loop-j in
    let i = l.invariant in
    elim c.if-not-self-j.branch [
      | then-not-self-j w ↦ rw (w.words-is, w.xs-is, w.t-is) (let u = is_unused plan l.j w.if-not-self-j.true in record {
        size = w.row.ensures.xs_len;
        next = omega (arith, unused-one plan l.j u, i.next);
        expressed = rest_more p.made p.closed c.requires.unsolved (places (goal.at.loop-j-preserved c).In-loop-j) l.j i.next u w.row.ensures.row_is i.expressed;
        steps = below_more i.steps (below-only w.row.ensures.row_is.only (omega (arith, i.next)));
      })
      | else-not-self-j w ↦ rw (w.words-is, w.xs-is, w.t-is) (let u = is_used plan l.j w.if-not-self-j.false in record {
        size = i.size;
        next = omega (arith, unused-none plan l.j u, i.next);
        expressed = rest_skip (checks s.block.now.shape) plan l.words r.packed r.early r.steps l.j u i.expressed;
        steps = i.steps;
      })
    ]

pub returns-clause-rest_expressed : goal.returns-clause-rest_expressed
returns-clause-rest_expressed c =
    let e : c.loop-j.j ≡ (checks c.args.self.now.block.now.shape).m = omega (arith, layout-rows c.args.self.now.block.now.laid) in
    rw e at c.loop-j.invariant.expressed
