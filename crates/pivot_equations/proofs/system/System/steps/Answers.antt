-- `pivot_equations::system::System::steps` meets its contract: the steps up to t are expressed.
-- Assumes nothing.
use mathlib.Core.Path.{refl}
use mathlib.Core.List.{List}
use Prim.Native.Nat.{ℕ, ◌<◌}
use native.Mathlib.Omega.{arith}
use Rattle.encoder.specs.inner.Positions.{checks}
use Rattle.pivot_equations.specs.Express.{Places}
use Rattle.peeling.proofs.CodeSizes.{row_count}
use Rattle.pivot_equations.proofs.Expressed.{from-none, from_more, places_from, reads-rows, reads-step, steps-none, steps-more}
use Rattle.pivot_equations.proofs.system.System.steps.Goals as goal
use Rattle.pivot_equations.proofs.system.System.steps.Goals.{Start}
use Rattle.pivot_equations.proofs.system.System.steps.Invariants.{Expressed}

-- what a step reads
places : (s : Start) {words xs : List ℕ} {t : ℕ} → let a = s.args.self.now in Expressed (checks a.block.now.shape) a.rows a.plan.now s.args.words.now words xs t
    → Places (checks a.block.now.shape) a.plan.now words a.rows.packed a.rows.steps (checks a.block.now.shape).m
places s e = places_from (checks s.args.self.now.block.now.shape) s.args.self.now.plan.now e.behind s.requires.places

pub loop-t-init : goal.loop-t-init
loop-t-init c =
    let p = c.requires.planned in
    record { size = refl; from = omega arith; to = p.made.early_steps; expressed = steps-none p.made p.closed c.args.words.now c.args.self.now.rows.packed; behind = from-none }

pub row-requires-clause-row_bound : goal.row-requires-clause-row_bound
row-requires-clause-row_bound c =
    let s = c.args.self.now in
    (omega arith, omega (arith, (c.requires.planned.made.step c.loop-t.t (omega arith)).row, row_count s.block.now.shape))

pub row-requires-clause-reads_all : goal.row-requires-clause-reads_all
row-requires-clause-reads_all c =
    let p = c.requires.planned in
    reads-rows c.args.self.now.all (reads-step p.made p.closed (places (goal.at.row-requires-clause-reads_all c).Start c.loop-t.invariant) (omega arith))

pub loop-t-preserved : goal.loop-t-preserved
loop-t-preserved c =
    let p = c.requires.planned in
    let l = c.loop-t in
    let i = l.invariant in
    let r = c.row.ensures in
    let h : l.t < c.args.self.now.rows.steps = omega arith in
    record { size = r.xs_len; from = omega (arith, i.from); to = omega arith; expressed = steps-more p.made p.closed (places (goal.at.loop-t-preserved c).Start i) i.from h r.row_is i.expressed; behind = from_more i.behind r.row_is.only h }
