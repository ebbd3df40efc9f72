-- `encoder::positions::CheckRows::entries` meets its contract: after e turns, those of the first e places that have an entry hold its position.
-- Assumes nothing.
use Rattle.std.proofs.Common.{arith}
use Rattle.encoder.proofs.CheckRow.{class-lt, narrow, few, entries-more, position, all_entries}
use Rattle.encoder.proofs.positions.CheckRows.entries.Goals as goal

pub overflow_cast-q : goal.overflow_cast-q
overflow_cast-q c = omega (arith, narrow c.args.self.now.laid c.requires.r_bound.0)

pub bounds-table-r-in-loop-e : goal.bounds-table-r-in-loop-e
bounds-table-r-in-loop-e c = let r = c.requires.r_bound.0 in omega (arith, class-lt c.args.self.now.laid r, few c.args.self.now.laid r c.from-n.ensures)

pub bounds-table-r-in-loop-e-2 : goal.bounds-table-r-in-loop-e-2
bounds-table-r-in-loop-e-2 c = let r = c.requires.r_bound.0 in omega (arith, class-lt c.args.self.now.laid r, few c.args.self.now.laid r c.from-n.ensures)

pub overflow_cast-i : goal.overflow_cast-i
overflow_cast-i c = omega (arith, narrow c.args.self.now.laid c.requires.r_bound.0, c.args.self.now.laid.shaped.given.q, c.requires.r_bound.1)

pub bounds-xs-e : goal.bounds-xs-e
bounds-xs-e c = omega (arith, few c.args.self.now.laid c.requires.r_bound.0 c.from-n.ensures, c.loop-e.invariant.size)

pub loop-e-preserved : goal.loop-e-preserved
loop-e-preserved c =
    let T = c.args.self.now.laid in
    let b = c.requires.r_bound in
    let n = c.from-n.ensures in
    entries-more c.loop-e.invariant (omega (arith, few T b.0 n)) (λ h. position T b.0 n b.1 _ h c.further.ensures)

pub returns : goal.returns
returns c = all_entries c.args.self.now.laid c.requires.r_bound.0 c.from-n.ensures _ c.loop-e.invariant (omega arith)
