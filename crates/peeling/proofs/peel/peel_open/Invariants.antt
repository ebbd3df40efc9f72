-- `peeling::peel::peel_open` meets its contract: each turn goes on from where the last one came to.
-- Assumes nothing.
use Rattle.encoder.specs.inner.Positions.{checks}
use Rattle.peeling.specs.Peel.{State, left}
use Rattle.peeling.proofs.peel.peel_open.Given as goal

abbrev pub invariant-loop-g : goal.invariant-loop-g
invariant-loop-g l = State (checks l.rows.shape) l.rows.shape.w l.initial.symbols l.states l.plan l.symbols l.g

abbrev pub decreases-loop-g : goal.decreases-loop-g
decreases-loop-g l = left (checks l.rows.shape).n l.g
