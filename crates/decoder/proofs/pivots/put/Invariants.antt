-- `decoder::pivots::put` meets its contract. The invariant: the first i rows were asked.
-- Assumes nothing.
use Prim.Native.Nat.{◌≤◌}
use Rattle.encoder.specs.inner.Positions.{checks}
use Rattle.decoder.specs.Pivots.{Put}
use Rattle.decoder.proofs.pivots.put.Given as goal

abbrev pub invariant-loop-i : goal.invariant-loop-i
invariant-loop-i l = (l.i ≤ l.fn.r.rest) × Put (checks l.block.shape) l.block.shape.w l.r.packed l.r.steps l.i l.r.pivots l.words l.bytes l.initial.plan l.initial.symbols l.plan l.symbols
