-- `encoder::positions::ClassTable::enter` meets its contract.
-- Assumes nothing.
use Rattle.std.proofs.Common.{arith}
use Rattle.encoder.proofs.ClassTable.{entered-full, entered-room}
use Rattle.encoder.proofs.positions.ClassTable.enter.Goals as goal

pub returns-then-n-ge-MAX_POSITIONS : goal.returns-then-n-ge-MAX_POSITIONS
returns-then-n-ge-MAX_POSITIONS c = entered-full _ _ _ _ _ _ _ _ _ c.divided-d.ensures.remainder c.divided-d.ensures.quotient c.from-n.ensures (omega arith)

pub returns : goal.returns
returns c = entered-room _ _ _ _ _ _ _ _ _ c.divided-d.ensures.remainder c.divided-d.ensures.quotient c.from-n.ensures (omega arith)
