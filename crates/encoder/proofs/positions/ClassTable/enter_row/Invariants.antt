-- `encoder::positions::ClassTable::enter_row` meets its contract: i addresses are entered.
-- Assumes nothing.
use Rattle.std.proofs.Common.{◌≡◌}
use Rattle.ccsds.specs.Tables.{code_of}
use Rattle.encoder.specs.inner.Positions.{row_entered}
use Rattle.encoder.proofs.positions.ClassTable.enter_row.Given as goal

abbrev pub invariant-loop-i : goal.invariant-loop-i
invariant-loop-i l = l.self ≡ row_entered (code_of l.fn.s.number) l.row l.i l.initial.self
