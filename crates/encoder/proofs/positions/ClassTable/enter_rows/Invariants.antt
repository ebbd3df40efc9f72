-- `encoder::positions::ClassTable::enter_rows` meets its contract: the addresses of `row` table rows are entered.
-- Assumes nothing.
use Rattle.std.proofs.Common.{◌≡◌}
use Rattle.ccsds.specs.Tables.{code_of}
use Rattle.encoder.specs.inner.Positions.{table_entered}
use Rattle.encoder.proofs.positions.ClassTable.enter_rows.Given as goal

abbrev pub invariant-loop-row : goal.invariant-loop-row
invariant-loop-row l = l.self ≡ table_entered (code_of l.s.number) l.row l.initial.self
