-- `encoder::encode::put_rows` meets its contract: after r turns, r of the symbols are there.
-- Assumes nothing.
use Rattle.std.proofs.Common.{◌≡◌, ◌+◌, ◌*◌, length}
use Rattle.symbol_sums.specs.Gather.{max_positions}
use Rattle.ccsds.specs.Tables.{code_of}
use Rattle.encoder.specs.inner.Steps.{Done}
use Rattle.encoder.proofs.encode.put_rows.Given as goal

abbrev pub invariant-loop-r : goal.invariant-loop-r
invariant-loop-r l = (length l.xs ≡ max_positions) × Done (code_of l.rows.shape.number) l.rows.shape.w l.info (l.i * (code_of l.rows.shape.number).a + l.r) l.parity
