-- `encoder::encode::encode_sized` meets its contract: after i turns, i * a parity symbols are there.
-- Assumes nothing.
use Rattle.std.proofs.Common.{◌≡◌, ◌*◌, length}
use Rattle.symbol_sums.specs.Gather.{max_positions}
use Rattle.ccsds.specs.Tables.{code_of}
use Rattle.encoder.specs.inner.Steps.{Done}
use Rattle.encoder.proofs.encode.encode_sized.Given as goal

abbrev pub invariant-loop-i : goal.invariant-loop-i
invariant-loop-i l = (length l.xs ≡ max_positions) × Done (code_of l.rows.shape.number) l.rows.shape.w l.info (l.i * (code_of l.rows.shape.number).a) l.parity
