-- `encoder::positions::CheckRows::entries` meets its contract: after e turns, those of the first e places that have an entry hold its position.
-- Assumes nothing.
use Rattle.std.proofs.Common.{ℕ, ◌+◌, ◌*◌, get_or}
use Rattle.ccsds.specs.Tables.{code_of}
use Rattle.encoder.specs.inner.Positions.{positions}
use Rattle.encoder.proofs.CheckRow.{EntriesTo}
use Rattle.encoder.proofs.positions.CheckRows.entries.Given as goal

abbrev pub invariant-loop-e : goal.invariant-loop-e
invariant-loop-e l = EntriesTo (λ (k : ℕ). get_or (positions (code_of l.self.shape.number) (l.i * (code_of l.self.shape.number).a + l.r)) k 0) l.n l.e l.xs
