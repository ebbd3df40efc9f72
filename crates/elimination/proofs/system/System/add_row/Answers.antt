-- `elimination::system::System::add_row` meets its contract: two rows are apart, on both sides.
-- Assumes nothing.
use native.Mathlib.Omega.{arith}
use Rattle.elimination.proofs.ColumnLaws.{rows_beside}
use Rattle.elimination.proofs.system.System.add_row.Goals as goal

pub xor_words-requires-clause-apart : goal.xor_words-requires-clause-apart
xor_words-requires-clause-apart c = rows_beside _ _ _ _ c.requires.r_nonzero (omega arith)

pub add_within-requires-clause-apart : goal.add_within-requires-clause-apart
add_within-requires-clause-apart c = rows_beside _ _ _ _ c.requires.r_nonzero (omega arith)
