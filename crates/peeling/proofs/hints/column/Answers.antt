-- `peeling::hints::column` meets its contract.
-- Assumes nothing.
use Rattle.std.proofs.Common.{arith}
use Rattle.peeling.proofs.HintLaws.{row_small}
use Rattle.peeling.proofs.hints.column.Goals as goal

pub shifted_row-requires : goal.shifted_row-requires
shifted_row-requires c = row_small c.args.rows.now _ (omega arith)
