-- `is_zero` of 16 bytes meets its contract.
-- Assumes nothing.
use Rattle.symbol_sums.proofs.ZeroTests.{zero_16}
use Rattle.symbol_sums.proofs.chunk.ArrayU816Chunk.is_zero.Goals as goal

pub returns : goal.returns
returns c = λ f k h. zero_16 h c.all_zero.result c.all_zero.ensures
