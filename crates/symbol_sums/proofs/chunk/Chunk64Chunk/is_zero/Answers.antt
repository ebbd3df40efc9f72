-- `is_zero` of 64 bytes meets its contract.
-- Assumes nothing.
use Rattle.symbol_sums.proofs.ZeroTests.{zero_64}
use Rattle.symbol_sums.proofs.chunk.Chunk64Chunk.is_zero.Goals as goal

pub returns : goal.returns
returns c = λ f k h. zero_64 h c.or_16-x.ensures c.or_16-y.ensures c.or_16.ensures c.all_zero.result c.all_zero.ensures
