-- `plus` of 64 bytes meets its contract.
-- Assumes nothing.
use Rattle.symbol_sums.proofs.Symbols.{chunk64_plus}
use Rattle.symbol_sums.proofs.chunk.Chunk64Chunk.plus.Goals as goal

pub returns : goal.returns
returns c = λ f g k h p. chunk64_plus h p c.sum_16.ensures c.sum_16-2.ensures c.sum_16-3.ensures c.sum_16-4.ensures
