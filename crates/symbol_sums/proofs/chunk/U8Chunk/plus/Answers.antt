-- `plus` of a byte meets its contract.
-- Assumes nothing.
use Rattle.symbol_sums.proofs.Symbols.{byte_plus}
use Rattle.symbol_sums.proofs.chunk.U8Chunk.plus.Goals as goal

pub returns : goal.returns
returns c = λ f g k h p. byte_plus h p
