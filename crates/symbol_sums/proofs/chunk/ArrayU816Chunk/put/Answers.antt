-- `put` of 16 bytes meets its contract.
-- Assumes nothing.
use Rattle.symbol_sums.proofs.Symbols.{put16_at}
use Rattle.symbol_sums.proofs.chunk.ArrayU816Chunk.put.Goals as goal

pub returns : goal.returns
returns c = λ f o k e h. put16_at h e c.requires.within c.put_16.ensures
