-- `put` of 64 bytes meets its contract.
-- Assumes nothing.
use Rattle.symbol_sums.proofs.Symbols.{put64_at}
use Rattle.symbol_sums.proofs.chunk.Chunk64Chunk.put.Goals as goal

pub returns : goal.returns
returns c = λ f o k e h. put64_at h e c.requires.within c.put_16.ensures c.put_16-2.ensures c.put_16-3.ensures c.put_16-4.ensures
