-- `buffers::add_within` meets its contract: chunks of 64 bytes, then of 16, then single bytes.
-- Assumes nothing.
use Rattle.std.proofs.Common.{refl}
use Rattle.buffers.specs.Parts.{added}
use Rattle.buffers.proofs.add_within.Goals as goal

pub returns : goal.returns
unfolding added
returns c = c.add_bytes.ensures _ (c.add_chunks-done.ensures.1 _ (c.add_chunks-wide.ensures.1 _ refl))
