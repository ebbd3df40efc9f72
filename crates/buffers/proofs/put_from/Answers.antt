-- `buffers::put_from` meets its contract: chunks of 16 bytes, then single bytes.
-- Assumes nothing.
use Rattle.buffers.proofs.put_from.Goals as goal

pub returns : goal.returns
returns c = c.put_bytes.ensures _ c.put_chunks-done.ensures.1
