-- `buffers::add_within_16` meets its contract: the sums are put where they belong.
-- Assumes nothing.
use Rattle.buffers.proofs.Sums.{put-sums}
use Rattle.buffers.proofs.add_within_16.Goals as goal

pub returns : goal.returns
returns c = put-sums c.sum_16-t.ensures c.put_16.ensures
