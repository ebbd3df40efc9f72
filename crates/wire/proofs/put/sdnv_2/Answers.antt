-- `wire::put::sdnv_2` meets its contract: the high group, then the low one.
-- Assumes nothing.
use Rattle.wire.proofs.AppendedLaws.{then_appended}
use Rattle.wire.proofs.SdnvRound.{in_two}
use Rattle.wire.proofs.put.sdnv_2.Goals as goal

pub returns : goal.returns
returns c = rw (in_two c.args.v c.requires.1 c.requires.2) (then_appended c.byte-next.ensures c.byte.ensures)
