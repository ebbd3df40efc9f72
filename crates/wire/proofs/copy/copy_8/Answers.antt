-- `wire::copy::copy_8` meets its contract: what is read is put, one part after the other.
-- Assumes nothing.
use Rattle.wire.proofs.AppendedLaws.{then_part}
use Rattle.wire.proofs.copy.copy_8.Goals as goal

pub returns : goal.returns
returns c =
    let a = c.args in
    then_part 4 4 a.from a.s.now c.put_four-next.ensures c.read_four-x.ensures c.put_four.ensures c.read_four-y.ensures
