-- `wire::copy::copy_16` meets its contract: what is read is put, one part after the other.
-- Assumes nothing.
use mathlib.Core.Path.{refl}
use Rattle.wire.proofs.AppendedLaws.{then_part}
use Rattle.wire.proofs.copy.copy_16.Goals as goal

pub returns : goal.returns
returns c =
    let a = c.args in
    let p = then_part 4 4 a.from a.s.now c.put_four-b.ensures c.read_four-x.ensures c.put_four-c.ensures c.read_four-y.ensures in
    let q = then_part 8 4 a.from a.s.now p refl c.put_four-d.ensures c.read_four-z.ensures in
    then_part 12 4 a.from a.s.now q refl c.put_four.ensures c.read_four-t.ensures
