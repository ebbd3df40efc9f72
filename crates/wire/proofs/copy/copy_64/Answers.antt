-- `wire::copy::copy_64` meets its contract: one part after the other.
-- Assumes nothing.
use mathlib.Core.Path.{refl}
use native.Mathlib.Omega.{arith}
use Rattle.wire.proofs.AppendedLaws.{part_end, then_part}
use Rattle.wire.proofs.copy.copy_64.Goals as goal

pub copy_16-d-requires : goal.copy_16-d-requires
copy_16-d-requires c =
    let a = c.args in
    let p = then_part 16 16 a.from a.s.now c.copy_16-b.ensures refl c.copy_16-c.ensures refl in
    (omega (arith, p.kept, part_end 32 a.from a.s.now p (omega arith)), omega arith)

pub copy_16-requires : goal.copy_16-requires
copy_16-requires c =
    let a = c.args in
    let p = then_part 16 16 a.from a.s.now c.copy_16-b.ensures refl c.copy_16-c.ensures refl in
    let q = then_part 32 16 a.from a.s.now p refl c.copy_16-d.ensures refl in
    (omega (arith, q.kept, part_end 48 a.from a.s.now q (omega arith)), omega arith)

pub returns : goal.returns
returns c =
    let a = c.args in
    let p = then_part 16 16 a.from a.s.now c.copy_16-b.ensures refl c.copy_16-c.ensures refl in
    let q = then_part 32 16 a.from a.s.now p refl c.copy_16-d.ensures refl in
    then_part 48 16 a.from a.s.now q refl c.copy_16.ensures refl
