-- `wire::copy::copy_1` meets its contract: a store is one byte put.
-- Assumes nothing.
use mathlib.Core.Path.{refl}
use native.Mathlib.Omega.{arith}
use Rattle.wire.proofs.AppendedLaws.{append_one, part-one}
use Rattle.wire.proofs.copy.copy_1.Goals as goal

pub returns : goal.returns
returns c =
    let a = c.args in
    rw (← part-one a.s.now a.from c.requires.1) (append_one _ _ _ _ refl (omega arith))
