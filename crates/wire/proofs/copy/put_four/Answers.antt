-- `wire::copy::put_four` meets its contract: four stores, one after the other.
-- Assumes nothing.
use mathlib.Core.Path.{refl}
use Prim.Native.Nat.{◌+◌}
use native.Mathlib.Omega.{arith}
use lib.ListN.{length-set}
use Rattle.wire.proofs.AppendedLaws.{then_appended, append_one}
use Rattle.wire.proofs.copy.put_four.Goals as goal

pub returns : goal.returns
returns c =
    let a = c.args in
    let one = append_one a.out.now a.at (a.at + 1) a.x.a refl (omega arith) in
    let two = then_appended one (append_one _ (a.at + 1) (a.at + 2) a.x.b (omega arith) (simp length-set (omega arith))) in
    let three = then_appended two (append_one _ (a.at + 2) (a.at + 3) a.x.c (omega arith) (simp length-set (omega arith))) in
    then_appended three (append_one _ (a.at + 3) (a.at + 4) a.x.d (omega arith) (simp length-set (omega arith)))
