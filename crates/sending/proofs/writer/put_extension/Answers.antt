-- `sending::writer::put_extension` meets its contract: the type, the value's length and the value, one after the other.
-- Assumes nothing.
use mathlib.Core.Path.{ap}
use Prim.Native.Nat.{ℕ}
use native.Mathlib.Omega.{arith}
use lib.ListN.{length}
use Rattle.wire.specs.Sdnv.{sdnv_bytes}
use Rattle.ccsds.specs.Units.{extension_of}
use Rattle.wire.proofs.AppendedLaws.{then_appended}
use Rattle.ccsds.proofs.UnitLaws.{extension-length, value-most}
use Rattle.sending.proofs.writer.put_extension.Goals as goal

pub byte-a-requires : goal.byte-a-requires
byte-a-requires c = omega (arith, extension-length c.args.c.w c.args.c.k c.args.c.n, c.requires)

pub sdnv-b-requires : goal.sdnv-b-requires
sdnv-b-requires c =
    let e = ap (λ (v : ℕ). length (sdnv_bytes v)) c.value_bytes.ensures in
    (omega (arith, extension-length c.args.c.w c.args.c.k c.args.c.n, c.requires, c.byte-a.ensures, e), omega (arith, value-most c.args.c.w c.args.c.k c.args.c.n, c.value_bytes.ensures))

pub put_value-requires : goal.put_value-requires
put_value-requires c =
    let e = ap (λ (v : ℕ). length (sdnv_bytes v)) c.value_bytes.ensures in
    omega (arith, extension-length c.args.c.w c.args.c.k c.args.c.n, c.requires, c.byte-a.ensures, c.sdnv-b.ensures, e)

pub returns : goal.returns
unfolding extension_of
returns c =
    then_appended (then_appended c.byte-a.ensures (rw c.value_bytes.ensures at c.sdnv-b.ensures)) c.put_value.ensures
