-- `sending::writer::put_value` meets its contract: four numbers, one after the other.
-- Assumes nothing.
use native.Mathlib.Omega.{arith}
use lib.Dec.{lit<}
use Rattle.ccsds.specs.Units.{value_bytes}
use Rattle.wire.proofs.AppendedLaws.{then_appended}
use Rattle.wire.proofs.SdnvRound.{in_one, two_long}
use Rattle.ccsds.proofs.UnitLaws.{value_compact}
use Rattle.sending.proofs.writer.put_value.Goals as goal

pub sdnv-a-requires : goal.sdnv-a-requires
sdnv-a-requires c = (omega (arith, value_compact _ _ _ c.args.c.compact, c.requires), c.args.c.compact.few-w)

pub sdnv_2-b-requires : goal.sdnv_2-b-requires
sdnv_2-b-requires c = (omega (arith, value_compact _ _ _ c.args.c.compact, c.requires, two_long _ c.args.c.compact.two_k, two_long _ c.args.c.compact.two_n, c.sdnv-a.ensures), c.args.c.compact.two_k.0, c.args.c.compact.two_k.1)

pub sdnv_2-d-requires : goal.sdnv_2-d-requires
sdnv_2-d-requires c = (omega (arith, value_compact _ _ _ c.args.c.compact, c.requires, two_long _ c.args.c.compact.two_k, two_long _ c.args.c.compact.two_n, c.sdnv-a.ensures, c.sdnv_2-b.ensures), c.args.c.compact.two_n.0, c.args.c.compact.two_n.1)

pub byte-requires : goal.byte-requires
byte-requires c = (omega (arith, value_compact _ _ _ c.args.c.compact, c.requires, two_long _ c.args.c.compact.two_k, two_long _ c.args.c.compact.two_n, c.sdnv-a.ensures, c.sdnv_2-b.ensures, c.sdnv_2-d.ensures), omega arith)

pub returns : goal.returns
unfolding value_bytes
returns c = then_appended (then_appended (then_appended c.sdnv-a.ensures c.sdnv_2-b.ensures) c.sdnv_2-d.ensures) (rw (in_one 0 (lit< tt)) c.byte.ensures)
