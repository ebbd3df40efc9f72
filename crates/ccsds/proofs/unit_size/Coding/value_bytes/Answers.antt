-- `ccsds::unit_size::Coding::value_bytes` meets its contract: the lengths of four numbers.
-- Assumes nothing.
use native.Mathlib.Omega.{arith}
use Rattle.wire.proofs.SdnvRound.{most_five}
use Rattle.ccsds.proofs.UnitLaws.{value_compact}
use Rattle.ccsds.proofs.unit_size.Coding.value_bytes.Goals as goal

pub sdnv_bytes-requires : goal.sdnv_bytes-requires
sdnv_bytes-requires c = c.args.self.compact.few-w

pub overflow_add-result : goal.overflow_add-result
overflow_add-result c = omega (arith, most_five c.args.self.w)

pub returns : goal.returns
returns c = omega (arith, value_compact _ _ _ c.args.self.compact)
