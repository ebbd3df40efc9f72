-- `ccsds::unit_size::Coding::unit_length` meets its contract: the parts' lengths add up.
-- Assumes nothing.
use mathlib.Core.Path.{◌≡◌}
use Prim.Native.Nat.{ℕ, ◌+◌, ◌≤◌}
use native.Mathlib.Omega.{arith}
use lib.ListN.{length}
use Rattle.wire.specs.Sdnv.{sdnv_bytes}
use Rattle.wire.proofs.SdnvRound.{most_five}
use Rattle.ccsds.specs.Units.{value_bytes, extension_of}
use Rattle.ccsds.proofs.UnitLaws.{extension-length, value-most}
use Rattle.ccsds.proofs.unit_size.Coding.unit_length.Goals as goal

module _ (w k n : ℕ) {v s : ℕ} (e : v ≡ length (value_bytes w k n)) (h : s ≡ length (sdnv_bytes v)) where
  few : (v ≤ 20) × (s ≤ 5)
  few = (omega (arith, value-most w k n), omega (arith, most_five v))

  sum : 7 + s + v + w ≡ 6 + length (extension_of w k n) + w
  sum = let q = rw e at h in omega (arith, extension-length w k n)

pub sdnv_bytes-requires : goal.sdnv_bytes-requires
sdnv_bytes-requires c = omega (arith, value-most c.args.self.w c.args.self.k c.args.self.n, c.value_bytes-value.ensures)

pub overflow_add-result : goal.overflow_add-result
overflow_add-result c = omega (arith, few _ _ _ c.value_bytes-value.ensures c.sdnv_bytes.ensures)

pub overflow_add-result-2 : goal.overflow_add-result-2
overflow_add-result-2 c = omega (arith, few _ _ _ c.value_bytes-value.ensures c.sdnv_bytes.ensures)

pub overflow_add-result-3 : goal.overflow_add-result-3
overflow_add-result-3 c = omega (arith, few _ _ _ c.value_bytes-value.ensures c.sdnv_bytes.ensures, c.args.self.compact.few-w)

pub returns : goal.returns
returns c = sum _ _ _ c.value_bytes-value.ensures c.sdnv_bytes.ensures
