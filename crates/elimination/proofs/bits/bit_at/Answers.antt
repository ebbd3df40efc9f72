-- `elimination::bits::bit_at` meets its contract: `row_bit` is what the code computes.
-- Assumes nothing.
use mathlib.Core.Path.{refl}
use Rattle.elimination.specs.Bits.{test_bit, row_bit}
use Rattle.elimination.proofs.bits.bit_at.Goals as goal

pub returns : goal.returns
unfolding row_bit test_bit
returns c = refl
