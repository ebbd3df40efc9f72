-- `elimination::bits::only` meets its contract. The invariant: the words passed have no unknown but p.
-- Assumes nothing.
use mathlib.Core.Path.{◌≡◌}
use mathlib.Core.Logic.{◌≢◌}
use mathlib.Core.Bool.{false}
use Prim.Native.Nat.{ℕ, ◌*◌, ◌≤◌, ◌<◌}
use Rattle.elimination.specs.Bits.{row_bit}
use Rattle.elimination.proofs.bits.only.Given as goal

abbrev pub invariant-loop-i : goal.invariant-loop-i
invariant-loop-i l = (l.i ≤ l.words) × ((q : ℕ) → q < 64 * l.i → q ≢ l.p → row_bit l.rows l.base q ≡ false)
