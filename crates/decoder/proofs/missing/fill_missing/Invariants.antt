-- `decoder::missing::fill_missing` meets its contract. The invariant: the first i states are filled.
-- Assumes nothing.
use mathlib.Core.Path.{◌≡◌}
use Prim.Native.Nat.{◌≤◌}
use lib.ListN.{length}
use Rattle.decoder.proofs.Filling.{MarksTo}
use Rattle.decoder.proofs.missing.fill_missing.Given as goal

abbrev pub invariant-loop-state : goal.invariant-loop-state
invariant-loop-state l = (l.state-index ≤ length l.initial.states) × ((length l.states ≡ length l.initial.states) × MarksTo l.initial.states l.states l.state-index)
