-- `peeling::peel::none_missing` meets its contract: of the first i positions, `known` are known.
-- Assumes nothing.
use Rattle.std.proofs.Common.{◌≡◌, ℕ, ◌<◌, ◌≤◌, true, false, List}
use Rattle.peeling.specs.States.{is_known}
use Rattle.peeling.proofs.peel.none_missing.Given as goal

-- k of the first i positions are known: all of them, or one is not
pub record KnownTo (states : List ℕ) (i k : ℕ) : Type 0 where
  pub few : k ≤ i
  pub all : k ≡ i → (p : ℕ) → p < i → is_known states p ≡ true
  pub some : k < i → (p : ℕ) × ((p < i) × (is_known states p ≡ false))

abbrev pub invariant-loop-state : goal.invariant-loop-state
invariant-loop-state l = KnownTo l.states l.state-index l.known
