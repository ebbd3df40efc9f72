-- Inner steps of what is done with the check rows that no step used, and of restoring. Internal: no public contract cites it.
-- Assumes nothing.
use Rattle.std.specs.Prelude.{◌≡◌, ◌≢◌, cond, List, ℕ, ◌+◌, ◌*◌, ◌<◌, ◌≤◌, eqb, length, get_or}
use Rattle.algebra.specs.Codeword.{Checks}
use Rattle.symbol_sums.specs.Gather.{gathered}
use Rattle.peeling.specs.Plan.{Arrays, used_by, unused_below}
use Rattle.peeling.specs.Values.{row_sum}

-- the sums of those of the first j check rows that no step used, i of them, stand one after the other
pub record SidesTo (c : Checks) (w : ℕ) (plan : Arrays) (symbols d : List ℕ) (j i : ℕ) : Type 0 where
  pub size : length d ≡ c.m * w
  pub count : i ≡ unused_below plan j
  pub each : (x b : ℕ) → x < j → used_by plan x ≡ 0 → b < w → get_or d (unused_below plan x * w + b) 0 ≡ row_sum c w symbols x b

-- the first k numbers of xs' are those of the first n of xs that are not p
pub record Others (xs : List ℕ) (n p : ℕ) (xs' : List ℕ) (k : ℕ) : Type 0 where
  pub size : length xs' ≡ length xs
  pub few : k ≤ n
  pub each : (i : ℕ) → i < k → (get_or xs' i 0 ≢ p) × ((y : ℕ) × ((y < n) × (get_or xs' i 0 ≡ get_or xs y 0)))
  pub behind : (i : ℕ) → n ≤ i → get_or xs' i 0 ≡ get_or xs i 0
  pub total : (f : ℕ → ℕ) → gathered f xs' k ≡ gathered (λ x. cond (eqb x p) 0 (f x)) xs n
