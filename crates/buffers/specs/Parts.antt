-- What a buffer holds after a part of it was changed.
-- Assumes nothing.
use Rattle.std.specs.Prelude.{◌≡◌, ◌⊎◌, List, ℕ, zero, suc, ◌+◌, ◌<◌, ◌≤◌, length, get_or, set}
use Rattle.algebra.specs.Sums.{◌⊕◌}

-- d, where the n elements of s from index `from` on are added to those of d from index `at` on
unfoldable pub added : List ℕ → ℕ → List ℕ → ℕ → ℕ → List ℕ
added d at s from zero = d
added d at s from (suc n) = set (added d at s from n) (at + n) (get_or d (at + n) 0 ⊕ get_or s (from + n) 0)

-- d, where the n elements of s from index `from` on stand from index `at` on
unfoldable pub put : List ℕ → ℕ → List ℕ → ℕ → ℕ → List ℕ
put d at s from zero = d
put d at s from (suc n) = set (put d at s from n) (at + n) (get_or s (from + n) 0)

-- t is the n bytes of s from index `from` on
pub record Part (s : List ℕ) (from n : ℕ) (t : List ℕ) : Type 0 where
  pub size : length t ≡ n
  pub each : (b : ℕ) → b < n → get_or t b 0 ≡ get_or s (from + b) 0

-- t is the n sums of the bytes of d from index `at` on and those of s from index `from` on
pub record Sum (d : List ℕ) (at : ℕ) (s : List ℕ) (from n : ℕ) (t : List ℕ) : Type 0 where
  pub size : length t ≡ n
  pub each : (b : ℕ) → b < n → get_or t b 0 ≡ get_or d (at + b) 0 ⊕ get_or s (from + b) 0

-- the n elements from index `at` on and the n from index `from` on have none in common
pub record Apart (at from n : ℕ) : Type 0 where
  pub either : (from + n ≤ at) ⊎ (at + n ≤ from)
