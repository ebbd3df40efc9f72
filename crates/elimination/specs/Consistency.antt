-- What is read off rows l in reduced form and their right-hand side d: whether an equation without unknowns fails.
-- Assumes nothing.
use Rattle.std.specs.Prelude.{◌≡◌, ◌≢◌, Bool, true, false, List, ℕ, ◌+◌, ◌*◌, ◌<◌, get_or}
use Rattle.elimination.specs.Reduced.{ZeroRow}

-- no equation without unknowns fails
abbrev pub Consistent : List ℕ → List ℕ → ℕ → ℕ → ℕ → Type 0
Consistent l d m words width = (s i : ℕ) → s < m → i < width → ZeroRow l words s → get_or d (s * width + i) 0 ≡ 0

-- an equation without unknowns that fails
pub record Fails (l d : List ℕ) (m words width : ℕ) : Type 0 where
  pub row : ℕ
  pub byte : ℕ
  pub below : row < m
  pub within : byte < width
  pub empty : ZeroRow l words row
  pub there : get_or d (row * width + byte) 0 ≢ 0

-- r is the answer to: does no equation without unknowns fail?
abbrev pub ConsistentIs : List ℕ → List ℕ → ℕ → ℕ → ℕ → Bool → Type 0
ConsistentIs l d m words width true = Consistent l d m words width
ConsistentIs l d m words width false = Fails l d m words width
