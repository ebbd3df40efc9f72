-- Rows in reduced form. The last word of a row, its pivot word, says which unknown is its pivot: its number + 1, or 0.
-- Assumes nothing.
use Rattle.std.specs.Prelude.{◌≡◌, ◌⊎◌, ◌≢◌, true, false, List, ℕ, ◌+◌, ◌*◌, ◌<◌, get_or}
use Rattle.elimination.specs.Bits.{row_bit}

-- where the pivot word of row s stands
abbrev pub pivot_at : ℕ → ℕ → ℕ
pivot_at words s = s * (words + 1) + words

-- and what it holds
abbrev pub pivot_word : List ℕ → ℕ → ℕ → ℕ
pivot_word l words s = get_or l (pivot_at words s) 0

-- a zero row: row s has no unknown
pub record ZeroRow (l : List ℕ) (words s : ℕ) : Type 0 where
  pub word : pivot_word l words s ≡ 0
  pub clear : (q : ℕ) → q < 64 * words → row_bit l (s * (words + 1)) q ≡ false

-- row s has a pivot: an unknown of it that is in no other of the m rows
pub record Pivot (l : List ℕ) (m words s : ℕ) : Type 0 where
  pub at : ℕ
  pub word : pivot_word l words s ≡ at + 1
  pub within : at < 64 * words
  pub here : row_bit l (s * (words + 1)) at ≡ true
  pub others : (j : ℕ) → j < m → j ≢ s → row_bit l (j * (words + 1)) at ≡ false

-- row s is reduced
abbrev pub RowReduced : List ℕ → ℕ → ℕ → ℕ → Type 0
RowReduced l m words s = ZeroRow l words s ⊎ Pivot l m words s

-- the first k of the m rows are reduced
abbrev pub Reduced : List ℕ → ℕ → ℕ → ℕ → Type 0
Reduced l m words k = (s : ℕ) → s < k → RowReduced l m words s
