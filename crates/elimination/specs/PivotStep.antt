-- The pivot step: row r gets its pivot word and, where it has a pivot, the column of that is cleared in the other rows. The rows are reduced in any
-- order; a list with true for each row that is reduced keeps account.
-- Assumes nothing.
use Rattle.std.specs.Prelude.{◌≡◌, ◌⊎◌, ◌≢◌, Bool, true, false, Option, Some, None, List, ℕ, ◌+◌, ◌*◌, ◌≤◌, ◌<◌, length, get_or, set}
use Rattle.elimination.specs.Bits.{row_bit}
use Rattle.elimination.specs.Column.{add_row_where, has_pivot}
use Rattle.elimination.specs.Reduced.{pivot_at, RowReduced}

-- f is the answer to: which pivot has the row whose unknowns below n are those at which b is true?
abbrev pub PivotIs : (ℕ → Bool) → ℕ → Option ℕ → Type 0
PivotIs b n (Some p) = (p < n) × (b p ≡ true)
PivotIs b n None = (q : ℕ) → q < n → b q ≡ false

-- the pivot word that says so
abbrev pub pivot_word_of : Option ℕ → ℕ
pivot_word_of (Some p) = p + 1
pivot_word_of None = 0

-- the column cleared, l being the rows with their pivot word and d the rows themselves or the right-hand side
abbrev pub cleared_by : Option ℕ → List ℕ → List ℕ → ℕ → ℕ → ℕ → ℕ → ℕ → List ℕ
cleared_by (Some p) l d m words r w n = add_row_where (has_pivot l (words + 1) r p) d r w n m
cleared_by None l d m words r w n = d

-- the step takes the rows l and the right-hand side d to l' and d'
pub record PivotStep (l d l' d' : List ℕ) (m words width r : ℕ) : Type 0 where
  pub found : Option ℕ
  pub chosen : PivotIs (row_bit l (r * (words + 1))) (64 * words) found
  pub rows : l' ≡ cleared_by found (set l (pivot_at words r) (pivot_word_of found)) (set l (pivot_at words r) (pivot_word_of found)) m words r (words + 1) words
  pub rhs : d' ≡ cleared_by found (set l (pivot_at words r) (pivot_word_of found)) d m words r width width

-- f has room for all rows, and each row for which f has true is reduced
pub record ReducedWhere (f : List Bool) (l : List ℕ) (m words : ℕ) : Type 0 where
  pub long : 1024 ≤ length f
  pub rows : (s : ℕ) → s < m → (get_or f s false ≡ false) ⊎ RowReduced l m words s

-- g has true at r, and where f has
pub record RowMarked (f g : List Bool) (r : ℕ) : Type 0 where
  pub here : get_or g r false ≢ false
  pub kept : (s : ℕ) → get_or g s false ≡ false → get_or f s false ≡ false
