-- Row additions: row r is added to each row of a chosen set. Where these are the other rows that have its pivot, that clears the pivot's column.
-- A row is w elements of the list, of which the first len take part.
-- Assumes nothing.
use Rattle.std.specs.Prelude.{◌≡◌, Bool, true, false, Option, Some, None, cond, not, ◌&&◌, List, ℕ, zero, suc, ◌*◌, ◌≤◌, ◌<◌, eqb}
use Rattle.buffers.specs.Parts.{added}
use Rattle.elimination.specs.Bits.{row_bit}

-- l, with row r added to row j where b is true
abbrev pub add_row : Bool → List ℕ → ℕ → ℕ → ℕ → ℕ → List ℕ
add_row b l r w len j = cond b (added l (j * w) l (r * w) len) l

-- l after row r was added to each row j below n for which h j is true
unfoldable pub add_row_where : (ℕ → Bool) → List ℕ → ℕ → ℕ → ℕ → ℕ → List ℕ
add_row_where h l r w len zero = l
add_row_where h l r w len (suc j) = add_row (h j) (add_row_where h l r w len j) r w len j

-- the rows other than r that have unknown p, which are those that clearing its column by row r changes
unfoldable pub has_pivot : List ℕ → ℕ → ℕ → ℕ → ℕ → Bool
has_pivot l w r p j = not (eqb j r) && row_bit l (j * w) p

-- f is the answer to: which is the first of the numbers from j on and below m at which h is true?
abbrev pub FirstFrom : (ℕ → Bool) → ℕ → ℕ → Option ℕ → Type 0
FirstFrom h m j (Some k) = (j ≤ k) × ((k < m) × ((h k ≡ true) × ((i : ℕ) → j ≤ i → i < k → h i ≡ false)))
FirstFrom h m j None = (i : ℕ) → j ≤ i → i < m → h i ≡ false
