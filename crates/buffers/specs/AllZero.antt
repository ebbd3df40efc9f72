-- Whether a part of a list is all zeros.
-- Assumes nothing.
use Rattle.std.specs.Prelude.{◌≡◌, ◌≢◌, Bool, true, false, List, ℕ, ◌+◌, ◌<◌, get_or}

-- r is the answer to: are the n elements of l from index `from` all 0?
abbrev pub AllZeroIs : List ℕ → ℕ → ℕ → Bool → Type 0
AllZeroIs l from n true = (i : ℕ) → i < n → get_or l (from + i) 0 ≡ 0
AllZeroIs l from n false = (i : ℕ) × ((i < n) × (get_or l (from + i) 0 ≢ 0))
