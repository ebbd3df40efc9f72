-- A row of unknowns, 64 to a word: the row that starts at word `base` has unknown p where digit p % 64 of word base + p / 64 is set.
-- Assumes nothing.
use Rattle.std.specs.Prelude.{◌≡◌, ◌≢◌, Bool, true, false, Option, Some, None, List, ℕ, ◌+◌, ◌/◌, ◌%◌, ◌^◌, ◌<◌, eqb, get_or}

-- binary digit i of a is set
unfoldable pub test_bit : ℕ → ℕ → Bool
test_bit a i = eqb (a / 2 ^ i % 2) 1

-- the row at `base` has unknown p
unfoldable pub row_bit : List ℕ → ℕ → ℕ → Bool
row_bit l base p = test_bit (get_or l (base + p / 64) 0) (p % 64)

-- f is the answer to: which is the lowest of the numbers below n at which b is true?
abbrev pub LowestIs : (ℕ → Bool) → ℕ → Option ℕ → Type 0
LowestIs b n (Some p) = (p < n) × ((b p ≡ true) × ((q : ℕ) → q < p → b q ≡ false))
LowestIs b n None = (q : ℕ) → q < n → b q ≡ false

-- r is the answer to: is b false at each number below n but p?
abbrev pub OnlyIs : (ℕ → Bool) → ℕ → ℕ → Bool → Type 0
OnlyIs b n p true = (q : ℕ) → q < n → q ≢ p → b q ≡ false
OnlyIs b n p false = (q : ℕ) × ((q < n) × ((q ≢ p) × (b q ≡ true)))
