-- Sums by exclusive or. A number stands for one byte of a symbol; document 01 sums symbols byte by byte.
-- Assumes nothing.
use Rattle.std.specs.Prelude.{Bool, true, false, ℕ, zero, suc}
use Rattle.std.specs.Int.Bits.{bit_xor}

infixl 65 ◌⊕◌
-- the sum of two numbers
unfoldable pub ◌⊕◌ : ℕ → ℕ → ℕ
a ⊕ b = bit_xor a b

-- v where the test holds, else 0
abbrev pub pick : Bool → ℕ → ℕ
pick true v = v
pick false v = 0

-- the sum of those of x 0, .., x (n - 1) whose test a holds
unfoldable pub sum : (ℕ → Bool) → (ℕ → ℕ) → ℕ → ℕ
sum a x zero = 0
sum a x (suc n) = sum a x n ⊕ pick (a n) (x n)
