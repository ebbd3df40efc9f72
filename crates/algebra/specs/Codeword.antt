-- Codewords of any code that is given by its check rows. Symbols of w bytes stand one after the other in a list of bytes.
-- Assumes nothing.
use Rattle.std.specs.Prelude.{Bool, List, ℕ, ◌+◌, ◌*◌, eqb, get_or, take, drop}
use Rattle.algebra.specs.Sums.{sum}
use Rattle.algebra.specs.Lists.{every}

-- n positions, m check rows, and whether check row j has position i
pub record Checks : Type 0 where
  pub n : ℕ
  pub m : ℕ
  pub has : ℕ → ℕ → Bool

-- byte b of the symbol at position i of x
abbrev pub byte_at : ℕ → List ℕ → ℕ → ℕ → ℕ
byte_at w x b i = get_or x (i * w + b) 0

-- the symbol at position i of x
abbrev pub symbol_at : ℕ → List ℕ → ℕ → List ℕ
symbol_at w x i = take w (drop (i * w) x)

-- check row j's sum over x, in byte b of each symbol
unfoldable pub row_sum : Checks → ℕ → List ℕ → ℕ → ℕ → ℕ
row_sum c w x j b = sum (c.has j) (byte_at w x b) c.n

-- all check rows hold: each sum is zero, in every byte
unfoldable pub codeword : Checks → ℕ → List ℕ → Bool
codeword c w x = every c.m (λ j. every w (λ b. eqb (row_sum c w x j b) 0))
