-- Document 01, "The two codes", over the numbers and the table of any code.
-- Assumes nothing.
use Rattle.std.specs.Prelude.{Bool, false, ◌||◌, List, [], ◌∷◌, ℕ, ◌+◌, ◌*◌, ◌/◌, ◌%◌, eqb, get_or}
use Rattle.algebra.specs.Codeword.{Checks}
use Rattle.algebra.specs.Staircase.{staircase, parity_bytes}

-- k information symbols, m parity symbols, the circulant size q, a = m / q, and the rows of the code's table
pub record Params : Type 0 where
  pub k : ℕ
  pub m : ℕ
  pub q : ℕ
  pub a : ℕ
  pub rows : List (List ℕ)

-- the number of symbols
abbrev pub n_of : Params → ℕ
n_of c = c.k + c.m

-- the table row of information symbol x
unfoldable pub row_of : Params → ℕ → List ℕ
row_of c x = get_or c.rows (x / c.q) []

-- the check row that information symbol x touches by address y
unfoldable pub check_row_of : Params → ℕ → ℕ → ℕ
check_row_of c x y = (y + x % c.q * c.a) % c.m

-- some entry of the list goes to j by f
unfoldable pub hits : (ℕ → ℕ) → List ℕ → ℕ → Bool
hits f [] j = false
hits f (y ∷ ys) j = eqb (f y) j || hits f ys j

-- information symbol x touches check row j
unfoldable pub touches : Params → ℕ → ℕ → Bool
touches c x j = hits (check_row_of c x) (row_of c x) j

-- Check row j: all information symbols that touch j, p_j, and p_(j - 1) where j > 0. A codeword is n symbols for which every
-- check row's sum is zero (`codeword` of algebra).
abbrev pub checks_of : Params → Checks
checks_of c = staircase c.k c.m (λ j x. touches c x j)

-- the parity bytes of the information bytes u, of symbols of w bytes
abbrev pub encode_of : Params → ℕ → List ℕ → List ℕ
encode_of c w u = parity_bytes c.k c.m (λ j x. touches c x j) w u
