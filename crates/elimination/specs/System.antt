-- The equations that packed rows l and a right-hand side d stand for. Row j is words + 1 words, of which the last takes no part, and
-- width bytes; x q i is byte i of unknown q.
-- Assumes nothing.
use Rattle.std.specs.Prelude.{◌≡◌, ◌↔◌, false, List, ℕ, ◌+◌, ◌*◌, ◌≤◌, ◌<◌, get_or}
use Rattle.algebra.specs.Sums.{sum}
use Rattle.elimination.specs.Bits.{row_bit}

-- the left side of equation j at byte i: the sum of the row's unknowns below n
abbrev pub left_side : List ℕ → ℕ → ℕ → (ℕ → ℕ → ℕ) → ℕ → ℕ → ℕ
left_side l words n x j i = sum (row_bit l (j * (words + 1))) (λ q. x q i) n

-- x satisfies each of the m equations, at each byte
abbrev pub Solves : List ℕ → List ℕ → ℕ → ℕ → ℕ → ℕ → (ℕ → ℕ → ℕ) → Type 0
Solves l d m words width n x = (j i : ℕ) → j < m → i < width → left_side l words n x j i ≡ get_or d (j * width + i) 0

-- l, d and l', d' have the same solutions, over any number of unknowns that a row holds; and an unknown that no row of l has is in no row of l'
pub record SameSolutions (l d l' d' : List ℕ) (m words width : ℕ) : Type 0 where
  pub solves : (n : ℕ) (x : ℕ → ℕ → ℕ) → n ≤ 64 * words → Solves l d m words width n x ↔ Solves l' d' m words width n x
  pub absent : (q : ℕ) → q < 64 * words → ((j : ℕ) → j < m → row_bit l (j * (words + 1)) q ≡ false) → (j : ℕ) → j < m → row_bit l' (j * (words + 1)) q ≡ false

-- l and l' differ in the last words of rows only
abbrev pub SameCoefficients : List ℕ → List ℕ → ℕ → Type 0
SameCoefficients l l' words = (j k : ℕ) → k < words → get_or l' (j * (words + 1) + k) 0 ≡ get_or l (j * (words + 1) + k) 0
