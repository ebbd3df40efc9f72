-- Codes of k information and m parity symbols whose parity symbols stand in the check rows as a staircase: check row j has some
-- information symbols, parity symbol j, and parity symbol j - 1 where j > 0. `info j x` says whether row j has information symbol x.
-- Assumes nothing.
use Rattle.std.specs.Prelude.{◌≡◌, ◌↔◌, Bool, true, ◌||◌, cond, List, ◌++◌, ℕ, zero, suc, ◌+◌, ◌-◌, ◌*◌, ◌/◌, ◌%◌, ltb, eqb, length, take}
use Rattle.algebra.specs.Sums.{◌⊕◌, sum}
use Rattle.algebra.specs.Lists.{tab}
use Rattle.algebra.specs.Codeword.{Checks, byte_at, codeword}

-- check row j has parity symbol i
unfoldable pub stair : ℕ → ℕ → Bool
stair j i = eqb i j || eqb (suc i) j

-- position p below k is information symbol p, and k + i is parity symbol i
unfoldable pub staircase : ℕ → ℕ → (ℕ → ℕ → Bool) → Checks
staircase k m info = record { n = k + m; m = m; has = λ j p. cond (ltb p k) (info j p) (stair j (p - k)) }

-- the parity symbol before j, and nothing before the first
abbrev pub before : (ℕ → ℕ) → ℕ → ℕ
before p zero = 0
before p (suc j) = p j

-- the parity symbols of the information symbols x: p_0 is the sum of row 0's, and p_j is p_(j - 1) plus the sum of row j's
unfoldable pub parity : ℕ → (ℕ → ℕ → Bool) → (ℕ → ℕ) → ℕ → ℕ
parity k info x zero = sum (info zero) x k
parity k info x (suc j) = parity k info x j ⊕ sum (info (suc j)) x k

-- the same for symbols of w bytes: byte t belongs to symbol t / w, and is its byte t % w
unfoldable pub parity_bytes : ℕ → ℕ → (ℕ → ℕ → Bool) → ℕ → List ℕ → List ℕ
parity_bytes k m info w x = tab (m * w) (λ t. parity k info (byte_at w x (t % w)) (t / w))

-- for the information part u there is just one codeword, and it is u followed by those bytes
abbrev pub OneCodeword : ℕ → ℕ → (ℕ → ℕ → Bool) → ℕ → List ℕ → Type 0
OneCodeword k m info w u =
    (x : List ℕ) → length x ≡ (k + m) * w
    → ((codeword (staircase k m info) w x ≡ true) × (take (k * w) x ≡ u)) ↔ (x ≡ u ++ parity_bytes k m info w u)
