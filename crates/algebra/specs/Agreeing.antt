-- The codewords that agree with known symbols, the verdict by their number, and which symbols they determine.
-- A word is n symbols of w bytes, one after the other in a list of bytes; `known i` says whether the symbol at position i is known.
-- `agreeing` goes through all words, so nothing ever computes it.
-- Assumes nothing.
use Rattle.std.specs.Prelude.{Bool, true, false, not, ◌&&◌, ◌||◌, cond, List, [], ◌∷◌, ℕ, ◌*◌, ◌/◌, ◌%◌, eqb}
use Rattle.algebra.specs.Lists.{every, tab}
use Rattle.algebra.specs.Codeword.{Checks, byte_at, codeword}
use Rattle.algebra.specs.Words.{filter, words}

-- x and y have the same symbol at position i
unfoldable pub same_symbol : ℕ → List ℕ → List ℕ → ℕ → Bool
same_symbol w x y i = every w (λ b. eqb (byte_at w x b i) (byte_at w y b i))

-- x has the known symbols
unfoldable pub agrees : Checks → ℕ → (ℕ → Bool) → List ℕ → List ℕ → Bool
agrees c w known symbols x = every c.n (λ i. not (known i) || same_symbol w x symbols i)

-- all codewords that agree with the known symbols
unfoldable pub agreeing : Checks → ℕ → (ℕ → Bool) → List ℕ → List (List ℕ)
agreeing c w known symbols = filter (λ x. codeword c w x && agrees c w known symbols x) (words (c.n * w))

-- ---- the verdict: none agrees, just one does, or more do

pub data Verdict : Type 0 where
  whole ambiguous inconsistent : Verdict

unfoldable pub verdict_of : List (List ℕ) → Verdict
verdict_of [] = inconsistent
verdict_of (x ∷ []) = whole
verdict_of (x ∷ (y ∷ l)) = ambiguous

-- ---- a determined position: some codeword agrees, and all that agree have the same symbol there

-- every word of l has x's symbol at position i
unfoldable pub all_same : ℕ → List ℕ → List (List ℕ) → ℕ → Bool
all_same w x [] i = true
all_same w x (y ∷ l) i = same_symbol w x y i && all_same w x l i

-- l has a word, and all its words have the same symbol at position i
unfoldable pub determined : ℕ → List (List ℕ) → ℕ → Bool
determined w [] i = false
determined w (x ∷ l) i = all_same w x l i

-- the first word of l
unfoldable pub first : List (List ℕ) → List ℕ
first [] = []
first (x ∷ l) = x

-- ---- the symbols afterwards: known ones stay, determined ones are filled in, all others are zero

module _ (c : Checks) (w : ℕ) (known : ℕ → Bool) (symbols : List ℕ) where
  -- byte b of the symbol at position i
  unfoldable pub filled_byte : ℕ → ℕ → ℕ
  filled_byte b i =
      cond (known i) (byte_at w symbols b i)
      (cond (determined w (agreeing c w known symbols) i) (byte_at w (first (agreeing c w known symbols)) b i) 0)

  unfoldable pub filled_symbols : List ℕ
  filled_symbols = tab (c.n * w) (λ t. filled_byte (t % w) (t / w))
