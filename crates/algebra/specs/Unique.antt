-- How many words have a property, in logical form; and what it is to agree with known symbols, as such a property.
-- Assumes nothing.
use Rattle.std.specs.Prelude.{◌≡◌, ◌≢◌, Bool, true, List, ℕ, ◌*◌, ◌<◌, length, get_or}
use Rattle.algebra.specs.Codeword.{Checks, byte_at, row_sum}

-- some word has it
abbrev pub Some : (List ℕ → Type 0) → Type 0
Some P = (x : List ℕ) × P x

-- just one word has it
abbrev pub JustOne : (List ℕ → Type 0) → Type 0
JustOne P = (x : List ℕ) × P x × ((y : List ℕ) → P y → y ≡ x)

-- two or more words have it
abbrev pub Two : (List ℕ → Type 0) → Type 0
Two P = (x : List ℕ) × (y : List ℕ) × P x × P y × (x ≢ y)

-- all words that have it have the same symbol at position i
abbrev pub Common : ℕ → (List ℕ → Type 0) → ℕ → Type 0
Common w P i = (x y : List ℕ) → P x → P y → (b : ℕ) → b < w → byte_at w x b i ≡ byte_at w y b i

-- x is a codeword, n symbols of w bytes for which all check rows hold, and has the known symbols
pub record Agrees (c : Checks) (w : ℕ) (known : ℕ → Bool) (symbols x : List ℕ) : Type 0 where
  pub size : length x ≡ c.n * w
  pub bytes : (t : ℕ) → get_or x t 0 < 256
  pub rows : (j : ℕ) → j < c.m → (b : ℕ) → b < w → row_sum c w x j b ≡ 0
  pub same : (i : ℕ) → i < c.n → known i ≡ true → (b : ℕ) → b < w → byte_at w x b i ≡ byte_at w symbols b i
