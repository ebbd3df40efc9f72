-- Sums of symbols that stand anywhere in a buffer.
-- Assumes nothing.
use Rattle.std.specs.Prelude.{◌≡◌, ◌⊎◌, ◌≢◌, Bool, true, false, List, ℕ, ◌+◌, ◌*◌, ◌<◌, ◌≤◌, length, get_or, Some, None}
use Rattle.std.specs.declared.option.Option.{Option}
use Rattle.std.specs.Int.Bits.{bit_or}
use Rattle.algebra.specs.Sums.{◌⊕◌, sum}
use Rattle.algebra.specs.Codeword.{byte_at}

-- the sum of u at the first n positions of xs
abbrev pub gathered : (ℕ → ℕ) → List ℕ → ℕ → ℕ
gathered u xs n = sum (λ i. true) (λ i. u (get_or xs i 0)) n

-- the most positions of a check row
abbrev pub max_positions : ℕ
max_positions = 64

-- xs are positions of symbols of w bytes within a buffer of `bytes` bytes
pub record Inside (xs : List ℕ) (w bytes : ℕ) : Type 0 where
  pub each : (i : ℕ) → i < length xs → get_or xs i 0 * w + w ≤ bytes

-- symbol j of p became f 0, .., f (w - 1), and nothing else changed
pub record Replaced (f : ℕ → ℕ) (w j : ℕ) (p p' : List ℕ) : Type 0 where
  pub size : length p' ≡ length p
  pub outside : (t : ℕ) → (t < j * w) ⊎ (j * w + w ≤ t) → get_or p' t 0 ≡ get_or p t 0
  pub each : (b : ℕ) → b < w → byte_at w p' b j ≡ f b

-- byte b of symbol prev, and 0 where there is none
abbrev pub byte_before : ℕ → List ℕ → Option ℕ → ℕ → ℕ
byte_before w p None b = 0
byte_before w p (Some i) b = byte_at w p b i

-- r is the answer to: do the first n symbols xs of src add up to zero?
abbrev pub CancelIs : ℕ → List ℕ → List ℕ → ℕ → Bool → Type 0
CancelIs w src xs n true = (b : ℕ) → b < w → gathered (byte_at w src b) xs n ≡ 0
CancelIs w src xs n false = (b : ℕ) × ((b < w) × (gathered (byte_at w src b) xs n ≢ 0))

-- inner steps

-- f b plus byte b of each of the first n symbols xs of src
unfoldable pub summed : (ℕ → ℕ) → ℕ → List ℕ → List ℕ → ℕ → ℕ → ℕ
summed f w src xs n b = f b ⊕ gathered (byte_at w src b) xs n

-- t is f c, .., f (c + 15)
pub record Chunk16Is (f : ℕ → ℕ) (c : ℕ) (t : List ℕ) : Type 0 where
  pub size : length t ≡ 16
  pub each : (b : ℕ) → b < 16 → get_or t b 0 ≡ f (c + b)

-- f c, .., f (c + n - 1) were written from index at + c on, and nothing else changed
pub record Written (f : ℕ → ℕ) (at c n : ℕ) (p p' : List ℕ) : Type 0 where
  pub size : length p' ≡ length p
  pub outside : (t : ℕ) → (t < at + c) ⊎ (at + (c + n) ≤ t) → get_or p' t 0 ≡ get_or p t 0
  pub each : (b : ℕ) → b < n → get_or p' (at + (c + b)) 0 ≡ f (c + b)

-- bytes c, .., c + k - 1 of symbol j of p became those of symbol prev, where there is one, plus those of the first n symbols xs of src, and nothing else changed
abbrev pub SumWritten : ℕ → ℕ → Option ℕ → List ℕ → List ℕ → ℕ → ℕ → ℕ → List ℕ → List ℕ → Type 0
SumWritten w j prev src xs n c k p p' = Written (summed (byte_before w p prev) w src xs n) (j * w) c k p p'

-- t is the bitwise or of s and u, 16 bytes each
pub record Or16 (s u t : List ℕ) : Type 0 where
  pub size : length t ≡ 16
  pub each : (b : ℕ) → b < 16 → get_or t b 0 ≡ bit_or (get_or s b 0) (get_or u b 0)

-- r is the answer to: is f zero at from, .., to - 1?
abbrev pub ZeroIs : (ℕ → ℕ) → ℕ → ℕ → Bool → Type 0
ZeroIs f from to true = (b : ℕ) → from ≤ b → b < to → f b ≡ 0
ZeroIs f from to false = (b : ℕ) × ((from ≤ b) × ((b < to) × (f b ≢ 0)))
