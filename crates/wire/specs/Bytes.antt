-- Lists of bytes: parts of them, and numbers of two bytes.
-- Assumes nothing.
use Rattle.std.specs.Prelude.{List, [], ◌∷◌, ℕ, ◌+◌, ◌-◌, ◌*◌, ◌/◌, ◌%◌, ◌<◌, get_or, take, drop}

-- a list of bytes
abbrev pub OfBytes : List ℕ → Type 0
OfBytes s = (i : ℕ) → get_or s i 0 < 256

-- the bytes of s from position a up to position e
abbrev pub part : List ℕ → ℕ → ℕ → List ℕ
part s a e = take (e - a) (drop a s)

-- two bytes of s, big-endian
abbrev pub pair_at : List ℕ → ℕ → ℕ
pair_at s at = get_or s at 0 * 256 + get_or s (at + 1) 0

-- a number in 16 bits, big-endian
abbrev pub two_bytes : ℕ → List ℕ
two_bytes x = x / 256 ∷ x % 256 ∷ []
