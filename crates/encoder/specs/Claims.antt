-- What is claimed of every code, beside the contracts; proofs/Claims.antt proves it.
-- Assumes nothing.
use Rattle.std.specs.Prelude.{◌≡◌, ℕ, ◌+◌, ◌*◌, ◌<◌, true, false, ◌↔◌, List, ◌++◌, length, take, replicate, ◌==◌, slice_index}
use Rattle.algebra.specs.Sums.{◌⊕◌, sum}
use Rattle.algebra.specs.Codeword.{byte_at, symbol_at, row_sum, codeword}
use Rattle.algebra.specs.Staircase.{before, OneCodeword}
use Rattle.ccsds.specs.Codes.{Params, n_of, row_of, check_row_of, touches, checks_of, encode_of}
use Rattle.ccsds.specs.Fill.{wrong_fill, is_idle, padded}
use Rattle.ccsds.specs.Tables.{code_of, Known}
use Rattle.encoder.specs.Encode.{parity_of}

-- a claim about each code
abbrev pub OfEachCode : (Params → Type 0) → Type 0
OfEachCode P = (number : ℕ) → Known number → P (code_of number)

-- for each information part u there is just one codeword, and it is u followed by the encoder's parity bytes
abbrev pub EncodesCodeword : Params → Type 0
EncodesCodeword c = (w : ℕ) → 0 < w → (u : List ℕ) → length u ≡ c.k * w → OneCodeword c.k c.m (λ j x. touches c x j) w u

-- For the fill × W bytes u there is just one codeword that has u as its first symbols and is zero at the idle positions: u, the idle symbols,
-- and the encoder's parity bytes.
abbrev pub EncodesShort : Params → Type 0
EncodesShort c =
    (w fill : ℕ) → 0 < w → wrong_fill c.k fill ≡ false → (u : List ℕ) → length u ≡ fill * w
    → (x : List ℕ) → length x ≡ n_of c * w
    → ((codeword (checks_of c) w x ≡ true) × (take (fill * w) x ≡ u) × ((i : ℕ) → is_idle c.k fill i ≡ true → symbol_at w x i ≡ replicate w 0))
    ↔ (x ≡ padded c.k w fill u ++ parity_of c w fill u)

-- with fill k nothing is idle, and the parity is document 01's
abbrev pub EncodesFull : Params → Type 0
EncodesFull c = (w : ℕ) (u : List ℕ) → parity_of c w c.k u ≡ encode_of c w u

-- check row j in document 01's words: the sum of all u_x that touch j, plus p_j, plus p_(j - 1) where j > 0
abbrev pub ChecksAsWritten : Params → Type 0
ChecksAsWritten c =
    (w : ℕ) (x : List ℕ) (j b : ℕ) → j < c.m
    → row_sum (checks_of c) w x j b
    ≡ sum (λ i. touches c i j) (byte_at w x b) c.k ⊕ (byte_at w x b (c.k + j) ⊕ before (λ i. byte_at w x b (c.k + i)) j)

-- check row 0 has parity symbol 0 and no other
abbrev pub FirstRow : Params → Type 0
FirstRow c = (i : ℕ) → (checks_of c).has 0 (c.k + i) ≡ (i == 0)

-- no information symbol touches a check row twice
abbrev pub TouchesOnce : Params → Type 0
TouchesOnce c =
    (x : ℕ) → x < c.k → (i j : ℕ) → i < length (row_of c x) → j < length (row_of c x)
    → check_row_of c x (slice_index (row_of c x) i) ≡ check_row_of c x (slice_index (row_of c x) j) → i ≡ j
