-- The starred samples of document 01, with document 02, jobs 1 and 6, as rows of one table under one statement.
-- Assumes nothing.
use Rattle.std.specs.Prelude.{◌≡◌, Bool, true, false, ◌&&◌, ◌||◌, ◌⊎◌, ◌≢◌, List, [], ◌∷◌, ℕ, ◌+◌, ◌<◌, ◌≤◌, leb, length}
use Rattle.algebra.specs.Sums.{pick, sum}
use Rattle.algebra.specs.Codeword.{byte_at, codeword}
use Rattle.ccsds.specs.Codes.{checks_of}
use Rattle.ccsds.specs.Tables.{code_of}
use Rattle.ccsds.specs.RefusalTable as refusal
use Rattle.ccsds.specs.Refusals.{Outcome, refused, answered, ◌⟫◌, refused_for}
use Rattle.wire.specs.Sdnv.{number_at, sdnv_bytes}
use Rattle.unit_reader.specs.Reader.{number_or}

-- In every codeword of the code whose information symbols outside first .. last are zero, each parity symbol j of from .. to is the sum of
-- all information symbols if one of the runs has j, and zero if none has. Where first is last, that sum is the one symbol's value.
pub record CodeSample : Type 0 where
  pub code : ℕ
  pub first : ℕ
  pub last : ℕ
  pub from : ℕ
  pub to : ℕ
  pub runs : List (ℕ × ℕ)

-- a run has j
unfoldable pub in_runs : List (ℕ × ℕ) → ℕ → Bool
in_runs [] j = false
in_runs (r ∷ rs) j = leb r.0 j && leb j r.1 || in_runs rs j

abbrev pub CodeHolds : CodeSample → Type 0
CodeHolds s =
    (w : ℕ) (x : List ℕ) → codeword (checks_of (code_of s.code)) w x ≡ true
    → ((i b : ℕ) → (i < s.first) ⊎ (s.last < i) → i < (code_of s.code).k → b < w → byte_at w x b i ≡ 0)
    → (j b : ℕ) → s.from ≤ j → j ≤ s.to → b < w
    → byte_at w x b ((code_of s.code).k + j) ≡ pick (in_runs s.runs j) (sum (λ i. true) (byte_at w x b) (code_of s.code).k)

-- A row of one information symbol in document 01's own words, "only u_x = v, others zero: v at p_i to p_j": its value stands at the parity symbols that
-- a run has, and zero at the others.
abbrev pub SingleHolds : CodeSample → Type 0
SingleHolds s =
    (w : ℕ) (x : List ℕ) → codeword (checks_of (code_of s.code)) w x ≡ true
    → ((i b : ℕ) → i ≢ s.first → i < (code_of s.code).k → b < w → byte_at w x b i ≡ 0)
    → (j b : ℕ) → s.from ≤ j → j ≤ s.to → b < w
    → byte_at w x b ((code_of s.code).k + j) ≡ pick (in_runs s.runs j) (byte_at w x b s.first)

-- every row of one information symbol that holds says so
abbrev pub SingleSymbol : Type 0
SingleSymbol = (s : CodeSample) → s.first ≡ s.last → s.first < (code_of s.code).k → CodeHolds s → SingleHolds s

-- The bytes are read as a number that ends where they end, or are refused; and the number is written in its shortest form.
pub record SdnvSample : Type 0 where
  pub bytes : List ℕ
  pub answer : Outcome ℕ
  pub shortest : List ℕ

abbrev pub WrittenAs : Outcome ℕ → List ℕ → Type 0
WrittenAs (refused number) bytes = Unit {0}
WrittenAs (answered v) bytes = sdnv_bytes v ≡ bytes

abbrev pub SdnvHolds : SdnvSample → Type 0
SdnvHolds s =
    (number_or refusal.extension (number_at s.bytes 0) ≡ (s.answer ⟫ λ v. answered (record { value = v; end = length s.bytes }))) × WrittenAs s.answer s.shortest

pub data Sample : Type 0 where
  of_code : CodeSample → Sample
  of_sdnv : SdnvSample → Sample

-- what a row of the table claims
abbrev pub Holds : Sample → Type 0
Holds (of_code s) = CodeHolds s
Holds (of_sdnv s) = SdnvHolds s

unfoldable pub samples : List Sample
samples =
    -- C1, only u_0
    of_code (record { code = 1; first = 0; last = 0; from = 0; to = 255; runs = (41, 59) ∷ (72, 97) ∷ (222, 255) ∷ [] })
    -- C1, only u_511
    ∷ of_code (record { code = 1; first = 511; last = 511; from = 0; to = 255; runs = (7, 18) ∷ (33, 60) ∷ (142, 255) ∷ [] })
    -- C2, only u_2047
    ∷ of_code (record { code = 2; first = 2047; last = 2047; from = 0; to = 1023; runs = (121, 330) ∷ (439, 604) ∷ [] })
    -- C1, p_255 is the sum of all
    ∷ of_code (record { code = 1; first = 0; last = 511; from = 255; to = 255; runs = (255, 255) ∷ [] })
    -- C2, p_1023 is zero
    ∷ of_code (record { code = 2; first = 0; last = 2047; from = 1023; to = 1023; runs = [] })
    -- Document 02, job 1: the same for C4, C5, C7 and C8, of each only u_0, only u_(k - 1), and what p_(m - 1) sums
    -- C4, only u_0
    ∷ of_code (record { code = 4; first = 0; last = 0; from = 0; to = 127; runs = (54, 64) ∷ (72, 115) ∷ (122, 127) ∷ [] })
    -- C4, only u_511
    ∷ of_code (record { code = 4; first = 511; last = 511; from = 0; to = 127; runs = (9, 30) ∷ (75, 101) ∷ (125, 127) ∷ [] })
    -- C4, p_127 is the sum of all
    ∷ of_code (record { code = 4; first = 0; last = 511; from = 127; to = 127; runs = (127, 127) ∷ [] })
    -- C5, only u_0
    ∷ of_code (record { code = 5; first = 0; last = 0; from = 0; to = 511; runs = (10, 48) ∷ (116, 167) ∷ (494, 511) ∷ [] })
    -- C5, only u_2047
    ∷ of_code (record { code = 5; first = 2047; last = 2047; from = 0; to = 511; runs = (165, 274) ∷ (449, 462) ∷ [] })
    -- C5, p_511 is the sum of u_0 to u_1023
    ∷ of_code (record { code = 5; first = 0; last = 1023; from = 511; to = 511; runs = (511, 511) ∷ [] })
    -- C5, and of no other
    ∷ of_code (record { code = 5; first = 1024; last = 2047; from = 511; to = 511; runs = [] })
    -- C7, only u_0
    ∷ of_code (record { code = 7; first = 0; last = 0; from = 0; to = 63; runs = (2, 5) ∷ (9, 18) ∷ (45, 47) ∷ (60, 63) ∷ [] })
    -- C7, only u_511
    ∷ of_code (record { code = 7; first = 511; last = 511; from = 0; to = 63; runs = (15, 20) ∷ (25, 39) ∷ (51, 57) ∷ [] })
    -- C7, p_63 is the sum of u_0 to u_383
    ∷ of_code (record { code = 7; first = 0; last = 383; from = 63; to = 63; runs = (63, 63) ∷ [] })
    -- C7, and of no other
    ∷ of_code (record { code = 7; first = 384; last = 511; from = 63; to = 63; runs = [] })
    -- C8, only u_0
    ∷ of_code (record { code = 8; first = 0; last = 0; from = 0; to = 255; runs = (31, 79) ∷ (100, 137) ∷ (161, 197) ∷ (213, 255) ∷ [] })
    -- C8, only u_2047
    ∷ of_code (record { code = 8; first = 2047; last = 2047; from = 0; to = 255; runs = (55, 57) ∷ (65, 84) ∷ (147, 159) ∷ [] })
    -- C8, p_255 is the sum of u_0 to u_127
    ∷ of_code (record { code = 8; first = 0; last = 127; from = 255; to = 255; runs = (255, 255) ∷ [] })
    -- C8, and of no other
    ∷ of_code (record { code = 8; first = 128; last = 2047; from = 255; to = 255; runs = [] })
    -- SDNV numbers
    ∷ of_sdnv (record { bytes = 0x7F ∷ []; answer = answered 127; shortest = 0x7F ∷ [] })
    ∷ of_sdnv (record { bytes = 0x81 ∷ 0x00 ∷ []; answer = answered 128; shortest = 0x81 ∷ 0x00 ∷ [] })
    ∷ of_sdnv (record { bytes = 0x86 ∷ 0x00 ∷ []; answer = answered 768; shortest = 0x86 ∷ 0x00 ∷ [] })
    ∷ of_sdnv (record {
      bytes = 0x8F ∷ 0xFF ∷ 0xFF ∷ 0xFF ∷ 0x7F ∷ [];
      answer = answered 4294967295;
      shortest = 0x8F ∷ 0xFF ∷ 0xFF ∷ 0xFF ∷ 0x7F ∷ [];
    })
    ∷ of_sdnv (record { bytes = 0x90 ∷ 0x80 ∷ 0x80 ∷ 0x80 ∷ 0x00 ∷ []; answer = refused_for refusal.number; shortest = [] })
    ∷ of_sdnv (record { bytes = 0x80 ∷ 0x01 ∷ []; answer = refused_for refusal.number; shortest = [] })
    ∷ []

-- every row holds
abbrev pub Each : List Sample → Type 0
Each [] = Unit {0}
Each (s ∷ ss) = Holds s × Each ss
