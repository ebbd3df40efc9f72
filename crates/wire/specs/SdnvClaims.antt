-- What is claimed of SDNV numbers, beside the contracts; proofs/SdnvRound.antt proves it.
-- Assumes nothing.
use Rattle.std.specs.Prelude.{◌≡◌, List, ◌++◌, ℕ, ◌+◌, ◌≤◌, ◌<◌, length}
use Rattle.wire.specs.Bytes.{part, OfBytes}
use Rattle.wire.specs.Sdnv.{finished, number_at, sdnv_bytes}

-- an SDNV is read back, whatever stands before and after it
abbrev pub ReadsBack : Type 0
ReadsBack =
    (v : ℕ) → v < 4294967296 → (before after : List ℕ)
    → number_at (before ++ (sdnv_bytes v ++ after)) (length before) ≡ finished (record { value = v; end = length before + length (sdnv_bytes v) })

-- it has one form: bytes that are read as a number are those that are written for it
abbrev pub OneForm : Type 0
OneForm =
    (s : List ℕ) → OfBytes s → (at v end : ℕ) → number_at s at ≡ finished (record { value = v; end = end }) → part s at end ≡ sdnv_bytes v

-- it has at most five bytes, and no bytes that are read as the same number are fewer
abbrev pub Shortest : Type 0
Shortest =
    (v : ℕ)
    → (length (sdnv_bytes v) ≤ 5) × ((s : List ℕ) (at end : ℕ) → number_at s at ≡ finished (record { value = v; end = end }) → at + length (sdnv_bytes v) ≤ end)
