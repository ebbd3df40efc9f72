-- Masks of the unknowns that stand in more than one row. A pivot of the forward pass that is in no mask stands in one row only: a singleton.
-- Assumes nothing.
use Rattle.std.specs.Prelude.{◌≡◌, ◌≢◌, true, false, List, ℕ, ◌+◌, ◌*◌, ◌<◌, get_or}
use Rattle.elimination.specs.Bits.{test_bit}

-- v has the digits of word k that two of the first n rows share: where digit b of v is not set, at most one has it
abbrev pub SharedMask : ℕ → List ℕ → ℕ → ℕ → ℕ → Type 0
SharedMask v l n words k = (b i j : ℕ) → i < n → j < n → i ≢ j → test_bit v b ≡ false
    → test_bit (get_or l (i * (words + 1) + k) 0) b ≡ true → test_bit (get_or l (j * (words + 1) + k) 0) b ≡ false

-- the first k of f are the masks of the first k words of the m rows
abbrev pub SharedMasks : List ℕ → List ℕ → ℕ → ℕ → ℕ → Type 0
SharedMasks f l m words k = (i : ℕ) → i < k → SharedMask (get_or f i 0) l m words i
