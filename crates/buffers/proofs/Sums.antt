-- Sums by way of an array of their own, and within one buffer: the laws of `Sum` and `Apart`, for any number of bytes.
-- Assumes nothing.
use mathlib.Core.Path.{◌≡◌, sym, ap, ap₂, ◌∙◌}
use mathlib.Core.Logic.{inl, inr, ⊎_elim}
use mathlib.Core.List.{List}
use Prim.Native.Nat.{ℕ, ◌+◌, ◌<◌, ◌≤◌}
use native.Mathlib.Omega.{arith}
use lib.Bits.{bit_xor}
use lib.ListN.{get_or, set}
use Rattle.algebra.specs.Sums.{◌⊕◌}
use Rattle.buffers.specs.Parts.{added, put, Sum, Apart}
use Rattle.buffers.proofs.Writes.{writes_same, writes_join}
use Rattle.buffers.proofs.Added.{added_writes, added_above, added-below, added_more, added-same}
use Rattle.buffers.proofs.Put.{put_writes, from_zero}

-- the sums, put where they belong
pub put-sums : {d : List ℕ} {at : ℕ} {s : List ℕ} {from n : ℕ} {t k : List ℕ} → Sum d at s from n t → k ≡ put d at t 0 n → k ≡ added d at s from n
put-sums {d} {at} {s} {from} {n} {t} h e = e ∙ writes_same (put_writes d at t 0) (added_writes d at s from) n (λ b g. from_zero t b ∙ h.each b g)

-- n bytes were added, and then m more
pub added-join : (d : List ℕ) (at : ℕ) (s : List ℕ) (from n m : ℕ) → added (added d at s from n) (at + n) s (from + n) m ≡ added d at s from (n + m)
added-join d at s from n m =
    writes_join (added_writes d at s from) n (added_writes (added d at s from n) (at + n) s (from + n)) m
    (λ b h.
    let a : at + n + b ≡ at + (n + b) = omega arith in
    let f : from + n + b ≡ from + (n + b) = omega arith in
    ap₂ ◌⊕◌ (added_above d at s from n (at + n + b) (omega arith) ∙ ap (λ (k : ℕ). get_or d k 0) a) (ap (λ (k : ℕ). get_or s k 0) f))

-- one chunk more: n bytes were added, and then the next m
pub chunk : (d : List ℕ) (at : ℕ) (s : List ℕ) (from n m : ℕ) (l k : List ℕ) → l ≡ added d at s from n → k ≡ added l (at + n) s (from + n) m
    → k ≡ added d at s from (n + m)
chunk d at s from n m l k e p = p ∙ ap (λ (x : List ℕ). added x (at + n) s (from + n) m) e ∙ added-join d at s from n m

-- ---- where the bytes that are added stand in the same buffer

-- parts of such parts are apart too
pub apart_part : (at from len i n : ℕ) → i + n ≤ len → Apart at from len → Apart (at + i) (from + i) n
apart_part at from len i n g h = record { either = ⊎_elim (λ a. inl (omega arith)) (λ a. inr (omega arith)) h.either }

module _ (d : List ℕ) (at from : ℕ) where
  -- those that are added are still as they were
  pub kept_apart : (n i : ℕ) → Apart at from n → i ≤ n → (b : ℕ) → b < n → get_or (added d at d from i) (from + b) 0 ≡ get_or d (from + b) 0
  kept_apart n i h g b k =
      ⊎_elim (λ a. added-below d at d from i (from + b) (omega arith)) (λ a. added_above d at d from i (from + b) (omega arith)) h.either

  -- one byte more
  pub within_more : (len n : ℕ) (l : List ℕ) → Apart at from len → n < len → l ≡ added d at d from n
      → set l (at + n) (bit_xor (get_or l (at + n) 0) (get_or l (from + n) 0)) ≡ added d at d from (n + 1)
  within_more len n l h g e =
      added_more d at d from n l e (get_or l (from + n) 0) (ap (λ (x : List ℕ). get_or x (from + n) 0) e ∙ kept_apart len n h (omega arith) n g)

  -- one chunk more
  pub within_chunk : (len n m : ℕ) (l k : List ℕ) → Apart at from len → n + m ≤ len → l ≡ added d at d from n → k ≡ added l (at + n) l (from + n) m
      → k ≡ added d at d from (n + m)
  within_chunk len n m l k h g e p =
      chunk d at d from n m l k e
      (p ∙ added-same l (at + n) l (from + n) d (from + n) m
      (λ b q.
      let c : from + n + b ≡ from + (n + b) = omega arith in
      ap (λ (x : List ℕ). get_or x (from + n + b) 0) e ∙ ap (λ (j : ℕ). get_or (added d at d from n) j 0) c
      ∙ kept_apart len n h (omega arith) (n + b) (omega arith) ∙ ap (λ (j : ℕ). get_or d j 0) (sym c)))
