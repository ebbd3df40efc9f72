-- What adding n bytes at a place does to each byte.
-- Assumes nothing.
use mathlib.Core.Path.{◌≡◌, refl, ap, ap₂, ◌∙◌}
use mathlib.Core.Logic.{◌≢◌}
use mathlib.Core.List.{List}
use Prim.Native.Nat.{ℕ, ◌+◌, ◌<◌, ◌≤◌}
use native.Mathlib.Omega.{arith}
use lib.Bits.{bit_xor}
use lib.ListN.{length, get_or, set}
use Rattle.algebra.specs.Sums.{◌⊕◌}
use Rattle.buffers.specs.Parts.{added}
use Rattle.buffers.proofs.Writes.{Writes, writes_length, writes_out, writes_in, writes_more, writes_same}

module _ (d : List ℕ) (at : ℕ) (s : List ℕ) (from : ℕ) where
  pub added_writes : Writes d at (λ b. get_or d (at + b) 0 ⊕ get_or s (from + b) 0) (added d at s from)
  unfolding added
  added_writes = record { none = refl; next = λ n. refl }

  pub added-length : (n : ℕ) → length (added d at s from n) ≡ length d
  added-length = writes_length added_writes

  pub added_out : (n t : ℕ) → ((b : ℕ) → b < n → t ≢ at + b) → get_or (added d at s from n) t 0 ≡ get_or d t 0
  added_out = writes_out added_writes

  pub added-below : (n t : ℕ) → t < at → get_or (added d at s from n) t 0 ≡ get_or d t 0
  added-below n t h = added_out n t (λ b g e. omega arith)

  pub added_above : (n t : ℕ) → at + n ≤ t → get_or (added d at s from n) t 0 ≡ get_or d t 0
  added_above n t h = added_out n t (λ b g e. omega arith)

  pub added_in : (n b : ℕ) → b < n → at + n ≤ length d → get_or (added d at s from n) (at + b) 0 ≡ get_or d (at + b) 0 ⊕ get_or s (from + b) 0
  added_in = writes_in added_writes

  -- one byte more
  pub added_more : (n : ℕ) (l : List ℕ) → l ≡ added d at s from n → (y : ℕ) → y ≡ get_or s (from + n) 0
      → set l (at + n) (bit_xor (get_or l (at + n) 0) y) ≡ added d at s from (n + 1)
  unfolding ◌⊕◌
  added_more n l e y hy =
      writes_more added_writes n l _ e (ap₂ bit_xor (ap (λ (k : List ℕ). get_or k (at + n) 0) e ∙ added_above n (at + n) (omega arith)) hy)

  -- as many as were asked for
  pub added_all : (n w : ℕ) (l : List ℕ) → l ≡ added d at s from n → n ≡ w → l ≡ added d at s from w
  added_all n w l e h = e ∙ ap (added d at s from) h

-- only the bytes that are added matter, not where they stand
pub added-same : (d : List ℕ) (to : ℕ) (s : List ℕ) (from : ℕ) (t : List ℕ) (at n : ℕ) → ((b : ℕ) → b < n → get_or s (from + b) 0 ≡ get_or t (at + b) 0)
    → added d to s from n ≡ added d to t at n
added-same d to s from t at n e = writes_same (added_writes d to s from) (added_writes d to t at) n (λ b h. ap (◌⊕◌ (get_or d (to + b) 0)) (e b h))
