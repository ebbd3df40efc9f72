-- What putting n bytes at a place does to each byte.
-- Assumes nothing.
use mathlib.Core.Path.{◌≡◌, refl, ap, ap₂, ◌∙◌}
use mathlib.Core.Logic.{◌≢◌}
use mathlib.Core.List.{List}
use Prim.Native.Nat.{ℕ, zero, suc, ◌+◌, ◌<◌, ◌≤◌}
use native.Mathlib.Nat.{zero-add, add_assoc}
use native.Mathlib.Omega.{arith}
use lib.ListN.{length, get_or, set}
use lib.Seq.{paste, paste-zero, paste-suc}
use Rattle.buffers.specs.Parts.{put, Part}
use Rattle.buffers.proofs.Writes.{Writes, writes_length, writes_out, writes_in, writes_more, writes_join}

-- bytes from index 0 on
pub from_zero : (t : List ℕ) (b : ℕ) → get_or t (0 + b) 0 ≡ get_or t b 0
from_zero t b = ap (λ (i : ℕ). get_or t i 0) (zero-add b)

module _ (d : List ℕ) (at : ℕ) (s : List ℕ) (from : ℕ) where
  pub put_writes : Writes d at (λ b. get_or s (from + b) 0) (put d at s from)
  unfolding put
  put_writes = record { none = refl; next = λ n. refl }

  pub put-length : (n : ℕ) → length (put d at s from n) ≡ length d
  put-length = writes_length put_writes

  pub put_out : (n t : ℕ) → ((b : ℕ) → b < n → t ≢ at + b) → get_or (put d at s from n) t 0 ≡ get_or d t 0
  put_out = writes_out put_writes

  pub put_in : (n b : ℕ) → b < n → at + n ≤ length d → get_or (put d at s from n) (at + b) 0 ≡ get_or s (from + b) 0
  put_in = writes_in put_writes

  -- one byte more
  pub put-more : (n : ℕ) (l : List ℕ) → l ≡ put d at s from n → (y : ℕ) → y ≡ get_or s (from + n) 0 → set l (at + n) y ≡ put d at s from (n + 1)
  put-more n l e y hy = writes_more put_writes n l y e hy

-- n bytes were put, and then m more, wherever these are read
put-join : (d : List ℕ) (at : ℕ) (s : List ℕ) (from n m : ℕ) (t : List ℕ) (a : ℕ) {l k : List ℕ} → l ≡ put d at s from n
    → ((b : ℕ) → b < m → get_or t (a + b) 0 ≡ get_or s (from + n + b) 0) → k ≡ put l (at + n) t a m → k ≡ put d at s from (n + m)
put-join d at s from n m t a e h p =
    p ∙ ap (λ (x : List ℕ). put x (at + n) t a m) e
    ∙ writes_join (put_writes d at s from) n (put_writes (put d at s from n) (at + n) t a) m (λ b q. h b q ∙ ap (λ (i : ℕ). get_or s i 0) (add_assoc from n b))

-- one chunk more, which was read before
pub put_chunk : (d : List ℕ) (at : ℕ) (s : List ℕ) (from n m : ℕ) {t l k : List ℕ} → l ≡ put d at s from n → Part s (from + n) m t → k ≡ put l (at + n) t 0 m
    → k ≡ put d at s from (n + m)
put_chunk d at s from n m {t} e h p = put-join d at s from n m t 0 e (λ b q. from_zero t b ∙ h.each b q) p

-- the same by parts of lists
pub put-paste : (d : List ℕ) (at : ℕ) (s : List ℕ) (n : ℕ) → at + n ≤ length d → n ≤ length s → put d at s 0 n ≡ paste d at s n
unfolding put
put-paste d at s zero hd hs = paste-zero d at s
put-paste d at s (suc n) hd hs =
    ap₂ (λ (l : List ℕ) (v : ℕ). set l (at + n) v) (put-paste d at s n (omega arith) (omega arith)) (from_zero s n)
    ∙ paste-suc d at s n 0 (omega arith) (omega arith)
