-- A part of a list that is put back as zeros.
-- Assumes nothing.
use Rattle.std.proofs.Common.{◌≡◌, ℕ, ◌+◌, ◌<◌, ◌≤◌, ◌⊎◌, List, ◌++◌, length, get_or, take, drop, replicate, sym, ap, ◌∙◌, ⊎_elim, append_assoc, le_of_eq, arith, length-drop, length-take-le, drop-drop}
use lib.ListN.{length-replicate, get_or-replicate}
use lib.Seq.{take-length}
use Rattle.buffers.specs.Parts.{put}
use Rattle.buffers.proofs.Put.{put-length, put-paste, put_in, put_out, from_zero}

-- s with w zeros from index a on
abbrev pub zeros_at : List ℕ → ℕ → ℕ → List ℕ
zeros_at s a w = put s a (replicate w 0) 0 w

module _ (s : List ℕ) (a w : ℕ) where
  pub zeros_size : length (zeros_at s a w) ≡ length s
  zeros_size = put-length s a (replicate w 0) 0 w

  pub zeros_in : a + w ≤ length s → (b : ℕ) → b < w → get_or (zeros_at s a w) (a + b) 0 ≡ 0
  zeros_in h b l = put_in s a (replicate w 0) 0 w b l h ∙ from_zero (replicate w 0) b ∙ get_or-replicate w b 0 0 l

  pub zeros_out : (t : ℕ) → (t < a) ⊎ (a + w ≤ t) → get_or (zeros_at s a w) t 0 ≡ get_or s t 0
  zeros_out t o = put_out s a (replicate w 0) 0 w t (λ b l e. ⊎_elim (λ lo. omega arith) (λ hi. omega arith) o)

-- as the code puts them, where k is spelled a + w - a
pub zeroed : (s z : List ℕ) (a k w : ℕ) → k ≡ w → a + w ≤ length s → z ≡ replicate (length (take k (drop a s))) 0
    → take a s ++ (z ++ drop k (drop a s)) ≡ zeros_at s a w
zeroed s z a k w q h e =
    let zeros : List ℕ = replicate w 0 in
    let n : length zeros ≡ w = length-replicate {A = ℕ} w 0 in
    let l : length (take w (drop a s)) ≡ w = length-take-le w (drop a s) (rw length-drop (omega arith)) in
    let t : take w zeros ≡ zeros = ap (λ (m : ℕ). take m zeros) (sym n) ∙ take-length zeros in
    rw (e, q, l, drop-drop w a s, put-paste s a zeros w h (le_of_eq (sym n)), t, append_assoc)
