-- Symbols of a buffer of which one was replaced.
-- Assumes nothing.
use Rattle.std.proofs.Common.{◌≡◌, ℕ, ◌+◌, ◌-◌, ◌*◌, ◌<◌, ◌≤◌, ◌≢◌, ◌⊎◌, List, ◌++◌, length, take, drop, replicate, ◌∙◌, inl, inr, arith}
use native.Mathlib.Decide.{dec_lt}
use Rattle.algebra.specs.Codeword.{byte_at}
use Rattle.algebra.proofs.Codeword.{slot}
use Rattle.symbol_sums.specs.Gather.{Replaced}
use Rattle.peeling.proofs.Zeroing.{zeros_at, zeros_size, zeros_in, zeros_out, zeroed}

pub replaced_by : {f g : ℕ → ℕ} {w x : ℕ} {s s' : List ℕ} → ((b : ℕ) → f b ≡ g b) → Replaced f w x s s' → Replaced g w x s s'
replaced_by e h = record { size = h.size; outside = h.outside; each = λ b l. h.each b l ∙ e b }

-- the other symbols stay
pub replaced_other : {f : ℕ → ℕ} {w x : ℕ} {s s' : List ℕ} → Replaced f w x s s' → (p b : ℕ) → p ≢ x → b < w → byte_at w s' b p ≡ byte_at w s b p
replaced_other {f} {w} {x} R p b d h = R.outside (p * w + b) (go (dec_lt p x))
  where
    go : Dec (p < x) → (p * w + b < x * w) ⊎ (x * w + w ≤ p * w + b)
    go (yes l) = inl (omega (arith, slot p x w l))
    go (no l) = let g : x < p = omega arith in inr (omega (arith, slot x p w g))

-- symbol x becomes zero
module _ (s : List ℕ) (x w : ℕ) (h : x * w + w ≤ length s) where
  pub zero-symbol : Replaced (λ b. 0) w x s (zeros_at s (x * w) w)
  zero-symbol = record { size = zeros_size s (x * w) w; outside = zeros_out s (x * w) w; each = zeros_in s (x * w) w h }

  -- as the code puts a cleared part back
  pub zeroed_symbol : (z : List ℕ) → z ≡ replicate (length (take (x * w + w - x * w) (drop (x * w) s))) 0
      → take (x * w) s ++ (z ++ drop (x * w + w - x * w) (drop (x * w) s)) ≡ zeros_at s (x * w) w
  zeroed_symbol z e = zeroed s z (x * w) (x * w + w - x * w) w (omega arith) h e
