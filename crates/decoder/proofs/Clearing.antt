-- Clearing a block's missing positions one after the other.
-- Assumes nothing.
use mathlib.Core.Path.{◌≡◌, refl, sym, ap, ◌∙◌, subst}
use mathlib.Core.Logic.{◌≢◌}
use mathlib.Core.Bool.{Bool, true, false, not, ◌&&◌, cond, false≢true}
use mathlib.Core.List.{List}
use Prim.Native.Nat.{ℕ, ◌+◌, ◌*◌, ◌<◌, ◌≤◌}
use native.Mathlib.Decide.{ℕ_discrete, dec_lt}
use native.Mathlib.Omega.{arith}
use lib.Dec.{eqb, ltb}
use lib.ListN.{length, get_or, set}
use lib.Seq.{get_or-set_same, get_or-set_other}
use borrow.Author.Tests.{lt-ltb, le-ltb, eq-eqb, ne_eqb}
use Rattle.algebra.specs.Codeword.{byte_at}
use Rattle.peeling.specs.States.{is_known}
use Rattle.algebra.proofs.Codeword.{slot}
use Rattle.decoder.specs.MissingPositions.{missing, Cleared}
use Rattle.peeling.proofs.Zeroing.{zeros_at}
use Rattle.peeling.proofs.SymbolLaws.{replaced_other, zero-symbol}

-- i positions have been gone over, and the buffers are as long as they were
pub record Upto (symbols states symbols' states' : List ℕ) (i : ℕ) : Type 0 where
  pub to : i ≤ length states
  pub symbols-size : length symbols' ≡ length symbols
  pub states-size : length states' ≡ length states

pub upto_more : {symbols states s k s' k' : List ℕ} {i : ℕ} → Upto symbols states s k i → i < length states → length s' ≡ length s → length k' ≡ length k
    → Upto symbols states s' k' (i + 1)
upto_more u h e f = record { to = omega arith; symbols-size = e ∙ u.symbols-size; states-size = f ∙ u.states-size }

-- below i and below i + 1 are the same but at i
wider : (i p : ℕ) → p ≢ i → ltb p i ≡ ltb p (i + 1)
wider i p d = go (dec_lt p i)
  where
    go : Dec (p < i) → ltb p i ≡ ltb p (i + 1)
    go (yes h) = lt-ltb p i h ∙ sym (lt-ltb p (i + 1) (omega arith))
    go (no h) = le-ltb p i (omega arith) ∙ sym (le-ltb p (i + 1) (omega arith))

-- position i cleared next
module _ (n w : ℕ) (s states x k : List ℕ) (i : ℕ) (h : i < n) (sx : length x ≡ n * w) (sk : length k ≡ n) (C : Cleared w s states x k i) where
  at-state : get_or k i 0 ≡ get_or states i 0
  at-state = C.state i ∙ rw (le-ltb i i (omega arith))

  at_byte : (b : ℕ) → b < w → byte_at w x b i ≡ byte_at w s b i
  at_byte b l = C.byte i b l ∙ rw (le-ltb i i (omega arith))

  now_known : is_known k i ≡ is_known states i
  unfolding is_known
  now_known = ap (λ (v : ℕ). eqb v 1) at-state

  -- other positions stay
  other : (p : ℕ) → p ≢ i → (v : ℕ) → cond (missing states i p) 0 v ≡ cond (missing states (i + 1) p) 0 v
  other p d v = ap (λ (t : Bool). cond (t && not (is_known states p)) 0 v) (wider i p d)

  -- every position, from what stands at position i and what stands elsewhere
  each : (x' k' : List ℕ) → get_or k' i 0 ≡ cond (missing states (i + 1) i) 0 (get_or states i 0)
      → ((b : ℕ) → b < w → byte_at w x' b i ≡ cond (missing states (i + 1) i) 0 (byte_at w s b i))
      → ((p : ℕ) → p ≢ i → get_or k' p 0 ≡ get_or k p 0) → ((p b : ℕ) → p ≢ i → b < w → byte_at w x' b p ≡ byte_at w x b p)
      → Cleared w s states x' k' (i + 1)
  each x' k' m' b' mo bo = record { state = λ p. state-at p (ℕ_discrete p i); byte = λ p b l. byte-at p b l (ℕ_discrete p i) }
    where
      state-at : (p : ℕ) → Dec (p ≡ i) → get_or k' p 0 ≡ cond (missing states (i + 1) p) 0 (get_or states p 0)
      state-at p (yes e) = subst (λ (q : ℕ). get_or k' q 0 ≡ cond (missing states (i + 1) q) 0 (get_or states q 0)) (sym e) m'
      state-at p (no d) = mo p d ∙ C.state p ∙ other p d (get_or states p 0)

      byte-at : (p b : ℕ) → b < w → Dec (p ≡ i) → byte_at w x' b p ≡ cond (missing states (i + 1) p) 0 (byte_at w s b p)
      byte-at p b l (yes e) = subst (λ (q : ℕ). byte_at w x' b q ≡ cond (missing states (i + 1) q) 0 (byte_at w s b q)) (sym e) (b' b l)
      byte-at p b l (no d) = bo p b d l ∙ C.byte p b l ∙ other p d (byte_at w s b p)

  step : (a : Bool) → is_known states i ≡ a → Cleared w s states (cond a x (zeros_at x (i * w) w)) (cond a k (set k i 0)) (i + 1)
  step true t = each x k (at-state ∙ rw stays) (λ b l. at_byte b l ∙ rw stays) (λ p d. refl) (λ p b d l. refl)
    where
      stays : missing states (i + 1) i ≡ false
      stays = rw (lt-ltb i (i + 1) (omega arith), t)
  step false t =
      let z = zero-symbol x i w (omega (arith, slot i n w h)) in
      each (zeros_at x (i * w) w) (set k i 0) (get_or-set_same k i 0 0 (omega arith) ∙ rw gone)
      (λ b l. z.each b l ∙ rw gone)
      (λ p d. get_or-set_other k i p 0 0 d) (λ p b d l. replaced_other z p b d l)
    where
      gone : missing states (i + 1) i ≡ true
      gone = rw (lt-ltb i (i + 1) (omega arith), t)

  pub cleared_more : (x' k' : List ℕ) → x' ≡ cond (is_known k i) x (zeros_at x (i * w) w) → k' ≡ cond (is_known k i) k (set k i 0) → Cleared w s states x' k' (i + 1)
  cleared_more x' k' e f = rw (e, f, now_known) (step (is_known states i) refl)

-- ---- one position, as the code has it

pub known-one : (states : List ℕ) (i : ℕ) → get_or states i 0 ≡ 1 → is_known states i ≡ true
unfolding is_known
known-one states i e = eq-eqb (get_or states i 0) 1 e

pub known-not : (states : List ℕ) (i : ℕ) → (get_or states i 0 ≡ 1 → ⊥) → is_known states i ≡ false
unfolding is_known
known-not states i e = ne_eqb (get_or states i 0) 1 e

pub stays : (a : Bool) (x y : List ℕ) → a ≡ true → x ≡ cond a x y
stays true x y e = refl
stays false x y e = absurd (false≢true e)

pub goes : (a : Bool) (x y : List ℕ) → a ≡ false → y ≡ cond a x y
goes true x y e = absurd (false≢true (sym e))
goes false x y e = refl
