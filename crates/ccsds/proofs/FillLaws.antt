-- Idle positions are those from fill to k - 1, and the information part of a block has k symbols.
-- Assumes nothing.
use mathlib.Core.Path.{◌≡◌, refl, sym, ap, ◌∙◌}
use mathlib.Core.Bool.{Bool, true, false, ◌&&◌, false≢true}
use mathlib.Core.List.{List}
use Prim.Native.Nat.{ℕ, ◌+◌, ◌-◌, ◌*◌, ◌<◌, ◌≤◌}
use native.Mathlib.Nat.{add-mul}
use native.Mathlib.Decide.{dec_lt}
use native.Mathlib.Omega.{arith}
use lib.Dec.{leb, ltb}
use lib.ListN.{length, length-append, length-replicate}
use borrow.Author.Tests.{lt-ltb, le-ltb, ltb-true, lt-leb, le-leb, leb-true}
use Rattle.algebra.proofs.Lists.{and_iff}
use Rattle.ccsds.specs.Fill.{is_idle, padded}

module _ (k fill i : ℕ) where
  pub idle_in : fill ≤ i → i < k → is_idle k fill i ≡ true
  unfolding is_idle
  idle_in h l = rw (le-leb fill i h, lt-ltb i k l)

  pub idle-not-below : i < fill → is_idle k fill i ≡ false
  unfolding is_idle
  idle-not-below h = rw (lt-leb fill i h)

  pub idle-not_above : k ≤ i → is_idle k fill i ≡ false
  unfolding is_idle
  idle-not_above h = go (leb fill i) (le-ltb i k h)
    where
      go : (b : Bool) {a : Bool} → a ≡ false → b && a ≡ false
      go true e = e
      go false e = refl

  pub idle_range : is_idle k fill i ≡ true → (fill ≤ i) × (i < k)
  unfolding is_idle
  idle_range e = let p = (and_iff (leb fill i) (ltb i k)).0 e in (leb-true fill i p.0, ltb-true i k p.1)

  -- an information position that is not idle
  pub sent_below : is_idle k fill i ≡ false → i < k → i < fill
  sent_below e h = go (dec_lt i fill)
    where
      go : Dec (i < fill) → i < fill
      go (yes l) = l
      go (no l) = absurd (false≢true (sym e ∙ idle_in (omega arith) h))

pub padded-length : (k w fill : ℕ) (u : List ℕ) → fill ≤ k → length u ≡ fill * w → length (padded k w fill u) ≡ k * w
unfolding padded
padded-length k w fill u h l =
    let s : k ≡ fill + (k - fill) = omega arith in
    let e : k * w ≡ fill * w + (k - fill) * w = ap (λ (j : ℕ). j * w) s ∙ add-mul fill (k - fill) w in
    simp (length-append, length-replicate) (omega arith)
