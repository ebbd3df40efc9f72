-- The first n of a list of positions: what callers need that keep positions in an array, and pass a part of it.
-- Assumes nothing.
use mathlib.Core.Path.{◌≡◌, refl, sym, ap, ◌∙◌}
use mathlib.Core.Logic.{◌≢◌}
use mathlib.Core.Bool.{Bool, true, false}
use mathlib.Core.List.{List}
use Prim.Native.Nat.{ℕ, zero, suc, ◌-◌, ◌+◌, ◌*◌, ◌<◌, ◌≤◌}
use native.Mathlib.Nat.{not-suc-le-zero}
use native.Mathlib.Omega.{arith}
use lib.ListN.{length, get_or, take}
use Rattle.std.proofs.lemmas.List.{get_or-take, length-take-le}
use Rattle.std.specs.Prelude.{Some, None, IfSome, SomeIff}
use Rattle.std.specs.declared.option.Option.{Option}
use Rattle.algebra.specs.Sums.{◌⊕◌}
use Rattle.algebra.specs.Codeword.{byte_at}
use Rattle.algebra.specs.Staircase.{before}
use Rattle.algebra.proofs.Sums as sums
use Rattle.symbol_sums.specs.Gather.{gathered, byte_before, Inside, Replaced, CancelIs}

-- what is within a buffer
pub inside_front : (xs : List ℕ) (n : ℕ) {w bytes : ℕ} → n ≤ length xs → ((i : ℕ) → i < n → get_or xs i 0 * w + w ≤ bytes) → Inside (take n xs) w bytes
inside_front xs n {w} few h = record {
  each = λ i l.
      let g : i < n = omega (arith, l, length-take-le n xs few) in
      omega (arith, h i g, ap (λ (x : ℕ). x * w) (get_or-take n xs i 0 g));
}

-- what is none of them
pub none_front : (xs : List ℕ) (n : ℕ) {p : ℕ} → n ≤ length xs → ((i : ℕ) → i < n → get_or xs i 0 ≢ p) → (i : ℕ) → i < length (take n xs) → get_or (take n xs) i 0 ≢ p
none_front xs n few h i l e = let g : i < n = omega (arith, l, length-take-le n xs few) in h i g (sym (get_or-take n xs i 0 g) ∙ e)

-- the sum of u at them
pub gathered_front : (u : ℕ → ℕ) (xs : List ℕ) (n : ℕ) → n ≤ length xs → gathered u (take n xs) (length (take n xs)) ≡ gathered u xs n
gathered_front u xs n few =
    ap (gathered u (take n xs)) (length-take-le n xs few)
    ∙ sums.sum_ext (λ i. true) (λ i. u (get_or (take n xs) i 0)) (λ i. u (get_or xs i 0)) n (λ i l. ap u (get_or-take n xs i 0 l))

replaced_same : {f g : ℕ → ℕ} {w j : ℕ} {p p' : List ℕ} → ((b : ℕ) → f b ≡ g b) → Replaced f w j p p' → Replaced g w j p p'
replaced_same e h = record { size = h.size; outside = h.outside; each = λ b l. h.each b l ∙ e b }

-- the symbol before j, as `j.checked_sub(1)` has it
pub before_lt : (j : ℕ) (prev : Option ℕ) → SomeIff prev (1 ≤ j) (j - 1) → IfSome prev (λ i. i < j)
before_lt j None e = tt
before_lt j (Some i) e = omega (arith, e.0, e.1)

before_is : (w : ℕ) (p : List ℕ) (b j : ℕ) (prev : Option ℕ) → SomeIff prev (1 ≤ j) (j - 1) → byte_before w p prev b ≡ before (byte_at w p b) j
before_is w p b zero None e = refl
before_is w p b (suc j) None e = absurd (e (omega arith))
before_is w p b zero (Some i) e = absurd (not-suc-le-zero e.0)
before_is w p b (suc j) (Some i) e = let g : i ≡ j = omega (arith, e.1) in ap (byte_at w p b) g

-- what put_sum, restore and cancels say of them
module _ (xs : List ℕ) (n w : ℕ) (few : n ≤ length xs) where
  pub put_front : (prev : Option ℕ) (src : List ℕ) {j : ℕ} {p p' : List ℕ}
      → Replaced (λ b. byte_before w p prev b ⊕ gathered (byte_at w src b) (take n xs) (length (take n xs))) w j p p'
      → Replaced (λ b. byte_before w p prev b ⊕ gathered (byte_at w src b) xs n) w j p p'
  put_front prev src {p = p} h = replaced_same (λ b. ap (◌⊕◌ (byte_before w p prev b)) (gathered_front (byte_at w src b) xs n few)) h

  -- where the symbol before is j - 1, if there is one
  pub put_front_before : (j : ℕ) (prev : Option ℕ) (src : List ℕ) {i : ℕ} {p p' : List ℕ} → SomeIff prev (1 ≤ j) (j - 1)
      → Replaced (λ b. byte_before w p prev b ⊕ gathered (byte_at w src b) (take n xs) (length (take n xs))) w i p p'
      → Replaced (λ b. before (byte_at w p b) j ⊕ gathered (byte_at w src b) xs n) w i p p'
  put_front_before j prev src {p = p} e h =
      replaced_same (λ b. ap (λ (v : ℕ). v ⊕ gathered (byte_at w src b) xs n) (before_is w p b j prev e)) (put_front prev src h)

  pub restore_front : {j : ℕ} {p p' : List ℕ} → Replaced (λ b. gathered (byte_at w p b) (take n xs) (length (take n xs))) w j p p'
      → Replaced (λ b. gathered (byte_at w p b) xs n) w j p p'
  restore_front {p = p} h = replaced_same (λ b. gathered_front (byte_at w p b) xs n few) h

  pub cancel_front : (src : List ℕ) (r : Bool) → CancelIs w src (take n xs) (length (take n xs)) r → CancelIs w src xs n r
  cancel_front src true h = λ b l. sym (gathered_front (byte_at w src b) xs n few) ∙ h b l
  cancel_front src false h = (h.0, (h.1.0, λ e. h.1.1 (gathered_front (byte_at w src h.0) xs n few ∙ e)))
