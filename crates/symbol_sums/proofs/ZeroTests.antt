-- Tests of whether sums are all zero, in chunks of 16 bytes.
-- Assumes nothing.
use mathlib.Core.Path.{◌≡◌, refl, sym, ap, ◌∙◌, subst}
use mathlib.Core.Logic.{◌≢◌}
use mathlib.Core.Bool.{Bool, true, false, not, false≢true}
use mathlib.Core.List.{List}
use Prim.Native.Nat.{ℕ, ◌+◌, ◌-◌, ◌<◌, ◌≤◌}
use native.Mathlib.Nat.{not-suc-le-zero}
use native.Mathlib.Decide.{dec_lt, ℕ_discrete}
use native.Mathlib.Omega.{arith}
use lib.Bits.{bit_or, or_zero_l}
use lib.ListN.{get_or}
use Rattle.algebra.specs.Codeword.{byte_at}
use Rattle.algebra.proofs.Sums as sums
use Rattle.buffers.specs.AllZero.{AllZeroIs}
use Rattle.symbol_sums.specs.declared.chunk.Chunk64.{Chunk64}
use Rattle.symbol_sums.specs.Gather.{gathered, summed, Chunk16Is, CancelIs, Or16, ZeroIs}
use Rattle.symbol_sums.specs.Chunks.{Chunk64Is}
use Rattle.buffers.proofs.AllZeroLaws.{or_none}
use Rattle.buffers.proofs.Put.{from_zero}

-- t, of 16 bytes, is all zeros just where f is zero at from, .., to - 1
record Decides (f : ℕ → ℕ) (from to : ℕ) (t : List ℕ) : Type 0 where
  none : ((i : ℕ) → i < 16 → get_or t i 0 ≡ 0) → (b : ℕ) → from ≤ b → b < to → f b ≡ 0
  some : (i : ℕ) → i < 16 → get_or t i 0 ≢ 0 → (b : ℕ) × ((from ≤ b) × ((b < to) × (f b ≢ 0)))

decides_chunk : {f : ℕ → ℕ} {c : ℕ} {t : List ℕ} → Chunk16Is f c t → Decides f c (c + 16) t
decides_chunk {f} {c} {t} h = record {
  none = λ z b l₁ l₂.
      let e : c + (b - c) ≡ b = omega arith in
      let g : b - c < 16 = omega arith in
      ap f (sym e) ∙ sym (h.each (b - c) g) ∙ z (b - c) g;
  some = λ i l d. (c + i, (omega arith, (omega arith, λ q. d (h.each i l ∙ q))));
}

-- the bitwise or of two
decides_or : (f : ℕ → ℕ) (from mid to : ℕ) {t u r : List ℕ} → from ≤ mid → mid ≤ to → Decides f from mid t → Decides f mid to u → Or16 t u r → Decides f from to r
decides_or f from mid to {t} {u} {r} l₁ l₂ a c j = record { none = none; some = some }
  where
    left : (i : ℕ) → i < 16 → get_or r i 0 ≡ 0 → get_or t i 0 ≡ 0
    left i l e = or_none (get_or t i 0) (get_or u i 0) (sym (j.each i l) ∙ e)

    right : (i : ℕ) → i < 16 → get_or t i 0 ≡ 0 → get_or r i 0 ≡ get_or u i 0
    right i l e = j.each i l ∙ ap (λ (x : ℕ). bit_or x (get_or u i 0)) e ∙ or_zero_l (get_or u i 0)

    none : ((i : ℕ) → i < 16 → get_or r i 0 ≡ 0) → (b : ℕ) → from ≤ b → b < to → f b ≡ 0
    none z b g₁ g₂ = go (dec_lt b mid)
      where
        go : Dec (b < mid) → f b ≡ 0
        go (yes d) = a.none (λ i l. left i l (z i l)) b g₁ d
        go (no d) = c.none (λ i l. sym (right i l (left i l (z i l))) ∙ z i l) b (omega arith) g₂

    some : (i : ℕ) → i < 16 → get_or r i 0 ≢ 0 → (b : ℕ) × ((from ≤ b) × ((b < to) × (f b ≢ 0)))
    some i l d = go (ℕ_discrete (get_or t i 0) 0)
      where
        go : Dec (get_or t i 0 ≡ 0) → (b : ℕ) × ((from ≤ b) × ((b < to) × (f b ≢ 0)))
        go (yes e) = let s = c.some i l (λ q. d (right i l e ∙ q)) in (s.0, (omega (arith, s.1.0), (s.1.1.0, s.1.1.1)))
        go (no e) = let s = a.some i l e in (s.0, (s.1.0, (omega (arith, s.1.1.0), s.1.1.1)))

-- its answer
decides_is : {f : ℕ → ℕ} {from to : ℕ} {t : List ℕ} → Decides f from to t → (r : Bool) → AllZeroIs t 0 16 r → ZeroIs f from to r
decides_is {t = t} h true z = h.none (λ i l. sym (from_zero t i) ∙ z i l)
decides_is {t = t} h false z = h.some z.0 z.1.0 (λ e. z.1.1 (from_zero t z.0 ∙ e))

pub zero_16 : {f : ℕ → ℕ} {c : ℕ} {t : List ℕ} → Chunk16Is f c t → (r : Bool) → AllZeroIs t 0 16 r → ZeroIs f c (c + 16) r
zero_16 h r z = decides_is (decides_chunk h) r z

pub zero_64 : {f : ℕ → ℕ} {c : ℕ} {s : Chunk64} {x y a : List ℕ} → Chunk64Is f c s → Or16 s.a s.b x → Or16 s.c s.d y → Or16 x y a
    → (r : Bool) → AllZeroIs a 0 16 r → ZeroIs f c (c + 64) r
zero_64 {f} {c} {s} h j₁ j₂ j₃ r q =
    decides_is
    (decides_or f c (c + 32) (c + 64) (omega arith) (omega arith)
    (decides_or f c (c + 16) (c + 32) (omega arith) (omega arith) (decides_chunk h.first) (at s.b (c + 16) (c + 32) (omega arith) (decides_chunk h.second)) j₁)
    (decides_or f (c + 32) (c + 48) (c + 64) (omega arith) (omega arith) (at s.c (c + 32) (c + 48) (omega arith) (decides_chunk h.third))
    (at s.d (c + 48) (c + 64) (omega arith) (decides_chunk h.fourth)) j₂) j₃) r q
  where
    at : (l : List ℕ) (from to : ℕ) → from + 16 ≡ to → Decides f from (from + 16) l → Decides f from to l
    at l from to e s = subst (λ (k : ℕ). Decides f from k l) e s

-- ---- the turns of a loop: f is zero below c

module _ (f : ℕ → ℕ) (c from to : ℕ) where
  -- and so it is in the next part
  pub zero_more : (r : Bool) → ((b : ℕ) → b < c → f b ≡ 0) → from ≤ c → ZeroIs f from to r → not r ≡ false → (b : ℕ) → b < to → f b ≡ 0
  zero_more false h l z e = absurd (false≢true (sym e))
  zero_more true h l z e = λ b g. go b g (dec_lt b c)
    where
      go : (b : ℕ) → b < to → Dec (b < c) → f b ≡ 0
      go b g (yes d) = h b d
      go b g (no d) = z b (omega arith) g

  -- and in the next part it is not
  pub zero-not : (w : ℕ) (r : Bool) → ZeroIs f from to r → not r ≡ true → to ≤ w → ZeroIs f 0 w false
  zero-not w true z e l = absurd (false≢true e)
  zero-not w false z e l = (z.0, (omega arith, (omega (arith, z.1.1.0), z.1.1.1)))

  -- the last part's answer is that for all
  pub zero-last : (w : ℕ) → ((b : ℕ) → b < c → f b ≡ 0) → from ≤ c → to ≡ w → (r : Bool) → ZeroIs f from to r → ZeroIs f 0 w r
  zero-last w h l e true z = λ b g₁ g₂. zero_more true h l z refl b (omega arith)
  zero-last w h l e false z = zero-not w false z refl (omega arith)

-- as far as two parts reach, one after the other
pub zero_two : (f : ℕ → ℕ) (from to mid : ℕ) (a b : Bool) → ZeroIs f 0 to a → not a ≡ false → from ≤ to → ZeroIs f from mid b → not b ≡ false
    → (k : ℕ) → k < mid → f k ≡ 0
zero_two f from to mid a b h e l z q = zero_more f to from mid b (λ k g. zero_more f 0 0 to a (λ m g'. absurd (not-suc-le-zero g')) (omega arith) h e k g) l z q

-- up to the same byte
pub zero_to : (f : ℕ → ℕ) (from : ℕ) {to to' : ℕ} (r : Bool) → to ≡ to' → ZeroIs f from to r → ZeroIs f from to' r
zero_to f from r e z = subst (λ (k : ℕ). ZeroIs f from k r) e z

pub cancel_is : (w : ℕ) (src xs : List ℕ) (n : ℕ) (r : Bool) → ZeroIs (summed (λ b. 0) w src xs n) 0 w r → CancelIs w src xs n r
unfolding summed
cancel_is w src xs n true z = λ b l. sym (sums.unit_l (gathered (byte_at w src b) xs n)) ∙ z b (omega arith) l
cancel_is w src xs n false z = (z.0, (z.1.1.0, λ e. z.1.1.1 (sums.unit_l (gathered (byte_at w src z.0) xs n) ∙ e)))
