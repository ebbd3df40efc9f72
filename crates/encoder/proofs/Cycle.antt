-- Steps round a circle of q places, and what they do to numbers that are written with a quotient and a remainder.
-- Assumes nothing.
use Rattle.std.proofs.Common.{◌≡◌, ℕ, ◌+◌, ◌-◌, ◌*◌, ◌%◌, ◌<◌, ◌≤◌, sym, ap, ◌∙◌, ⊎_elim, mod-eq_of_lt, add-mul, arith}
use native.Mathlib.Nat.{mod-eq-sub-mod}
use Rattle.algebra.proofs.Codeword.{slot}
use Rattle.ccsds.proofs.Valid.{wrapped}
use Rattle.encoder.specs.inner.Positions.{WithinRow}

module _ (q h s t : ℕ) (hh : h < q) (hs : s < q) (ht : t < q) where
  -- t is s steps on from -h just when s is t steps on from h
  pub there : (q - h + s) % q ≡ t → (h + t) % q ≡ s
  there e = ⊎_elim (λ a. ⊎_elim (λ b. omega arith) (λ b. omega arith) (wrapped q (h + t) (omega arith)))
      (λ a. ⊎_elim (λ b. omega arith) (λ b. omega arith) (wrapped q (h + t) (omega arith))) (wrapped q (q - h + s) (omega arith))

  pub back : (h + t) % q ≡ s → (q - h + s) % q ≡ t
  back e = ⊎_elim (λ a. ⊎_elim (λ b. omega arith) (λ b. omega arith) (wrapped q (h + t) (omega arith)))
      (λ a. ⊎_elim (λ b. omega arith) (λ b. omega arith) (wrapped q (h + t) (omega arith))) (wrapped q (q - h + s) (omega arith))

-- the remainder modulo q * a of a number with quotient n and remainder r by a
pub blocks : (q a n r : ℕ) → n < q + q → r < a → (n * a + r) % (q * a) ≡ n % q * a + r
blocks q a n r h g = ⊎_elim low high (wrapped q n h)
  where
    low : (n < q) × (n % q ≡ n) → (n * a + r) % (q * a) ≡ n % q * a + r
    low l =
        let b : n * a + r < q * a = omega (arith, slot n q a l.0) in
        mod-eq_of_lt b ∙ ap (λ (k : ℕ). k * a + r) (sym l.1)

    high : (q ≤ n) × (n % q + q ≡ n) → (n * a + r) % (q * a) ≡ n % q * a + r
    high l =
        let e : n % q * a + q * a ≡ n * a = sym (add-mul (n % q) q a) ∙ ap (λ (k : ℕ). k * a) l.1 in
        let u : q * a ≤ n * a + r = omega arith in
        let d : n * a + r - q * a ≡ n % q * a + r = omega arith in
        let b : n % q * a + r < q * a = omega (arith, slot (n % q) q a (omega arith)) in
        mod-eq-sub-mod u ∙ ap (λ (k : ℕ). k % (q * a)) d ∙ mod-eq_of_lt b

-- a position i steps further, by one subtraction where the end is reached
module _ (first end q i : ℕ) (h : WithinRow first end q i) where
  low : first + i < end → first + i ≡ end - q + (first + q - end + i) % q
  low l = let s = h.start in let r = h.row in let d = h.step in ⊎_elim (λ a. omega arith) (λ a. omega arith) (wrapped q (first + q - end + i) (omega arith))

  high : end ≤ first + i → first + i - q ≡ end - q + (first + q - end + i) % q
  high l = let s = h.start in let r = h.row in let d = h.step in ⊎_elim (λ a. omega arith) (λ a. omega arith) (wrapped q (first + q - end + i) (omega arith))

  -- with numbers of 16 bits: x is the sum, and y the difference
  module _ (x : ℕ) (e : x ≡ (first + i) % 65536) where
    sum : x ≡ first + i
    sum = e ∙ mod-eq_of_lt (omega (arith, h.start, h.row, h.step))

    pub further_low : x < end → x ≡ end - q + (first + q - end + i) % q
    further_low l = sum ∙ low (omega (arith, sum))

    pub further_high : end ≤ x → (x + (65536 - q)) % 65536 ≡ end - q + (first + q - end + i) % q
    further_high l =
        let less : (x + (65536 - q)) % 65536 ≡ first + i - q =
        ⊎_elim (λ a. absurd (omega (arith, a.0, h.row))) (λ a. omega (arith, a.1, sum, h.row)) (wrapped 65536 (x + (65536 - q)) (omega (arith, h.row, h.start, h.step, sum))) in
        less ∙ high (omega (arith, sum))
