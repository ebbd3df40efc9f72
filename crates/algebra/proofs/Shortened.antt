-- Check rows that differ at idle positions alone leave the same codewords agreeing, as all that agree are zero there.
-- Assumes nothing.
use mathlib.Core.Path.{◌≡◌, refl, sym, ap, ◌∙◌, fun_ext}
use mathlib.Core.Bool.{Bool, true, false, ◌&&◌, cond}
use mathlib.Core.List.{List}
use Prim.Native.Nat.{ℕ, ◌*◌, ◌/◌, ◌%◌, ◌<◌}
use lib.Dec.{eqb}
use Rattle.algebra.specs.Sums.{pick}
use Rattle.algebra.specs.Lists.{every, tab}
use Rattle.algebra.specs.Codeword.{Checks, byte_at, row_sum, codeword}
use Rattle.algebra.specs.Words.{filter, words}
use Rattle.algebra.specs.Agreeing.{agrees, agreeing, determined, first, filled_byte, filled_symbols}
use Rattle.algebra.proofs.Sums.{sum_terms}
use Rattle.algebra.proofs.Lists.{every_cong}
use Rattle.algebra.proofs.Agreeing.{agrees_iff}

-- the code with these positions in its check rows instead
abbrev pub with_rows : Checks → (ℕ → ℕ → Bool) → Checks
with_rows c has = record { n = c.n; m = c.m; has = has }

-- other rows have the same positions as c's but for the idle ones; an idle one is known, and zero in s
pub record SameSent (c : Checks) (has : ℕ → ℕ → Bool) (w : ℕ) (idle known : ℕ → Bool) (s : List ℕ) : Type 0 where
  pub same-has : (j p : ℕ) → p < c.n → idle p ≡ false → c.has j p ≡ has j p
  pub idle-known : (p : ℕ) → p < c.n → idle p ≡ true → known p ≡ true
  pub idle-zero : (p : ℕ) → p < c.n → idle p ≡ true → (b : ℕ) → b < w → byte_at w s b p ≡ 0

module _ (c : Checks) (has : ℕ → ℕ → Bool) (w : ℕ) (idle known : ℕ → Bool) (s : List ℕ) (H : SameSent c has w idle known s) where
  same_row : (x : List ℕ) → agrees c w known s x ≡ true → (j b : ℕ) → b < w → row_sum c w x j b ≡ row_sum (with_rows c has) w x j b
  unfolding row_sum
  same_row x a j b l = sum_terms (c.has j) (has j) (byte_at w x b) (byte_at w x b) c.n (λ p h. go p h (idle p) refl)
    where
      nothing : (t : Bool) → pick t 0 ≡ 0
      nothing true = refl
      nothing false = refl

      go : (p : ℕ) → p < c.n → (i : Bool) → idle p ≡ i → pick (c.has j p) (byte_at w x b p) ≡ pick (has j p) (byte_at w x b p)
      go p h false e = ap (λ (t : Bool). pick t (byte_at w x b p)) (H.same-has j p h e)
      go p h true e =
          let z : byte_at w x b p ≡ 0 = (agrees_iff c w known s x).0 a p h (H.idle-known p h e) b l ∙ H.idle-zero p h e b l in
          rw (z, nothing (c.has j p), nothing (has j p))

  same_test : (x : List ℕ) → codeword c w x && agrees c w known s x ≡ codeword (with_rows c has) w x && agrees (with_rows c has) w known s x
  unfolding codeword agrees
  same_test x = go (agrees c w known s x) refl
    where
      none : (t : Bool) → t && false ≡ false
      none true = refl
      none false = refl

      go : (a : Bool) → agrees c w known s x ≡ a → codeword c w x && a ≡ codeword (with_rows c has) w x && a
      go false e = none (codeword c w x) ∙ sym (none (codeword (with_rows c has) w x))
      go true e = ap (λ (t : Bool). t && true) (
          every_cong c.m (λ j. every w (λ b. eqb (row_sum c w x j b) 0)) (λ j. every w (λ b. eqb (row_sum (with_rows c has) w x j b) 0)) (λ j h.
          every_cong w (λ b. eqb (row_sum c w x j b) 0) (λ b. eqb (row_sum (with_rows c has) w x j b) 0) (λ b l.
          ap (λ (v : ℕ). eqb v 0) (same_row x e j b l))))

  -- the same codewords agree
  pub sent_agreeing : agreeing c w known s ≡ agreeing (with_rows c has) w known s
  unfolding agreeing
  sent_agreeing = ap (λ (f : List ℕ → Bool). filter f (words (c.n * w))) (fun_ext same_test)

  -- and fill the same symbols
  pub sent_filled : filled_symbols c w known s ≡ filled_symbols (with_rows c has) w known s
  unfolding filled_symbols filled_byte
  sent_filled =
      ap (λ (L : List (List ℕ)). tab (c.n * w) (λ t.
      cond (known (t / w)) (byte_at w s (t % w) (t / w)) (cond (determined w L (t / w)) (byte_at w (first L) (t % w) (t / w)) 0)))
      sent_agreeing
