-- A codeword in logical form, where a symbol's bytes stand, and when two lists of symbols are equal.
-- Assumes nothing.
use mathlib.Core.Path.{◌≡◌, sym, ◌∙◌, subst}
use mathlib.Core.Logic.{◌↔◌}
use mathlib.Core.Bool.{true}
use mathlib.Core.List.{List}
use Prim.Native.Nat.{ℕ, ◌+◌, ◌*◌, ◌/◌, ◌%◌, ◌<◌, ◌≤◌}
use native.Mathlib.Nat.{suc-mul, mul-le-mul_right, mod-lt, div-lt_iff_lt-mul, div-add-mod'}
use lib.Dec.{eqb}
use lib.ListN.{length, get_or}
use lib.Seq.{ext_get_or}
use Rattle.algebra.specs.Lists.{every}
use Rattle.algebra.specs.Codeword.{Checks, byte_at, row_sum, codeword}
use Rattle.algebra.proofs.Lists.{every_iff, eqb_iff}

-- symbol i of n symbols of w bytes lies within their bytes
pub slot : (i n w : ℕ) → i < n → i * w + w ≤ n * w
slot i n w h = subst (λ (x : ℕ). x ≤ n * w) (suc-mul i w) (mul-le-mul_right w h)

-- lists of n symbols are equal when their bytes are, symbol by symbol
pub ext_byte_at : (n w : ℕ) (x y : List ℕ) → 0 < w → length x ≡ n * w → length y ≡ n * w
    → ((i b : ℕ) → i < n → b < w → byte_at w x b i ≡ byte_at w y b i) → x ≡ y
ext_byte_at n w x y pos lx ly h =
    ext_get_or 0 x y (lx ∙ sym ly) (λ t l.
    subst (λ (s : ℕ). get_or x s 0 ≡ get_or y s 0) (div-add-mod' t w)
    (h (t / w) (t % w) ((div-lt_iff_lt-mul pos).1 (subst (λ (s : ℕ). t < s) lx l)) (mod-lt t pos)))

pub codeword_iff : (c : Checks) (w : ℕ) (x : List ℕ)
    → (codeword c w x ≡ true) ↔ ((j : ℕ) → j < c.m → (b : ℕ) → b < w → row_sum c w x j b ≡ 0)
unfolding codeword
codeword_iff c w x = (
  λ e j h b l. (eqb_iff (row_sum c w x j b) 0).0 ((every_iff w (λ d. eqb (row_sum c w x j d) 0)).0 ((every_iff c.m (λ i. every w (λ d. eqb (row_sum c w x i d) 0))).0 e j h) b l),
  λ f. (every_iff c.m (λ i. every w (λ d. eqb (row_sum c w x i d) 0))).1 (λ j h. (every_iff w (λ d. eqb (row_sum c w x j d) 0)).1 (λ b l. (eqb_iff (row_sum c w x j b) 0).1 (f j h b l))),
)
