-- Laws of specs/AllZero.antt.
-- Assumes nothing.
use mathlib.Core.Path.{◌≡◌, refl, sym, ap, ◌∙◌, subst}
use mathlib.Core.Bool.{Bool, true, false}
use mathlib.Core.List.{List}
use Prim.Native.Nat.{ℕ, zero, suc, ◌+◌, ◌<◌, ◌≤◌}
use native.Mathlib.Nat.{not-suc-le-zero}
use native.Mathlib.Numerals.{add-one}
use native.Mathlib.Omega.{arith}
use Rattle.std.proofs.Common.{fold, take, drop, length-drop}
use Rattle.std.proofs.lemmas.List.{get_or-drop}
use Rattle.std.proofs.lemmas.List.Sums.{fold_more}
use lib.ListN.{length, get_or}
use lib.Bits.{bit_or, or_zero_l, or_add_and, and_le_r}
use lib.Dec.{eqb}
use borrow.Author.Count.{below_more}
use borrow.Author.Tests.{eqb-true, eqb-false, eq-eqb, ne_eqb}
use Rattle.buffers.specs.AllZero.{AllZeroIs}

-- a | b is 0 only where a is
pub or_none : (a b : ℕ) → bit_or a b ≡ 0 → a ≡ 0
or_none a b e = omega (arith, e, or_add_and a b, and_le_r a b)

-- a is 0 as long as the elements are; one element more
pub all_more : (s : List ℕ) (from i a : ℕ) → AllZeroIs s from i (eqb a 0) → AllZeroIs s from (i + 1) (eqb (bit_or a (get_or s (from + i) 0)) 0)
all_more s from i a = go (eqb a 0) refl
  where
    v : ℕ
    v = get_or s (from + i) 0

    last : bit_or a v ≡ v → ((k : ℕ) → k < i → get_or s (from + k) 0 ≡ 0) → (b : Bool) → eqb v 0 ≡ b → AllZeroIs s from (i + 1) (eqb (bit_or a v) 0)
    last p each true f = subst (AllZeroIs s from (i + 1)) (sym (eq-eqb (bit_or a v) 0 (p ∙ eqb-true v 0 f))) (below_more _ _ each (eqb-true v 0 f))
    last p each false f =
        subst (AllZeroIs s from (i + 1)) (sym (ne_eqb (bit_or a v) 0 (λ q. eqb-false v 0 f (sym p ∙ q)))) (i, (omega arith, eqb-false v 0 f))

    go : (b : Bool) → eqb a 0 ≡ b → AllZeroIs s from i b → AllZeroIs s from (i + 1) (eqb (bit_or a v) 0)
    go true e each = last (ap (λ (x : ℕ). bit_or x v) (eqb-true a 0 e) ∙ or_zero_l v) each (eqb v 0) refl
    go false e some =
        subst (AllZeroIs s from (i + 1)) (sym (ne_eqb (bit_or a v) 0 (λ q. eqb-false a 0 e (or_none a v q))))
        (some.0, (omega (arith, some.1.0), some.1.1))

-- the or of n elements is 0 where each of them is
pub all_folded : (s : List ℕ) (from n : ℕ) → from + n ≤ length s → AllZeroIs s from n (eqb (fold (λ (a x : ℕ). bit_or a x) 0 (take n (drop from s))) 0)
all_folded s from zero l = λ i h. absurd (not-suc-le-zero h)
all_folded s from (suc n) l =
    subst (λ (k : ℕ). AllZeroIs s from k (eqb (fold bit_or 0 (take k (drop from s))) 0)) (add-one n)
    (subst (λ (a : ℕ). AllZeroIs s from (n + 1) (eqb a 0))
    (sym (fold_more bit_or 0 (drop from s) n 0 (omega (arith, length-drop {A = ℕ} from s)) ∙ ap (bit_or (fold bit_or 0 (take n (drop from s)))) (get_or-drop from s n 0)))
    (all_more s from n (fold bit_or 0 (take n (drop from s))) (all_folded s from n (omega arith))))

pub all_done : (s : List ℕ) (from i n : ℕ) (b : Bool) → AllZeroIs s from i b → i ≡ n → AllZeroIs s from n b
all_done s from i n b h e = subst (λ (k : ℕ). AllZeroIs s from k b) e h
