-- The laws of tests of all numbers below a bound, and of lists made from a function.
-- Assumes nothing.
use mathlib.Core.Path.{◌≡◌, refl, sym, ap, ap₂, ◌∙◌, subst}
use mathlib.Core.Logic.{◌↔◌}
use mathlib.Core.Bool.{Bool, true, false, ◌&&◌, false≢true}
use Prim.Native.Nat.{ℕ, zero, suc, ◌<◌}
use native.Mathlib.Nat.{le-suc, le_refl, le_trans, not-suc-le-zero, le_of_suc-le-suc}
use native.Mathlib.Decide.{ℕ_discrete}
use native.Mathlib.Omega.{arith}
use lib.Dec.{T, eqb, eqb→eq, eqb_refl}
use lib.ListN.{length, get_or}
use Rattle.algebra.specs.Lists.{every, tab}

and_left : (a b : Bool) → a && b ≡ true → a ≡ true
and_left true b e = refl
and_left false b e = e

and_right : (a b : Bool) → a && b ≡ true → b ≡ true
and_right true b e = e
and_right false b e = absurd (false≢true e)

pub and_iff : (a b : Bool) → (a && b ≡ true) ↔ ((a ≡ true) × (b ≡ true))
and_iff a b = (λ e. (and_left a b e, and_right a b e), λ h. ap₂ ◌&&◌ h.0 h.1)

pub eqb_iff : (a b : ℕ) → (eqb a b ≡ true) ↔ (a ≡ b)
eqb_iff a b = (λ e. eqb→eq a b (subst T (sym e) tt), λ e. ap (eqb a) (sym e) ∙ of_T (eqb a a) (eqb_refl a))
  where
    of_T : (c : Bool) → T c → c ≡ true
    of_T true t = refl
    of_T false t = absurd t

pub every_iff : (n : ℕ) (f : ℕ → Bool) → (every n f ≡ true) ↔ ((i : ℕ) → i < n → f i ≡ true)
unfolding every
every_iff zero f = (λ e i h. absurd (not-suc-le-zero h), λ h. refl)
every_iff (suc n) f = (λ e i h. go e i h (ℕ_discrete i n) (every_iff n f).0, λ h. ap₂ ◌&&◌ ((every_iff n f).1 (λ i l. h i (le_trans l (le-suc n)))) (h n (le_refl (suc n))))
  where
    go : every n f && f n ≡ true → (i : ℕ) → i < suc n → Dec (i ≡ n) → (every n f ≡ true → (j : ℕ) → j < n → f j ≡ true) → f i ≡ true
    go e i h (yes q) ih = ap f q ∙ and_right (every n f) (f n) e
    go e i h (no q) ih = ih (and_left (every n f) (f n) e) i (omega arith)

pub every_cong : (n : ℕ) (f g : ℕ → Bool) → ((i : ℕ) → i < n → f i ≡ g i) → every n f ≡ every n g
unfolding every
every_cong zero f g h = refl
every_cong (suc n) f g h = ap₂ ◌&&◌ (every_cong n f g (λ i l. h i (le_trans l (le-suc n)))) (h n (le_refl (suc n)))

pub length-tab : {A : Type 0} (n : ℕ) (f : ℕ → A) → length (tab n f) ≡ n
unfolding tab
length-tab zero f = refl
length-tab (suc n) f = ap suc (length-tab n (λ i. f (suc i)))

pub get_d_tab : {A : Type 0} (n : ℕ) (f : ℕ → A) (d : A) (i : ℕ) → i < n → get_or (tab n f) i d ≡ f i
unfolding tab
get_d_tab zero f d i h = absurd (not-suc-le-zero h)
get_d_tab (suc n) f d zero h = refl
get_d_tab (suc n) f d (suc i) h = get_d_tab n (λ j. f (suc j)) d i (le_of_suc-le-suc h)
