-- The binary digits of a number: of 0, of a power of two, of the digitwise operations; and the lowest that is set.
-- Assumes nothing.
use mathlib.Core.Path.{◌≡◌, refl, sym, ap, ◌∙◌, subst}
use mathlib.Core.Logic.{◌≢◌, ◌⊎◌, inl, inr}
use mathlib.Core.Bool.{Bool, true, false, true≢false, false≢true, xor, ◌||◌, ◌&&◌}
use Prim.Native.Nat.{ℕ, zero, suc, ◌+◌, ◌/◌, ◌%◌, ◌^◌, ◌<◌, suc-le-suc}
use native.Mathlib.Nat.{zero-div, mod-lt, zero-lt-suc, not-suc-le-zero, le_of_suc-le-suc, pow-suc, mul-mod_left, mul-div_cancel, div-lt_iff_lt-mul}
use native.Mathlib.Omega.{arith}
use lib.Dec.{eqb, eqb-zero-suc, eqb-suc-zero, eqb-suc-suc}
use lib.Arith.{lt-one}
use lib.Pow.{shr-shr}
use lib.Bits.{bit_xor, bit_or, bit_and, xor_shr, xor_mod, or_shr, or_mod, and_shr, and_mod}
use Rattle.algebra.specs.Sums.{◌⊕◌}
use lib.Count.{count_trailing_zeros, under}
use Rattle.std.proofs.lemmas.Bool.{cases_eq}
use Rattle.elimination.specs.Bits.{test_bit}

pub test_bit-none : (i : ℕ) → test_bit 0 i ≡ false
unfolding test_bit
test_bit-none i = ap (λ (x : ℕ). eqb (x % 2) 1) (zero-div (2 ^ i))

-- digit 0, and the digits of the half
pub test_bit_low : (a : ℕ) → test_bit a 0 ≡ eqb (a % 2) 1
unfolding test_bit
test_bit_low a = let e : a / 1 ≡ a = omega arith in ap (λ (x : ℕ). eqb (x % 2) 1) e

pub test_bit_half : (a i : ℕ) → test_bit a (suc i) ≡ test_bit (a / 2) i
unfolding test_bit
test_bit_half a i = let e : suc i ≡ 1 + i = omega arith in ap (λ (x : ℕ). eqb (a / 2 ^ x % 2) 1) e ∙ ap (λ (x : ℕ). eqb (x % 2) 1) (sym (shr-shr a 1 i))

-- ---- the operations, digit by digit

-- an operation that goes digit by digit, told by what it makes of two digits
digitwise : (op : ℕ → ℕ → ℕ) (f : Bool → Bool → Bool) → ((x y : ℕ) → x < 2 → y < 2 → eqb (op x y) 1 ≡ f (eqb x 1) (eqb y 1))
    → ((a b k : ℕ) → op a b / 2 ^ k ≡ op (a / 2 ^ k) (b / 2 ^ k)) → ((a b k : ℕ) → op a b % 2 ^ k ≡ op (a % 2 ^ k) (b % 2 ^ k))
    → (a b i : ℕ) → test_bit (op a b) i ≡ f (test_bit a i) (test_bit b i)
unfolding test_bit
digitwise op f here quotient rest a b i =
    ap (λ (n : ℕ). eqb (n % 2) 1) (quotient a b i) ∙ ap (λ (n : ℕ). eqb n 1) (rest (a / 2 ^ i) (b / 2 ^ i) 1)
    ∙ here (a / 2 ^ i % 2) (b / 2 ^ i % 2) (mod-lt (a / 2 ^ i) (zero-lt-suc 1)) (mod-lt (b / 2 ^ i) (zero-lt-suc 1))

-- what holds of 0 and of 1 holds of a digit
digit : (P : ℕ → Type 0) → P 0 → P 1 → (x : ℕ) → x < 2 → P x
digit P z o zero h = z
digit P z o (suc zero) h = o
digit P z o (suc (suc x)) h = absurd (omega arith)

-- what holds of each pair of digits
digits : (P : ℕ → ℕ → Type 0) → P 0 0 → P 0 1 → P 1 0 → P 1 1 → (x y : ℕ) → x < 2 → y < 2 → P x y
digits P a b c d x y hx hy = digit (λ (u : ℕ). P u y) (digit (P 0) a b y hy) (digit (P 1) c d y hy) x hx

digit_eqb : (x y : ℕ) → x < 2 → y < 2 → eqb x 1 ≡ eqb y 1 → x ≡ y
digit_eqb = digits (λ (x y : ℕ). eqb x 1 ≡ eqb y 1 → x ≡ y) (λ _. refl) (λ e. absurd (false≢true e)) (λ e. absurd (true≢false e)) (λ _. refl)

pub test_bit-xor : (a b i : ℕ) → test_bit (a ⊕ b) i ≡ xor (test_bit a i) (test_bit b i)
unfolding ◌⊕◌ xor
test_bit-xor = digitwise bit_xor xor (digits (λ (x y : ℕ). eqb (bit_xor x y) 1 ≡ xor (eqb x 1) (eqb y 1)) refl refl refl refl) xor_shr xor_mod

pub test_bit_or : (a b i : ℕ) → test_bit (bit_or a b) i ≡ (test_bit a i || test_bit b i)
test_bit_or = digitwise bit_or ◌||◌ (digits (λ (x y : ℕ). eqb (bit_or x y) 1 ≡ (eqb x 1 || eqb y 1)) refl refl refl refl) or_shr or_mod

pub test_bit_and : (a b i : ℕ) → test_bit (bit_and a b) i ≡ (test_bit a i && test_bit b i)
test_bit_and = digitwise bit_and ◌&&◌ (digits (λ (x y : ℕ). eqb (bit_and x y) 1 ≡ (eqb x 1 && eqb y 1)) refl refl refl refl) and_shr and_mod

-- a power of two has one digit set
pub test_bit_pow : (k i : ℕ) → test_bit (2 ^ k) i ≡ eqb i k
test_bit_pow zero zero = test_bit_low 1
test_bit_pow zero (suc i) = test_bit_half 1 i ∙ test_bit-none i ∙ sym (eqb-suc-zero i)
test_bit_pow (suc k) zero =
    test_bit_low (2 ^ suc k) ∙ ap (λ (n : ℕ). eqb (n % 2) 1) (pow-suc 2 k) ∙ ap (λ (n : ℕ). eqb n 1) (mul-mod_left (2 ^ k) 2) ∙ sym (eqb-zero-suc k)
test_bit_pow (suc k) (suc i) =
    test_bit_half (2 ^ suc k) i ∙ ap (λ (n : ℕ). test_bit (n / 2) i) (pow-suc 2 k)
    ∙ ap (λ (n : ℕ). test_bit n i) (mul-div_cancel (2 ^ k) (zero-lt-suc 1)) ∙ test_bit_pow k i ∙ sym (eqb-suc-suc i k)

-- ---- the lowest set digit

pub record LowestSet (a k t : ℕ) : Type 0 where
  pub within : t < k
  pub here : test_bit a t ≡ true
  pub below : (j : ℕ) → j < t → test_bit a j ≡ false

-- the half of a number of k + 1 digits has k
half : (k c : ℕ) → c < 2 ^ suc k → c / 2 < 2 ^ k
half k c h = (div-lt_iff_lt-mul (zero-lt-suc 1)).1 (subst (λ (x : ℕ). c < x) (pow-suc 2 k) h)

-- of a number of k digits that is not 0, the count of trailing zeros is the place of the lowest set digit
pub trailing_lowest : (k a : ℕ) → 0 < a → a < 2 ^ k → LowestSet a k (count_trailing_zeros k a)
unfolding count_trailing_zeros
trailing_lowest zero a p h = absurd (let e : a ≡ 0 = lt-one h in omega arith)
trailing_lowest (suc k) a p h = go (λ q. trailing_lowest k (a / 2) q (half k a h)) (a % 2) refl
  where
    low : a % 2 ≡ 0 → LowestSet (a / 2) k (count_trailing_zeros k (a / 2)) → (j : ℕ) → j < suc (count_trailing_zeros k (a / 2)) → test_bit a j ≡ false
    low e ih zero l = test_bit_low a ∙ ap (λ (x : ℕ). eqb x 1) e
    low e ih (suc j) l = test_bit_half a j ∙ ih.below j (le_of_suc-le-suc l)

    go : (0 < a / 2 → LowestSet (a / 2) k (count_trailing_zeros k (a / 2))) → (d : ℕ) → a % 2 ≡ d → LowestSet a (suc k) (under d (count_trailing_zeros k (a / 2)))
    go rest zero e =
        let ih : LowestSet (a / 2) k (count_trailing_zeros k (a / 2)) = rest (omega arith) in
        record { within = suc-le-suc ih.within; here = test_bit_half a (count_trailing_zeros k (a / 2)) ∙ ih.here; below = low e ih }
    go rest (suc zero) e = record {
      within = zero-lt-suc k;
      here = test_bit_low a ∙ ap (λ (x : ℕ). eqb x 1) e;
      below = λ j l. absurd (not-suc-le-zero l);
    }
    go rest (suc (suc d)) e = absurd (omega arith)

-- two numbers of k digits that are not equal differ in a digit
pub test_bit-differ : (k a b : ℕ) → a < 2 ^ k → b < 2 ^ k → a ≢ b → (i : ℕ) × ((i < k) × (test_bit a i ≡ test_bit b i → ⊥))
test_bit-differ zero a b ha hb ne = absurd (ne (lt-one ha ∙ sym (lt-one hb)))
test_bit-differ (suc k) a b ha hb ne = go (λ h. test_bit-differ k (a / 2) (b / 2) (half k a ha) (half k b hb) h) (cases_eq (a % 2) (b % 2))
  where
    low : (a % 2 ≡ b % 2 → ⊥) → test_bit a 0 ≡ test_bit b 0 → ⊥
    low h e = h (digit_eqb (a % 2) (b % 2) (mod-lt a (zero-lt-suc 1)) (mod-lt b (zero-lt-suc 1)) (sym (test_bit_low a) ∙ e ∙ test_bit_low b))

    go : ((a / 2 ≡ b / 2 → ⊥) → (i : ℕ) × ((i < k) × (test_bit (a / 2) i ≡ test_bit (b / 2) i → ⊥))) → (a % 2 ≡ b % 2) ⊎ (a % 2 ≡ b % 2 → ⊥)
        → (i : ℕ) × ((i < suc k) × (test_bit a i ≡ test_bit b i → ⊥))
    go rest (inl e) =
        let r = rest (λ h. ne (omega arith)) in (suc r.0, (suc-le-suc r.1.0, λ h. r.1.1 (sym (test_bit_half a r.0) ∙ h ∙ test_bit_half b r.0)))
    go rest (inr h) = (0, (zero-lt-suc k, low h))
