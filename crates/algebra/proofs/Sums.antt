-- The laws of sums by exclusive or.
-- Assumes nothing.
use mathlib.Core.Path.{◌≡◌, refl, sym, ap, ap₂, ◌∙◌}
use mathlib.Core.Logic.{◌≢◌, ◌⊎◌, inl, inr}
use mathlib.Core.Bool.{Bool, true, false, xor, not, ◌&&◌}
use Prim.Native.Nat.{ℕ, zero, suc, ◌+◌, ◌*◌, ◌/◌, ◌%◌, ◌<◌}
use native.Mathlib.Nat as nat
use native.Mathlib.Nat.{zero-lt-suc, mod-lt, le_of_suc-le-suc, le-suc, le_refl, le_trans, not-suc-le-zero}
use native.Mathlib.Decide.{ℕ_discrete, dec_lt}
use native.Mathlib.Omega.{arith}
use lib.Arith.{bin_ind, digits_div, digits_mod}
use lib.Bits.{bit_xor, differ, xor_step, xor_comm, xor_zero_r, xor_self, xor_lt}
use lib.Dec.{eqb}
use borrow.Author.Tests.{eq-eqb, ne_eqb, eqb-true}
use Rattle.algebra.specs.Sums.{◌⊕◌, pick, sum}

-- ---- two numbers: a commutative group in which each number is its own inverse

-- one binary digit
differ_lt : (x y : ℕ) → x < 2 → y < 2 → differ x y < 2
differ_lt zero y hx hy = hy
differ_lt (suc x) zero hx hy = hx
differ_lt (suc zero) (suc zero) hx hy = zero-lt-suc 1
differ_lt (suc zero) (suc (suc y)) hx hy = absurd (not-suc-le-zero (le_of_suc-le-suc (le_of_suc-le-suc hy)))
differ_lt (suc (suc x)) (suc y) hx hy = absurd (not-suc-le-zero (le_of_suc-le-suc (le_of_suc-le-suc hx)))

differ_assoc : (x y z : ℕ) → x < 2 → y < 2 → z < 2 → differ (differ x y) z ≡ differ x (differ y z)
differ_assoc zero y z hx hy hz = refl
differ_assoc (suc x) zero z hx hy hz = refl
differ_assoc (suc zero) (suc zero) zero hx hy hz = refl
differ_assoc (suc zero) (suc zero) (suc zero) hx hy hz = refl
differ_assoc (suc zero) (suc zero) (suc (suc z)) hx hy hz = absurd (not-suc-le-zero (le_of_suc-le-suc (le_of_suc-le-suc hz)))
differ_assoc (suc zero) (suc (suc y)) z hx hy hz = absurd (not-suc-le-zero (le_of_suc-le-suc (le_of_suc-le-suc hy)))
differ_assoc (suc (suc x)) (suc y) z hx hy hz = absurd (not-suc-le-zero (le_of_suc-le-suc (le_of_suc-le-suc hx)))

odd_lt : (a : ℕ) → a % 2 < 2
odd_lt a = mod-lt a (zero-lt-suc 1)

-- the lowest digit of a sum, and the others
pub xor_half : (a b : ℕ) → bit_xor a b / 2 ≡ bit_xor (a / 2) (b / 2)
xor_half a b = ap (λ (x : ℕ). x / 2) (xor_step a b) ∙ digits_div (bit_xor (a / 2) (b / 2)) (differ_lt (a % 2) (b % 2) (odd_lt a) (odd_lt b))

pub xor_odd : (a b : ℕ) → bit_xor a b % 2 ≡ differ (a % 2) (b % 2)
xor_odd a b = ap (λ (x : ℕ). x % 2) (xor_step a b) ∙ digits_mod (bit_xor (a / 2) (b / 2)) (differ_lt (a % 2) (b % 2) (odd_lt a) (odd_lt b))

xor_assoc : (a b c : ℕ) → bit_xor (bit_xor a b) c ≡ bit_xor a (bit_xor b c)
xor_assoc a =
    bin_ind (λ (n : ℕ). (b c : ℕ) → bit_xor (bit_xor n b) c ≡ bit_xor n (bit_xor b c)) (λ b c. refl)
    (λ n ih b c.
    xor_step (bit_xor n b) c
    ∙ ap₂ (λ (x y : ℕ). x * 2 + y)
    (ap (λ (x : ℕ). bit_xor x (c / 2)) (xor_half n b) ∙ ih (b / 2) (c / 2) ∙ ap (λ (x : ℕ). bit_xor (n / 2) x) (sym (xor_half b c)))
    (ap (λ (x : ℕ). differ x (c % 2)) (xor_odd n b) ∙ differ_assoc (n % 2) (b % 2) (c % 2) (odd_lt n) (odd_lt b) (odd_lt c)
    ∙ ap (λ (x : ℕ). differ (n % 2) x) (sym (xor_odd b c)))
    ∙ sym (xor_step n (bit_xor b c))) a

pub assoc : (a b c : ℕ) → a ⊕ b ⊕ c ≡ a ⊕ (b ⊕ c)
unfolding ◌⊕◌
assoc a b c = xor_assoc a b c

pub comm : (a b : ℕ) → a ⊕ b ≡ b ⊕ a
unfolding ◌⊕◌
comm a b = xor_comm a b

pub unit : (a : ℕ) → a ⊕ 0 ≡ a
unfolding ◌⊕◌
unit a = xor_zero_r a

pub self : (a : ℕ) → a ⊕ a ≡ 0
unfolding ◌⊕◌
self a = xor_self a

pub add_byte : (a b : ℕ) → a < 256 → b < 256 → a ⊕ b < 256
unfolding ◌⊕◌
add_byte = xor_lt 8

pub unit_l : (a : ℕ) → 0 ⊕ a ≡ a
unit_l a = comm 0 a ∙ unit a

-- added twice is not added
pub cancel : (a b : ℕ) → a ⊕ b ⊕ b ≡ a
cancel a b = assoc a b b ∙ ap (◌⊕◌ a) (self b) ∙ unit a

pub cancel_l : (a b : ℕ) → a ⊕ (a ⊕ b) ≡ b
cancel_l a b = sym (assoc a a b) ∙ ap (λ (x : ℕ). x ⊕ b) (self a) ∙ unit_l b

-- equal just when the sum is zero
pub eq_of_add : (a b : ℕ) → a ⊕ b ≡ 0 → a ≡ b
eq_of_add a b e = sym (cancel a b) ∙ ap (λ (x : ℕ). x ⊕ b) e ∙ unit_l b

-- adding what is not zero changes a number
pub add_ne : (e : ℕ) → e ≢ 0 → (a : ℕ) → a ≢ a ⊕ e
add_ne e d a k = d (sym (cancel_l a e) ∙ ap (◌⊕◌ a) (sym k) ∙ self a)

-- the middle two change places
pub add4 : (a b c d : ℕ) → (a ⊕ b) ⊕ (c ⊕ d) ≡ (a ⊕ c) ⊕ (b ⊕ d)
add4 a b c d =
    assoc a b (c ⊕ d)
    ∙ ap (◌⊕◌ a) (sym (assoc b c d) ∙ ap (λ (x : ℕ). x ⊕ d) (comm b c) ∙ assoc c b d)
    ∙ sym (assoc a c (b ⊕ d))

-- ---- sums of many

pub sum-suc : (a : ℕ → Bool) (x : ℕ → ℕ) (n : ℕ) → sum a x (suc n) ≡ sum a x n ⊕ pick (a n) (x n)
unfolding sum
sum-suc a x n = refl

-- a sum depends only on the tests below n, and on x where they hold
pub sum_cong : (a b : ℕ → Bool) (x y : ℕ → ℕ) (n : ℕ)
    → ((p : ℕ) → p < n → a p ≡ b p) → ((p : ℕ) → p < n → b p ≡ true → x p ≡ y p) → sum a x n ≡ sum b y n
unfolding sum
sum_cong a b x y zero ha hx = refl
sum_cong a b x y (suc n) ha hx =
    ap₂ ◌⊕◌
    (sum_cong a b x y n (λ p h. ha p (le_trans h (le-suc n))) (λ p h. hx p (le_trans h (le-suc n))))
    (ap (λ (c : Bool). pick c (x n)) (ha n (le_refl (suc n))) ∙ same (b n) (hx n (le_refl (suc n))))
  where
    same : (c : Bool) → (c ≡ true → x n ≡ y n) → pick c (x n) ≡ pick c (y n)
    same true h = h refl
    same false h = refl

-- the same terms
pub sum_terms : (a b : ℕ → Bool) (x y : ℕ → ℕ) (n : ℕ) → ((p : ℕ) → p < n → pick (a p) (x p) ≡ pick (b p) (y p)) → sum a x n ≡ sum b y n
unfolding sum
sum_terms a b x y zero h = refl
sum_terms a b x y (suc n) h = ap₂ ◌⊕◌ (sum_terms a b x y n (λ p l. h p (le_trans l (le-suc n)))) (h n (le_refl (suc n)))

-- the same tests, other numbers
pub sum_ext : (a : ℕ → Bool) (x y : ℕ → ℕ) (n : ℕ) → ((p : ℕ) → p < n → x p ≡ y p) → sum a x n ≡ sum a y n
sum_ext a x y n h = sum_cong a a x y n (λ p l. refl) (λ p l t. h p l)

-- other tests, the same numbers
pub sum_tests : (a b : ℕ → Bool) (x : ℕ → ℕ) (n : ℕ) → ((p : ℕ) → p < n → a p ≡ b p) → sum a x n ≡ sum b x n
sum_tests a b x n h = sum_cong a b x x n h (λ p l t. refl)

-- no test holds
pub sum-none : (a : ℕ → Bool) (x : ℕ → ℕ) (n : ℕ) → ((p : ℕ) → p < n → a p ≡ false) → sum a x n ≡ 0
unfolding sum
sum-none a x zero h = refl
sum-none a x (suc n) h =
    ap₂ ◌⊕◌ (sum-none a x n (λ p k. h p (le_trans k (le-suc n)))) (ap (λ (c : Bool). pick c (x n)) (h n (le_refl (suc n)))) ∙ unit 0

-- the same test for all
pub sum-pick : (b : Bool) (x : ℕ → ℕ) (n : ℕ) → sum (λ i. b) x n ≡ pick b (sum (λ i. true) x n)
sum-pick true x n = refl
sum-pick false x n = sum-none (λ i. false) x n (λ p l. refl)

-- every number is zero
pub sum_zeros : (a : ℕ → Bool) (n : ℕ) → sum a (λ i. 0) n ≡ 0
unfolding sum
sum_zeros a zero = refl
sum_zeros a (suc n) = ap₂ ◌⊕◌ (sum_zeros a n) (nothing (a n)) ∙ unit 0
  where
    nothing : (b : Bool) → pick b 0 ≡ 0
    nothing true = refl
    nothing false = refl

-- one test holds
pub sum-only : (a : ℕ → Bool) (x : ℕ → ℕ) (q n : ℕ) → q < n → a q ≡ true → ((p : ℕ) → p < n → a p ≡ true → p ≡ q) → sum a x n ≡ x q
unfolding sum
sum-only a x q zero h t u = absurd (not-suc-le-zero h)
sum-only a x q (suc n) h t u = go (ℕ_discrete n q) (a n) refl (λ l. sum-only a x q n l t (λ p k. u p (le_trans k (le-suc n))))
  where
    go : Dec (n ≡ q) → (b : Bool) → a n ≡ b → (q < n → sum a x n ≡ x q) → sum a x n ⊕ pick b (x n) ≡ x q
    go (yes e) true f ih = ap (λ (v : ℕ). v ⊕ x n) (sum-none a x n (λ p l. none p l (a p) refl)) ∙ unit_l (x n) ∙ ap x e
      where
        none : (p : ℕ) → p < n → (c : Bool) → a p ≡ c → c ≡ false
        none p l true k = let d : p ≡ q = u p (le_trans l (le-suc n)) k in absurd (omega arith)
        none p l false k = refl
    go (yes e) false f ih = absurd (clash (a q) t (ap a (sym e) ∙ f))
      where
        clash : (c : Bool) → c ≡ true → c ≡ false → ⊥
        clash c k l = let z : ◌≡◌ {A = ℕ} 0 1 = cc in omega arith
    go (no d) true f ih = absurd (d (u n (le_refl (suc n)) f))
    go (no d) false f ih = unit (sum a x n) ∙ ih (omega arith)

-- all numbers but one are zero
pub sum_alone : (x : ℕ → ℕ) (q n : ℕ) → q < n → ((p : ℕ) → (p < q) ⊎ (q < p) → p < n → x p ≡ 0) → sum (λ i. true) x n ≡ x q
sum_alone x q n h out =
    sum_terms (λ i. true) (λ i. eqb i q) x x n (λ p l. go p l (dec_lt p q) (dec_lt q p))
    ∙ sum-only (λ i. eqb i q) x q n h (eq-eqb q q refl) (λ p l t. eqb-true p q t)
  where
    other : (p : ℕ) → x p ≡ 0 → (p ≡ q → ⊥) → x p ≡ pick (eqb p q) (x p)
    other p e d = e ∙ sym (ap (λ (b : Bool). pick b (x p)) (ne_eqb p q d))

    go : (p : ℕ) → p < n → Dec (p < q) → Dec (q < p) → x p ≡ pick (eqb p q) (x p)
    go p l (yes g) d = other p (out p (inl g) l) (λ e. omega arith)
    go p l (no g) (yes d) = other p (out p (inr d) l) (λ e. omega arith)
    go p l (no g) (no d) = sym (ap (λ (b : Bool). pick b (x p)) (eq-eqb p q (omega arith)))

pub pick-xor : (a b : Bool) (v : ℕ) → pick (xor a b) v ≡ pick a v ⊕ pick b v
unfolding xor
pick-xor true true v = sym (self v)
pick-xor true false v = sym (unit v)
pick-xor false true v = sym (unit_l v)
pick-xor false false v = sym (unit 0)

-- the sum over the exclusive or of two tests is the sum of the two sums
pub sum-xor : (a b : ℕ → Bool) (x : ℕ → ℕ) (n : ℕ) → sum (λ p. xor (a p) (b p)) x n ≡ sum a x n ⊕ sum b x n
unfolding sum
sum-xor a b x zero = sym (unit 0)
sum-xor a b x (suc n) =
    ap₂ ◌⊕◌ (sum-xor a b x n) (pick-xor (a n) (b n) (x n)) ∙ add4 (sum a x n) (sum b x n) (pick (a n) (x n)) (pick (b n) (x n))

pick-split : (a h : Bool) (v : ℕ) → pick a v ≡ pick (a && not h) v ⊕ pick (a && h) v
pick-split true true v = sym (unit_l v)
pick-split true false v = sym (unit v)
pick-split false h v = sym (unit 0)

-- a sum is that over the positions where h does not hold, and that over those where it does
pub sum-split : (a h : ℕ → Bool) (x : ℕ → ℕ) (n : ℕ) → sum a x n ≡ sum (λ p. a p && not (h p)) x n ⊕ sum (λ p. a p && h p) x n
unfolding sum
sum-split a h x zero = sym (unit 0)
sum-split a h x (suc n) =
    ap₂ ◌⊕◌ (sum-split a h x n) (pick-split (a n) (h n) (x n))
    ∙ add4 (sum (λ p. a p && not (h p)) x n) (sum (λ p. a p && h p) x n) (pick (a n && not (h n)) (x n)) (pick (a n && h n) (x n))

-- a sum in two parts
pub sum_append : (a : ℕ → Bool) (x : ℕ → ℕ) (k m : ℕ) → sum a x (k + m) ≡ sum a x k ⊕ sum (λ i. a (k + i)) (λ i. x (k + i)) m
unfolding sum
sum_append a x k zero = ap (sum a x) (nat.add-zero k) ∙ sym (unit (sum a x k))
sum_append a x k (suc m) =
    ap (sum a x) (nat.add-suc k m)
    ∙ ap (λ (v : ℕ). v ⊕ pick (a (k + m)) (x (k + m))) (sum_append a x k m)
    ∙ assoc (sum a x k) (sum (λ i. a (k + i)) (λ i. x (k + i)) m) (pick (a (k + m)) (x (k + m)))

-- ---- how many of n tests hold, modulo 2

unfoldable pub odd : ℕ → (ℕ → Bool) → Bool
odd zero f = false
odd (suc n) f = xor (odd n f) (f n)

pub odd_ext : (n : ℕ) (f g : ℕ → Bool) → ((i : ℕ) → f i ≡ g i) → odd n f ≡ odd n g
unfolding odd
odd_ext zero f g h = refl
odd_ext (suc n) f g h = ap₂ xor (odd_ext n f g h) (h n)

pub odd_none : (n : ℕ) → odd n (λ i. false) ≡ false
unfolding odd xor
odd_none zero = refl
odd_none (suc n) = ap (λ (b : Bool). xor b false) (odd_none n)

xor4 : (a b c d : Bool) → xor (xor a b) (xor c d) ≡ xor (xor a c) (xor b d)
unfolding xor
xor4 true true true true = refl
xor4 true true true false = refl
xor4 true true false true = refl
xor4 true true false false = refl
xor4 true false true true = refl
xor4 true false true false = refl
xor4 true false false true = refl
xor4 true false false false = refl
xor4 false true true true = refl
xor4 false true true false = refl
xor4 false true false true = refl
xor4 false true false false = refl
xor4 false false true true = refl
xor4 false false true false = refl
xor4 false false false true = refl
xor4 false false false false = refl

pub odd_xor : (n : ℕ) (f g : ℕ → Bool) → odd n (λ i. xor (f i) (g i)) ≡ xor (odd n f) (odd n g)
unfolding odd xor
odd_xor zero f g = refl
odd_xor (suc n) f g = ap (λ (b : Bool). xor b (xor (f n) (g n))) (odd_xor n f g) ∙ xor4 (odd n f) (odd n g) (f n) (g n)
