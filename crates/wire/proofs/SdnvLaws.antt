-- Reading an SDNV byte by byte, how large a number of so many bytes can be, and where it ends.
-- Assumes nothing.
use mathlib.Core.Path.{◌≡◌, ◌∙◌, sym, ap, refl, subst}
use mathlib.Core.Bool.{Bool, true, false, cond, ◌&&◌, false≢true}
use mathlib.Core.List.{List}
use Prim.Native.Nat.{ℕ, zero, suc, ◌+◌, ◌-◌, ◌*◌, ◌%◌, ◌^◌, ◌≤◌, ◌<◌}
use native.Mathlib.Nat.{lt_of_lt_of_le}
use native.Mathlib.Omega.{arith}
use lib.Dec.{eqb, leb, ltb}
use lib.ListN.{length, get_or}
use lib.Pow.{pow-add, pow_mono}
use borrow.Author.Tests.{lt-ltb, le-ltb, le-leb, lt-leb, leb-false, ltb-true, ltb-false, eq-eqb, eqb-true, eqb-false}
use Rattle.wire.specs.Sdnv.{Number, Reading, finished, unfinished, wrong, longer, sdnv_from, number_at}

-- ---- a leading 80, or none

pub none_leads : (v b : ℕ) → (v ≡ 0 → b ≡ 0x80 → ⊥) → eqb v 0 && eqb b 0x80 ≡ false
none_leads v b h = go (eqb v 0) (eqb b 0x80) refl refl
  where
    go : (p q : Bool) → eqb v 0 ≡ p → eqb b 0x80 ≡ q → p && q ≡ false
    go false q e f = refl
    go true false e f = refl
    go true true e f = absurd (h (eqb-true v 0 e) (eqb-true b 0x80 f))

-- a byte that goes on after that test leaves more than 0
pub not-zero : (v b : ℕ) → eqb v 0 && eqb b 0x80 ≡ false → 128 ≤ b → b < 256 → 0 < longer v b
not-zero v b e h l = go (eqb v 0) (eqb b 0x80) refl refl e
  where
    go : (p q : Bool) → eqb v 0 ≡ p → eqb b 0x80 ≡ q → p && q ≡ false → 0 < longer v b
    go false q f g e = let n = eqb-false v 0 f in omega arith
    go true false f g e = let n = eqb-false b 0x80 g in omega arith
    go true true f g e = absurd (false≢true (sym e))

module _ (more v : ℕ) (s : List ℕ) (at : ℕ) (some_more : 0 < more) where
  one_of : more ≡ suc (more - 1)
  one_of = omega arith

  pub ends_early : length s ≤ at → sdnv_from more v s at ≡ unfinished
  unfolding sdnv_from
  ends_early h = ap (λ (n : ℕ). sdnv_from n v s at) one_of ∙ rw (le-leb _ _ h)

  pub leads : at < length s → v ≡ 0 → get_or s at 0 ≡ 0x80 → sdnv_from more v s at ≡ wrong
  unfolding sdnv_from
  leads h z b = ap (λ (n : ℕ). sdnv_from n v s at) one_of ∙ rw (lt-leb _ _ h, eq-eqb _ _ z, eq-eqb _ _ b)

  module _ (h : at < length s) where
    small-byte : get_or s at 0 < 128 → eqb v 0 && eqb (get_or s at 0) 0x80 ≡ false
    small-byte b = none_leads v (get_or s at 0) (λ z e. omega arith)

    pub too_large : get_or s at 0 < 128 → 4294967295 < longer v (get_or s at 0) → sdnv_from more v s at ≡ wrong
    unfolding sdnv_from
    too_large b l = ap (λ (n : ℕ). sdnv_from n v s at) one_of ∙ rw (lt-leb _ _ h, small-byte b, lt-ltb _ _ b, lt-ltb _ _ l)

    pub last_byte : get_or s at 0 < 128 → longer v (get_or s at 0) ≤ 4294967295
        → sdnv_from more v s at ≡ finished (record { value = longer v (get_or s at 0); end = at + 1 })
    unfolding sdnv_from
    last_byte b l = ap (λ (n : ℕ). sdnv_from n v s at) one_of ∙ rw (lt-leb _ _ h, small-byte b, lt-ltb _ _ b, le-ltb _ _ l)

    pub goes_on : 128 ≤ get_or s at 0 → 0 < longer v (get_or s at 0) → sdnv_from more v s at ≡ sdnv_from (more - 1) (longer v (get_or s at 0)) s (at + 1)
    unfolding sdnv_from
    goes_on b l = ap (λ (n : ℕ). sdnv_from n v s at) one_of ∙ rw (lt-leb _ _ h, none_leads v (get_or s at 0) (λ z e. omega arith), le-ltb _ _ b)

-- i bytes hold a number below 2 ^ (7 * i)
pub grows : (v i g : ℕ) → v < 2 ^ (7 * i) → g < 128 → v * 128 + g < 2 ^ (7 * (i + 1))
grows v i g h b =
    let e : 7 * (i + 1) ≡ 7 * i + 7 = omega arith in
    let p : 2 ^ (7 * (i + 1)) ≡ 2 ^ (7 * i) * 128 = ap (λ (n : ℕ). 2 ^ n) e ∙ pow-add 2 (7 * i) 7 in
    omega arith

pub small : (v i : ℕ) → v < 2 ^ (7 * i) → (j : ℕ) → i ≤ j → v < 2 ^ (7 * j)
small v i h j k =
    let e : 7 * i ≤ 7 * j = omega arith in
    lt_of_lt_of_le h (pow_mono e)

-- ---- of every number that is read: its end lies behind its start and within the bytes

-- a property of what a test picks
pub by_test : {A : Type 0} (P : A → Type 0) (b : Bool) {x y : A} → (b ≡ true → P x) → (b ≡ false → P y) → P (cond b x y)
by_test P true p q = p refl
by_test P false p q = q refl

-- a property of a number that is read, by the tests of one byte
pub by_byte : (P : Reading → Type 0) (more v : ℕ) (s : List ℕ) (at : ℕ) → P unfinished → P wrong
    → (at < length s → get_or s at 0 < 128 → longer v (get_or s at 0) ≤ 4294967295 → P (finished (record { value = longer v (get_or s at 0); end = at + 1 })))
    → (at < length s → eqb v 0 && eqb (get_or s at 0) 0x80 ≡ false → 128 ≤ get_or s at 0 → P (sdnv_from more (longer v (get_or s at 0)) s (at + 1)))
    → P (sdnv_from (suc more) v s at)
unfolding sdnv_from
by_byte P more v s at u w f g =
    by_test P (leb (length s) at) (λ e. u) (λ e.
    by_test P (eqb v 0 && eqb (get_or s at 0) 0x80) (λ n. w) (λ n.
    by_test P (ltb (get_or s at 0) 128)
    (λ b. by_test P (ltb 4294967295 (longer v (get_or s at 0))) (λ l. w) (λ l. f (leb-false (length s) at e) (ltb-true (get_or s at 0) 128 b) (ltb-false 4294967295 (longer v (get_or s at 0)) l)))
    (λ b. g (leb-false (length s) at e) n (ltb-false (get_or s at 0) 128 b))))

pub record Fine (s : List ℕ) (at : ℕ) (x : Number) : Type 0 where
  pub starts : at < x.end
  pub ends : x.end ≤ length s
  pub most : x.value ≤ 4294967295

abbrev pub Within : List ℕ → ℕ → Reading → Type 0
Within s at (finished x) = Fine s at x
Within s at unfinished = Unit {0}
Within s at wrong = Unit {0}

-- one byte earlier
earlier : (s : List ℕ) (at : ℕ) (r : Reading) → Within s (at + 1) r → Within s at r
earlier s at (finished x) f = record { starts = omega (arith, f.starts); ends = f.ends; most = f.most }
earlier s at unfinished f = tt
earlier s at wrong f = tt

pub within : (more v : ℕ) (s : List ℕ) (at : ℕ) → Within s at (sdnv_from more v s at)
unfolding sdnv_from
within zero v s at = tt
within (suc more) v s at =
    by_byte (Within s at) more v s at tt tt
    (λ h b l. record { starts = omega arith; ends = omega arith; most = l })
    (λ h n b. earlier s at (sdnv_from more (longer v (get_or s at 0)) s (at + 1)) (within more (longer v (get_or s at 0)) s (at + 1)))

pub is_fine : (s : List ℕ) (at : ℕ) {x : Number} → number_at s at ≡ finished x → Fine s at x
is_fine s at e = subst (Within s at) e (within 5 0 s at)

-- ---- i bytes before, and those that are read, have room for the number

abbrev pub Room : ℕ → ℕ → Reading → Type 0
Room i at (finished x) = (at < x.end) × (x.value < 2 ^ (7 * (i + (x.end - at))))
Room i at unfinished = Unit {0}
Room i at wrong = Unit {0}

one_less : (i at : ℕ) (r : Reading) → Room (i + 1) (at + 1) r → Room i at r
one_less i at (finished x) h =
    let e : i + 1 + (x.end - (at + 1)) ≡ i + (x.end - at) = omega (arith, h.0) in
    (omega (arith, h.0), rw e at h.1)
one_less i at unfinished h = tt
one_less i at wrong h = tt

pub room : (more i v : ℕ) (s : List ℕ) (at : ℕ) → v < 2 ^ (7 * i) → Room i at (sdnv_from more v s at)
unfolding sdnv_from
room zero i v s at h = tt
room (suc more) i v s at h =
    let g = grows v i (get_or s at 0 % 128) h (omega arith) in
    let e : i + 1 ≡ i + (at + 1 - at) = omega arith in
    by_byte (Room i at) more v s at tt tt
    (λ l b m. (omega arith, rw e at g))
    (λ l n b. one_less i at (sdnv_from more (longer v (get_or s at 0)) s (at + 1)) (room more (i + 1) (longer v (get_or s at 0)) s (at + 1) g))
