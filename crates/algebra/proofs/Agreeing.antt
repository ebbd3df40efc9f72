-- The agreeing codewords in logical form, the verdict by them, and what close puts at a position.
-- Assumes nothing.
use mathlib.Core.Path.{◌≡◌, refl, sym, ap, ap₂, ◌∙◌}
use mathlib.Core.Logic.{◌↔◌, ◌≢◌, ◌⊎◌, inl, inr}
use mathlib.Core.Bool.{Bool, true, false, not, ◌&&◌, ◌||◌, false≢true}
use mathlib.Core.List.Memᴰ
use mathlib.Core.List.{List, [], ◌∷◌, Memᴰ}
use Prim.Native.Nat.{ℕ, ◌+◌, ◌*◌, ◌/◌, ◌%◌, ◌<◌}
use native.Mathlib.Omega.{arith}
use lib.Arith.{digits_div, digits_mod, digits_lt}
use lib.Dec.{eqb}
use lib.ListN.{length}
use Rattle.algebra.specs.Codeword.{Checks, byte_at, codeword}
use Rattle.algebra.specs.Words.{words}
use Rattle.algebra.specs.Agreeing.{whole, ambiguous, inconsistent, same_symbol, agrees, agreeing, verdict_of, all_same, determined, first, filled_byte, filled_symbols}
use Rattle.algebra.specs.Unique.{Some, JustOne, Two, Common, Agrees}
use Rattle.algebra.proofs.Lists.{every_iff, and_iff, eqb_iff, length-tab, get_d_tab}
use Rattle.algebra.proofs.Codeword.{ext_byte_at, codeword_iff}
use Rattle.algebra.proofs.Words.{mem-filter, Once, once_filter, mem-words, once_words}

-- ---- lists of words

pub same_iff : (w : ℕ) (x y : List ℕ) (i : ℕ) → (same_symbol w x y i ≡ true) ↔ ((b : ℕ) → b < w → byte_at w x b i ≡ byte_at w y b i)
unfolding same_symbol
same_iff w x y i = (
  λ e b h. (eqb_iff (byte_at w x b i) (byte_at w y b i)).0 ((every_iff w (λ d. eqb (byte_at w x d i) (byte_at w y d i))).0 e b h),
  λ h. (every_iff w (λ d. eqb (byte_at w x d i) (byte_at w y d i))).1 (λ b l. (eqb_iff (byte_at w x b i) (byte_at w y b i)).1 (h b l)),
)

pub all_same_iff : (w : ℕ) (x : List ℕ) (l : List (List ℕ)) (i : ℕ)
    → (all_same w x l i ≡ true) ↔ ((y : List ℕ) → Memᴰ y l → (b : ℕ) → b < w → byte_at w x b i ≡ byte_at w y b i)
unfolding all_same
all_same_iff w x [] i = (λ e y m. absurd (Memᴰ.not-nil m), λ h. refl)
all_same_iff w x (z ∷ l) i = (
  λ e y m. from ((and_iff (same_symbol w x z i) (all_same w x l i)).0 e) y (all_same_iff w x l i).0 (Memᴰ.cases_cons m),
  λ h. (and_iff (same_symbol w x z i) (all_same w x l i)).1
      ((same_iff w x z i).1 (h z (Memᴰ.head refl)), (all_same_iff w x l i).1 (λ y m. h y (Memᴰ.tail m))),
)
  where
    from : (same_symbol w x z i ≡ true) × (all_same w x l i ≡ true) → (y : List ℕ)
        → (all_same w x l i ≡ true → (x' : List ℕ) → Memᴰ x' l → (b : ℕ) → b < w → byte_at w x b i ≡ byte_at w x' b i)
        → (y ≡ z) ⊎ Memᴰ y l → (b : ℕ) → b < w → byte_at w x b i ≡ byte_at w y b i
    from e y ih (inl q) b h = (same_iff w x z i).0 e.0 b h ∙ ap (λ (x' : List ℕ). byte_at w x' b i) (sym q)
    from e y ih (inr m) b h = ih e.1 y m b h

-- all members agree, and there is one
pub determined-true : (w : ℕ) (L : List (List ℕ)) (i : ℕ) (x : List ℕ) (v : ℕ → ℕ) → Memᴰ x L
    → ((y : List ℕ) → Memᴰ y L → (b : ℕ) → b < w → byte_at w y b i ≡ v b)
    → (determined w L i ≡ true) × ((b : ℕ) → b < w → byte_at w (first L) b i ≡ v b)
unfolding determined first
determined-true w [] i x v m h = absurd (Memᴰ.not-nil m)
determined-true w (z ∷ l) i x v m h = (
  (all_same_iff w z l i).1 (λ y u b q. h z (Memᴰ.head refl) b q ∙ sym (h y (Memᴰ.tail u) b q)),
  h z (Memᴰ.head refl),
)

-- a determined position has the first member's symbol in all members
pub determined-same : (w : ℕ) (L : List (List ℕ)) (i : ℕ) → determined w L i ≡ true
    → Memᴰ (first L) L × ((y : List ℕ) → Memᴰ y L → (b : ℕ) → b < w → byte_at w (first L) b i ≡ byte_at w y b i)
unfolding determined first
determined-same w [] i e = absurd (false≢true e)
determined-same w (z ∷ l) i e = (Memᴰ.head refl, λ y m b h. go y b h (Memᴰ.cases_cons m))
  where
    go : (y : List ℕ) (b : ℕ) → b < w → (y ≡ z) ⊎ Memᴰ y l → byte_at w z b i ≡ byte_at w y b i
    go y b h (inl q) = ap (λ (x : List ℕ). byte_at w x b i) (sym q)
    go y b h (inr m) = (all_same_iff w z l i).0 e y m b h

-- ---- the verdict, by the members of the list

whole-inconsistent : whole ≢ inconsistent
whole-inconsistent e = let z : ◌≡◌ {A = ℕ} 0 1 = cc in omega arith

whole-ambiguous : whole ≢ ambiguous
whole-ambiguous e = let z : ◌≡◌ {A = ℕ} 0 1 = cc in omega arith

ambiguous-inconsistent : ambiguous ≢ inconsistent
ambiguous-inconsistent e = let z : ◌≡◌ {A = ℕ} 0 1 = cc in omega arith

pub whole_iff : (L : List (List ℕ)) → Once L
    → (verdict_of L ≡ whole) ↔ ((x : List ℕ) × Memᴰ x L × ((y : List ℕ) → Memᴰ y L → y ≡ x))
unfolding verdict_of
whole_iff [] o = (λ e. absurd (whole-inconsistent (sym e)), λ f. absurd (Memᴰ.not-nil f.1))
whole_iff (a ∷ []) o = (λ e. (a, Memᴰ.head refl, λ y m. Memᴰ.eq_of_singleton m), λ f. refl)
whole_iff (a ∷ (a' ∷ l)) o = (
  λ e. absurd (whole-ambiguous (sym e)),
  λ f. absurd (o.0 (Memᴰ.head (f.2 a (Memᴰ.head refl) ∙ sym (f.2 a' (Memᴰ.tail (Memᴰ.head refl)))))),
)

pub ambiguous_iff : (L : List (List ℕ)) → Once L
    → (verdict_of L ≡ ambiguous) ↔ ((x : List ℕ) × (y : List ℕ) × Memᴰ x L × Memᴰ y L × (x ≢ y))
unfolding verdict_of
ambiguous_iff [] o = (λ e. absurd (ambiguous-inconsistent (sym e)), λ f. absurd (Memᴰ.not-nil f.2))
ambiguous_iff (a ∷ []) o =
    (λ e. absurd (whole-ambiguous e), λ f. absurd (f.4 (Memᴰ.eq_of_singleton f.2 ∙ sym (Memᴰ.eq_of_singleton f.3))))
ambiguous_iff (a ∷ (a' ∷ l)) o =
    (λ e. (a, a', Memᴰ.head refl, Memᴰ.tail (Memᴰ.head refl), λ q. o.0 (Memᴰ.head q)), λ f. refl)

pub inconsistent_iff : (L : List (List ℕ)) → (verdict_of L ≡ inconsistent) ↔ (¬ ((x : List ℕ) × Memᴰ x L))
unfolding verdict_of
inconsistent_iff [] = (λ e a. Memᴰ.not-nil a.1, λ f. refl)
inconsistent_iff (a ∷ []) = (λ e. absurd (whole-inconsistent e), λ f. absurd (f (a, Memᴰ.head refl)))
inconsistent_iff (a ∷ (a' ∷ l)) = (λ e. absurd (ambiguous-inconsistent e), λ f. absurd (f (a, Memᴰ.head refl)))

-- ---- the symbols afterwards

module _ (c : Checks) (w : ℕ) (known : ℕ → Bool) (s : List ℕ) where
  pub byte-at : (i b : ℕ) → i < c.n → b < w → byte_at w (filled_symbols c w known s) b i ≡ filled_byte c w known s b i
  unfolding filled_symbols
  byte-at i b h l =
      get_d_tab (c.n * w) (λ t. filled_byte c w known s (t % w) (t / w)) 0 (i * w + b) (digits_lt h l)
      ∙ ap₂ (filled_byte c w known s) (digits_mod i l) (digits_div i l)

  pub length_symbols : length (filled_symbols c w known s) ≡ c.n * w
  unfolding filled_symbols
  length_symbols = length-tab (c.n * w) (λ t. filled_byte c w known s (t % w) (t / w))

  -- the bytes at a known position, at one that is determined, and at one that is neither
  module _ (i : ℕ) (h : i < c.n) where
    pub at-known : known i ≡ true → (b : ℕ) → b < w → byte_at w (filled_symbols c w known s) b i ≡ byte_at w s b i
    unfolding filled_byte
    at-known e b l = byte-at i b h l ∙ rw (e, filled_byte)

    pub at-determined : known i ≡ false → determined w (agreeing c w known s) i ≡ true
        → (b : ℕ) → b < w → byte_at w (filled_symbols c w known s) b i ≡ byte_at w (first (agreeing c w known s)) b i
    unfolding filled_byte
    at-determined e d b l = byte-at i b h l ∙ rw (e, d, filled_byte)

    pub at_left : known i ≡ false → determined w (agreeing c w known s) i ≡ false → (b : ℕ) → b < w → byte_at w (filled_symbols c w known s) b i ≡ 0
    unfolding filled_byte
    at_left e d b l = byte-at i b h l ∙ rw (e, d, filled_byte)

-- ---- the agreeing codewords, in logical form

module _ (c : Checks) (w : ℕ) (known : ℕ → Bool) (s : List ℕ) where
  pub agrees_iff : (x : List ℕ) → (agrees c w known s x ≡ true) ↔ ((i : ℕ) → i < c.n → known i ≡ true → (b : ℕ) → b < w → byte_at w x b i ≡ byte_at w s b i)
  unfolding agrees
  agrees_iff x = (
    λ e i h t. (same_iff w x s i).0 (from (known i) (same_symbol w x s i) ((every_iff c.n test).0 e i h) t),
    λ f. (every_iff c.n test).1 (λ i h. to (known i) (same_symbol w x s i) (λ t. (same_iff w x s i).1 (f i h t))),
  )
    where
      test : ℕ → Bool
      test i = not (known i) || same_symbol w x s i

      from : (a d : Bool) → not a || d ≡ true → a ≡ true → d ≡ true
      from true d e t = e
      from false d e t = absurd (false≢true t)

      to : (a d : Bool) → (a ≡ true → d ≡ true) → not a || d ≡ true
      to true d f = f refl
      to false d f = refl

  pub mem-agreeing : (x : List ℕ) → Memᴰ x (agreeing c w known s) ↔ Agrees c w known s x
  unfolding agreeing
  mem-agreeing x = (
    λ m.
        let a = (mem-filter test x (words (c.n * w))).0 m in
        let e = (mem-words (c.n * w) x).0 a.0 in
        let d = (and_iff (codeword c w x) (agrees c w known s x)).0 a.1 in
        record { size = e.0; bytes = e.1; rows = (codeword_iff c w x).0 d.0; same = (agrees_iff x).0 d.1 },
    λ a.
        (mem-filter test x (words (c.n * w))).1 (
          (mem-words (c.n * w) x).1 (a.size, a.bytes),
          (and_iff (codeword c w x) (agrees c w known s x)).1 ((codeword_iff c w x).1 a.rows, (agrees_iff x).1 a.same),
        ),
  )
    where
      test : List ℕ → Bool
      test y = codeword c w y && agrees c w known s y

  pub once_agreeing : Once (agreeing c w known s)
  unfolding agreeing
  once_agreeing = once_filter (λ x. codeword c w x && agrees c w known s x) (words (c.n * w)) (once_words (c.n * w))

  -- two that agree are equal where they have the same symbols at the other positions
  pub agreeing_equal : 0 < w → (x y : List ℕ) → Agrees c w known s x → Agrees c w known s y
      → ((i : ℕ) → i < c.n → known i ≡ false → (b : ℕ) → b < w → byte_at w x b i ≡ byte_at w y b i) → x ≡ y
  agreeing_equal pos x y ax ay h = ext_byte_at c.n w x y pos ax.size ay.size (λ i b hi hb. go i b hi hb (known i) refl)
    where
      go : (i b : ℕ) → i < c.n → b < w → (a : Bool) → known i ≡ a → byte_at w x b i ≡ byte_at w y b i
      go i b hi hb true e = ax.same i hi e b hb ∙ sym (ay.same i hi e b hb)
      go i b hi hb false e = h i hi e b hb

  -- ---- the determined positions are those that are common to all

  pub determined-common : (i : ℕ) → determined w (agreeing c w known s) i ≡ true → Some (Agrees c w known s) × Common w (Agrees c w known s) i
  determined-common i e =
      let a = determined-same w (agreeing c w known s) i e in (
        (first (agreeing c w known s), (mem-agreeing (first (agreeing c w known s))).0 a.0),
        λ x y ax ay b h. sym (a.1 x ((mem-agreeing x).1 ax) b h) ∙ a.1 y ((mem-agreeing y).1 ay) b h,
      )

  pub common-determined : (i : ℕ) (x : List ℕ) → Agrees c w known s x → Common w (Agrees c w known s) i
      → (determined w (agreeing c w known s) i ≡ true) × ((b : ℕ) → b < w → byte_at w (first (agreeing c w known s)) b i ≡ byte_at w x b i)
  common-determined i x a h =
      determined-true w (agreeing c w known s) i x (λ b. byte_at w x b i) ((mem-agreeing x).1 a) (λ y m. h y x ((mem-agreeing y).0 m) a)

  pub not-determined : (i : ℕ) → ¬ (Some (Agrees c w known s) × Common w (Agrees c w known s) i) → determined w (agreeing c w known s) i ≡ false
  not-determined i n = go (determined w (agreeing c w known s) i) refl
    where
      go : (t : Bool) → determined w (agreeing c w known s) i ≡ t → t ≡ false
      go true e = absurd (n (determined-common i e))
      go false e = refl

  -- ---- the verdict, by the words that agree

  pub verdict-inconsistent : (verdict_of (agreeing c w known s) ≡ inconsistent) ↔ (¬ Some (Agrees c w known s))
  verdict-inconsistent = (
    λ e a. (inconsistent_iff (agreeing c w known s)).0 e (a.0, (mem-agreeing a.0).1 a.1),
    λ n. (inconsistent_iff (agreeing c w known s)).1 (λ a. n (a.0, (mem-agreeing a.0).0 a.1)),
  )

  pub verdict-whole : (verdict_of (agreeing c w known s) ≡ whole) ↔ JustOne (Agrees c w known s)
  verdict-whole = (
    λ e. let a = (whole_iff (agreeing c w known s) once_agreeing).0 e in (a.0, (mem-agreeing a.0).0 a.1, λ y q. a.2 y ((mem-agreeing y).1 q)),
    λ a. (whole_iff (agreeing c w known s) once_agreeing).1 (a.0, (mem-agreeing a.0).1 a.1, λ y q. a.2 y ((mem-agreeing y).0 q)),
  )

  pub verdict-ambiguous : (verdict_of (agreeing c w known s) ≡ ambiguous) ↔ Two (Agrees c w known s)
  verdict-ambiguous = (
    λ e.
        let a = (ambiguous_iff (agreeing c w known s) once_agreeing).0 e in
        (a.0, a.1, (mem-agreeing a.0).0 a.2, (mem-agreeing a.1).0 a.3, a.4),
    λ a. (ambiguous_iff (agreeing c w known s) once_agreeing).1 (a.0, a.1, (mem-agreeing a.0).1 a.2, (mem-agreeing a.1).1 a.3, a.4),
  )
