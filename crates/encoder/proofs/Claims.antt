-- What specs/Claims.antt claims of every code.
-- Assumes nothing.
use Rattle.std.proofs.Common.{◌≡◌, ℕ, zero, suc, ◌+◌, ◌*◌, ◌/◌, ◌%◌, ◌<◌, ◌≤◌, Bool, true, false, ◌||◌, eqb, List, [], ◌∷◌, length, get_or, take, drop, replicate, sym, refl, ap, ◌∙◌, le_of_suc-le-suc, not-suc-le-zero, mul-le-mul_right, mod-lt, div-lt_iff_lt-mul, add-mul, div-add-mod', le-div_iff_mul-le, arith, length-drop, length-take-le, get_or-drop, get_or-take, ext_get_or, eq-eqb}
use mathlib.Core.Bool.{false≢true}
use native.Mathlib.Decide.{dec_lt}
use lib.Dec.{eqb-suc-zero}
use lib.ListN.{length-replicate, get_or-replicate, get_or-eq_default}
use Rattle.algebra.specs.Codeword.{symbol_at}
use Rattle.algebra.specs.Staircase.{stair}
use Rattle.algebra.proofs.Codeword.{slot}
use Rattle.algebra.proofs.Staircase.{check-row, has-parity, one-codeword}
use Rattle.ccsds.specs.Codes.{row_of, check_row_of, hits, touches}
use Rattle.ccsds.specs.Tables.{code_of}
use Rattle.ccsds.specs.Fill.{is_idle, padded}
use Rattle.encoder.specs.Claims.{OfEachCode, EncodesCodeword, EncodesShort, EncodesFull, ChecksAsWritten, FirstRow, TouchesOnce}
use Rattle.ccsds.proofs.Refusals.{or_false, fill_right}
use Rattle.ccsds.proofs.FillLaws.{idle_range, idle_in, padded-length}
use Rattle.encoder.proofs.Parity.{padded-byte, padded-parity}
use Rattle.ccsds.proofs.Valid.{Apart, valid_of, row_apart}

pub encodes_codeword : OfEachCode EncodesCodeword
encodes_codeword number known w some u size =
    one-codeword (code_of number).k (code_of number).m (λ j x. touches (code_of number) x j) w u size some

-- the first k symbols are u and the idle ones just when the first are u and the idle ones are zero
module _ (k w fill : ℕ) (most : fill ≤ k) (u x : List ℕ) (size : length u ≡ fill * w) (long : k * w ≤ length x) where
  short : fill * w ≤ k * w
  short = mul-le-mul_right w most

  -- byte b of an idle symbol
  module _ (i : ℕ) (h : is_idle k fill i ≡ true) (b : ℕ) (l : b < w) where
    inside : i * w + b < k * w
    inside = omega (arith, slot i k w (idle_range k fill i h).1)

    behind : fill * w ≤ i * w + b
    behind = omega (arith, mul-le-mul_right w (idle_range k fill i h).0)

  front-padded : 0 < w → take (fill * w) x ≡ u → ((i : ℕ) → is_idle k fill i ≡ true → symbol_at w x i ≡ replicate w 0) → take (k * w) x ≡ padded k w fill u
  front-padded some e z =
      ext_get_or 0 (take (k * w) x) (padded k w fill u) (length-take-le (k * w) x long ∙ sym (padded-length k w fill u most size))
      (λ t h. let g : t < k * w = omega (arith, length-take-le (k * w) x long) in get_or-take (k * w) x t 0 g ∙ at t g (dec_lt t (fill * w)) ∙ sym (padded-byte k w fill u t))
    where
      at : (t : ℕ) → t < k * w → Dec (t < fill * w) → get_or x t 0 ≡ get_or u t 0
      at t g (yes h) = sym (get_or-take (fill * w) x t 0 h) ∙ ap (λ (l : List ℕ). get_or l t 0) e
      at t g (no h) =
          let i = t / w in
          let d = div-add-mod' t w in
          let m = mod-lt t some in
          let idle : is_idle k fill i ≡ true = idle_in k fill i ((le-div_iff_mul-le some).1 (omega arith)) ((div-lt_iff_lt-mul some).1 g) in
          sym (get_or-take w (drop (i * w) x) (t % w) 0 m ∙ get_or-drop (i * w) x (t % w) 0 ∙ ap (λ (n : ℕ). get_or x n 0) d)
          ∙ ap (λ (l : List ℕ). get_or l (t % w) 0) (z i idle) ∙ get_or-replicate w (t % w) 0 0 m ∙ sym (get_or-eq_default u 0 {n = t} (omega arith))

  padded-front : take (k * w) x ≡ padded k w fill u → take (fill * w) x ≡ u
  padded-front e =
      ext_get_or 0 (take (fill * w) x) u (length-take-le (fill * w) x (omega (arith, short)) ∙ sym size)
      (λ t h. let g : t < fill * w = omega (arith, length-take-le (fill * w) x (omega (arith, short))) in get_or-take (fill * w) x t 0 g ∙ same e t (omega (arith, short)))
    where
      same : take (k * w) x ≡ padded k w fill u → (t : ℕ) → t < k * w → get_or x t 0 ≡ get_or u t 0
      same e t h = sym (get_or-take (k * w) x t 0 h) ∙ ap (λ (l : List ℕ). get_or l t 0) e ∙ padded-byte k w fill u t

  padded-idle : take (k * w) x ≡ padded k w fill u → (i : ℕ) → is_idle k fill i ≡ true → symbol_at w x i ≡ replicate w 0
  padded-idle e i h =
      ext_get_or 0 (symbol_at w x i) (replicate w 0) (size_is ∙ sym (length-replicate {A = ℕ} w 0))
      (λ b l. let g : b < w = omega (arith, size_is) in
      get_or-take w (drop (i * w) x) b 0 g ∙ get_or-drop (i * w) x b 0 ∙ sym (get_or-take (k * w) x (i * w + b) 0 (inside i h b g)) ∙ ap (λ (l : List ℕ). get_or l (i * w + b) 0) e
      ∙ padded-byte k w fill u (i * w + b) ∙ get_or-eq_default u 0 {n = i * w + b} (omega (arith, behind i h b g)) ∙ sym (get_or-replicate w b 0 0 g))
    where
      size_is : length (symbol_at w x i) ≡ w
      size_is = length-take-le w (drop (i * w) x) (omega (arith, length-drop (i * w) x, slot i k w (idle_range k fill i h).1))

pub encodes_short : OfEachCode EncodesShort
encodes_short number known w fill some right u size x long =
    let c = code_of number in
    let f = fill_right c.k fill right in
    let v = valid_of number known in
    let l : c.k * w ≤ length x = omega (arith, add-mul c.k c.m w) in
    let one = encodes_codeword number known w some (padded c.k w fill u) (padded-length c.k w fill u f.1 size) x long in (
      λ h. one.0 (h.0, front-padded c.k w fill f.1 u x size l some h.1 h.2),
      λ e. let g = one.1 e in (g.0, padded-front c.k w fill f.1 u x size l g.1, padded-idle c.k w fill f.1 u x size l g.1),
    )

pub encodes_full : OfEachCode EncodesFull
encodes_full number known w u = padded-parity (code_of number) w (code_of number).k u

pub checks_as_written : OfEachCode ChecksAsWritten
checks_as_written number known = check-row (code_of number).k (code_of number).m (λ j x. touches (code_of number) x j)

pub first-row : OfEachCode FirstRow
unfolding stair
first-row number known i =
    has-parity (code_of number).k (code_of number).m (λ j x. touches (code_of number) x j) 0 i
    ∙ ap (λ (b : Bool). eqb i 0 || b) (eqb-suc-zero i) ∙ or_nothing (eqb i 0)
  where
    or_nothing : (a : Bool) → a || false ≡ a
    or_nothing true = refl
    or_nothing false = refl

-- nothing of the list goes to j
miss : (f : ℕ → ℕ) (ys : List ℕ) (j : ℕ) → hits f ys j ≡ false → (i : ℕ) → i < length ys → f (get_or ys i 0) ≡ j → ⊥
unfolding hits
miss f [] j h i l e = not-suc-le-zero l
miss f (y ∷ ys) j h zero l e = false≢true (sym (or_false (eqb (f y) j) (hits f ys j) h).0 ∙ eq-eqb (f y) j e)
miss f (y ∷ ys) j h (suc i) l e = miss f ys j (or_false (eqb (f y) j) (hits f ys j) h).1 i (le_of_suc-le-suc l) e

apart : (f : ℕ → ℕ) (ys : List ℕ) → Apart f ys → (i j : ℕ) → i < length ys → j < length ys → f (get_or ys i 0) ≡ f (get_or ys j 0) → i ≡ j
apart f [] a i j hi hj e = absurd (not-suc-le-zero hi)
apart f (y ∷ ys) a zero zero hi hj e = refl
apart f (y ∷ ys) a zero (suc j) hi hj e = absurd (miss f ys (f y) a.0 j (le_of_suc-le-suc hj) (sym e))
apart f (y ∷ ys) a (suc i) zero hi hj e = absurd (miss f ys (f y) a.0 i (le_of_suc-le-suc hi) e)
apart f (y ∷ ys) a (suc i) (suc j) hi hj e = ap suc (apart f ys a.1 i j (le_of_suc-le-suc hi) (le_of_suc-le-suc hj) e)

pub touches_once : OfEachCode TouchesOnce
touches_once number known x h i j hi hj e =
    apart (check_row_of (code_of number) x) (row_of (code_of number) x) (row_apart (code_of number) (valid_of number known) x h) i j hi hj e
