-- Parity symbol after parity symbol: what is written is the code's parity.
-- Assumes nothing.
use Rattle.std.proofs.Common.{◌≡◌, ℕ, zero, suc, ◌+◌, ◌-◌, ◌*◌, ◌/◌, ◌%◌, ◌<◌, ◌≤◌, List, ◌∷◌, ◌++◌, length, get_or, take, replicate, sym, refl, ap, ◌∙◌, subst, ap₂, inl, not-suc-le-zero, mul-le-mul_right, mod-lt, div-lt_iff_lt-mul, div-add-mod', arith, get_or-append-add, ext_get_or}
use native.Mathlib.Decide.{dec_lt}
use lib.ListN.{get_or-append, get_or-eq_default}
use Rattle.algebra.specs.Sums.{◌⊕◌, pick, sum}
use Rattle.algebra.specs.Lists.{tab}
use Rattle.algebra.specs.Codeword.{byte_at}
use Rattle.algebra.specs.Staircase.{before, parity, parity_bytes}
use Rattle.algebra.proofs.Sums as sums
use Rattle.algebra.proofs.Lists.{length-tab, get_d_tab}
use Rattle.algebra.proofs.Codeword.{slot}
use Rattle.algebra.proofs.Staircase.{parity_ext}
use Rattle.symbol_sums.proofs.Fronts.{inside_front}
use Rattle.symbol_sums.specs.Gather.{gathered, Inside, Replaced}
use Rattle.ccsds.specs.Codes.{Params, touches, encode_of}
use Rattle.ccsds.specs.Fill.{padded}
use Rattle.encoder.specs.inner.Positions.{Information}
use Rattle.encoder.specs.inner.Steps.{Done}
use Rattle.encoder.proofs.Sent.{sum-front, pick-zero}

pub done_at : {c : Params} {w : ℕ} {u : List ℕ} {i j : ℕ} {p : List ℕ} → Done c w u i p → i ≡ j → Done c w u j p
done_at {c} {w} {u} {p = p} d e = subst (λ (k : ℕ). Done c w u k p) e d

module _ (c : Params) (w : ℕ) (u : List ℕ) where
  -- byte b of parity symbol j
  abbrev parity_at : ℕ → ℕ → ℕ
  parity_at b j = parity c.k (λ i x. touches c x i) (byte_at w u b) j

  -- the information symbols of check row j, byte b
  abbrev row_at : ℕ → ℕ → ℕ
  row_at b j = sum (λ x. touches c x j) (byte_at w u b) c.k

  module _ (fill : ℕ) (e : length u ≡ fill * w) where
    -- the positions of a check row lie within the information symbols that are sent
    pub row_inside : {j n : ℕ} {xs : List ℕ} → Information c fill j n xs → Inside (take n xs) w (length u)
    row_inside {n = n} {xs} r = inside_front xs n (omega (arith, r.size, r.few)) (λ i g. omega (arith, slot (get_or xs i 0) fill w (r.below i g)))

    -- and there is nothing behind these
    row-front : fill ≤ c.k → (b j : ℕ) → row_at b j ≡ sum (λ x. touches c x j) (byte_at w u b) fill
    row-front most b j =
        sum-front (λ x. touches c x j) (byte_at w u b) fill c.k most (λ x h l.
        ap (pick (touches c x j)) (get_or-eq_default u 0 {n = x * w + b} (omega (arith, mul-le-mul_right w h))) ∙ pick-zero (touches c x j))

  pub done_none : {p : List ℕ} → length p ≡ c.m * w → Done c w u 0 p
  done_none e = record { size = e; each = λ i g. absurd (not-suc-le-zero g) }

  -- a parity symbol is the one before it plus its row's sum
  parity-next : (b j : ℕ) (p : List ℕ) → ((i : ℕ) → i < j → byte_at w p b i ≡ parity_at b i) → before (byte_at w p b) j ⊕ row_at b j ≡ parity_at b j
  unfolding parity
  parity-next b zero p f = sums.unit_l (row_at b 0)
  parity-next b (suc j) p f = ap (λ (x : ℕ). x ⊕ row_at b (suc j)) (f j (omega arith))

  -- symbol j more, by the number i that the code has for j
  pub done_more : {fill j i n : ℕ} {xs p p' : List ℕ} → length u ≡ fill * w → fill ≤ c.k → Done c w u j p → Information c fill j n xs → i ≡ j
      → Replaced (λ b. before (byte_at w p b) i ⊕ gathered (byte_at w u b) xs n) w i p p' → Done c w u (j + 1) p'
  done_more {fill} {j} {i} {n} {xs} {p} {p'} s most d r e h = record { size = h.size ∙ d.size; each = λ y g b k. go y g b k (dec_lt y j) }
    where
      own : (b : ℕ) → b < w → byte_at w p' b i ≡ parity_at b i
      own b k =
          h.each b k ∙ ap (λ (x : ℕ). before (byte_at w p b) i ⊕ x) (r.total (byte_at w u b) ∙ sym (row-front fill s most b j) ∙ ap (row_at b) (sym e))
          ∙ parity-next b i p (λ y g. d.each y (omega arith) b k)

      go : (y : ℕ) → y < j + 1 → (b : ℕ) → b < w → Dec (y < j) → byte_at w p' b y ≡ parity_at b y
      go y g b k (yes q) =
          let q' : y < i = omega arith in
          h.outside (y * w + b) (inl (omega (arith, slot y i w q'))) ∙ d.each y q b k
      go y g b k (no q) = let f : i ≡ y = omega arith in subst (λ (z : ℕ). byte_at w p' b z ≡ parity_at b z) f (own b k)

  pub done_all : {p : List ℕ} → 0 < w → Done c w u c.m p → p ≡ encode_of c w u
  unfolding parity_bytes
  done_all {p} some d =
      ext_get_or 0 p (tab (c.m * w) f) (d.size ∙ sym (length-tab (c.m * w) f)) (λ i l. here i (omega (arith, d.size)) ∙ sym (get_d_tab (c.m * w) f 0 i (omega (arith, d.size))))
    where
      f : ℕ → ℕ
      f t = parity_at (t % w) (t / w)

      here : (i : ℕ) → i < c.m * w → get_or p i 0 ≡ f i
      here i h =
          ap (λ (n : ℕ). get_or p n 0) (sym (div-add-mod' i w)) ∙ d.each (i / w) ((div-lt_iff_lt-mul some).1 h) (i % w) (mod-lt i some)

-- ---- the idle symbols, which are zero, make no difference

pub padded-byte : (k w fill : ℕ) (u : List ℕ) (t : ℕ) → get_or (padded k w fill u) t 0 ≡ get_or u t 0
unfolding padded
padded-byte k w fill u t = go (dec_lt t (length u))
  where
    n : ℕ
    n = (k - fill) * w

    zero-at : (m i : ℕ) → ◌≡◌ {A = ℕ} (get_or (replicate m 0) i 0) 0
    zero-at zero i = refl
    zero-at (suc m) zero = refl
    zero-at (suc m) (suc i) = zero-at m i

    go : Dec (t < length u) → get_or (u ++ replicate n 0) t 0 ≡ get_or u t 0
    go (yes h) = get_or-append u (replicate n 0) 0 t h
    go (no h) =
        let e : length u + (t - length u) ≡ t = omega arith in
        ap (λ (i : ℕ). get_or (u ++ replicate n 0) i 0) (sym e) ∙ get_or-append-add u (replicate n 0) (t - length u) 0 ∙ zero-at n (t - length u)
        ∙ sym (get_or-eq_default u 0 {n = t} (omega arith))

tab-same : (n : ℕ) (f g : ℕ → ℕ) → ((i : ℕ) → f i ≡ g i) → tab n f ≡ tab n g
unfolding tab
tab-same zero f g e = refl
tab-same (suc n) f g e = ap₂ {C = List ℕ} ◌∷◌ (e 0) (tab-same n (λ i. f (suc i)) (λ i. g (suc i)) (λ i. e (suc i)))

pub padded-parity : (c : Params) (w fill : ℕ) (u : List ℕ) → encode_of c w (padded c.k w fill u) ≡ encode_of c w u
unfolding parity_bytes
padded-parity c w fill u =
    tab-same (c.m * w) _ _ (λ t.
    parity_ext c.k c.m (λ j x. touches c x j) (byte_at w (padded c.k w fill u) (t % w)) (byte_at w u (t % w)) (λ i h. padded-byte c.k w fill u (i * w + t % w)) (t / w))
