-- The positions of a check row in an array: the information positions, and then those of the parity symbols.
-- Assumes nothing.
use Rattle.std.proofs.Common.{◌≡◌, ℕ, zero, suc, ◌+◌, ◌-◌, ◌*◌, ◌<◌, ◌≤◌, Bool, true, false, ◌&&◌, ◌||◌, eqb, ltb, List, get_or, set, sym, refl, ap, ◌∙◌, subst, ap₂, not-suc-le-zero, add-one, arith, length-set, get_or-set_other, get_or-set_same, ltb-true, le-ltb, lt-ltb, eqb-true}
use mathlib.Core.Path.{subst⁻¹}
use mathlib.Core.Bool.{false≢true}
use native.Mathlib.Decide.{dec_lt}
use Rattle.algebra.specs.Sums.{◌⊕◌, pick, sum}
use Rattle.algebra.specs.Lists.{tab}
use Rattle.algebra.specs.Codeword.{byte_at, row_sum}
use Rattle.algebra.specs.Staircase.{stair, staircase, before}
use Rattle.algebra.proofs.Sums as sums
use Rattle.algebra.proofs.Lists.{get_d_tab}
use Rattle.algebra.proofs.Staircase.{has-info, has-parity, check-row}
use Rattle.symbol_sums.specs.Gather.{gathered}
use Rattle.ccsds.specs.Codes.{Params, touches}
use Rattle.encoder.specs.inner.Positions.{sent_checks, Information, RowOf}
use Rattle.encoder.proofs.Sent.{sum-front}

-- ---- a check row's sum, for any numbers at the positions

module _ (k m : ℕ) (info : ℕ → ℕ → Bool) (f : ℕ → ℕ) where
  number_at : (i : ℕ) → i < k + m → byte_at 1 (tab (k + m) f) 0 i ≡ f i
  number_at i h = let e : i * 1 + 0 ≡ i = omega arith in ap (λ (t : ℕ). get_or (tab (k + m) f) t 0) e ∙ get_d_tab (k + m) f 0 i h

  row-sum : (j : ℕ) → j < m → sum ((staircase k m info).has j) f (k + m) ≡ sum (info j) f k ⊕ (f (k + j) ⊕ before (λ i. f (k + i)) j)
  unfolding row_sum staircase
  row-sum j h =
      let g : ℕ → ℕ = byte_at 1 (tab (k + m) f) 0 in
      sums.sum_ext ((staircase k m info).has j) f g (k + m) (λ p l. sym (number_at p l))
      ∙ check-row k m info 1 (tab (k + m) f) j 0 h
      ∙ ap₂ ◌⊕◌ (sums.sum_ext (info j) g f k (λ p l. number_at p (omega arith))) (ap₂ ◌⊕◌ (number_at (k + j) (omega arith)) (prior j h))
    where
      prior : (i : ℕ) → i < m → before (λ x. byte_at 1 (tab (k + m) f) 0 (k + x)) i ≡ before (λ x. f (k + x)) i
      prior zero l = refl
      prior (suc i) l = number_at (k + i) (omega arith)

before_at : (p : ℕ → ℕ) (j : ℕ) → 0 < j → before p j ≡ p (j - 1)
before_at p zero h = absurd (not-suc-le-zero h)
before_at p (suc j) h = let e : j ≡ suc j - 1 = omega arith in ap p e

-- ---- the information positions

module _ {c : Params} {fill : ℕ} where
  pub information-at : {i j n : ℕ} {xs : List ℕ} → Information c fill i n xs → i ≡ j → Information c fill j n xs
  information-at {n = n} {xs} r e = subst (λ (k : ℕ). Information c fill k n xs) e r

  pub information-kept : {j n : ℕ} {xs : List ℕ} → Information c fill j n xs → (i x : ℕ) → n ≤ i → Information c fill j n (set xs i x)
  information-kept {j} {n} {xs} r i x h = record {
    size = length-set xs i x ∙ r.size;
    few = r.few;
    below = λ y g. subst⁻¹ (λ (p : ℕ). p < fill) (same y g) (r.below y g);
    found = λ p l t. let s = r.found p l t in (s.0, (s.1.0, same s.0 s.1.0 ∙ s.1.1));
    total = λ f. sums.sum_ext (λ y. true) (λ y. f (get_or (set xs i x) y 0)) (λ y. f (get_or xs y 0)) n (λ y g. ap f (same y g)) ∙ r.total f;
  }
    where
      same : (y : ℕ) → y < n → get_or (set xs i x) y 0 ≡ get_or xs y 0
      same y g = get_or-set_other xs i y x 0 (λ e. omega arith)

-- whether information symbol x is sent and touches check row j
abbrev sent : Params → ℕ → ℕ → ℕ → Bool
sent c fill j x = ltb x fill && touches c x j

-- the sum of those that are
sent_sum : (c : Params) (fill j : ℕ) (f : ℕ → ℕ) → fill ≤ c.k → sum (sent c fill j) f c.k ≡ sum (λ x. touches c x j) f fill
sent_sum c fill j f most =
    sum-front (sent c fill j) f fill c.k most (λ p h l. ap (λ (b : Bool). pick (b && touches c p j) (f p)) (le-ltb p fill h))
    ∙ sums.sum_tests (sent c fill j) (λ x. touches c x j) f fill (λ p l. ap (λ (b : Bool). b && touches c p j) (lt-ltb p fill l))

and_both : (a b : Bool) → a && b ≡ true → (a ≡ true) × (b ≡ true)
and_both true b e = (refl, e)
and_both false b e = absurd (false≢true e)

-- ---- with the parity symbol behind them

module _ (c : Params) (fill : ℕ) (most : fill ≤ c.k) {j n : ℕ} {xs : List ℕ} (r : Information c fill j n xs) (hj : j < c.m) (own : get_or xs n 0 ≡ c.k + j) where
  one_more_lem : (f : ℕ → ℕ) (i : ℕ) → gathered f xs (i + 1) ≡ gathered f xs i ⊕ f (get_or xs i 0)
  one_more_lem f i = ap (gathered f xs) (add-one i) ∙ sums.sum-suc (λ y. true) (λ y. f (get_or xs y 0)) i

  own_sum : (f : ℕ → ℕ) → gathered f xs (n + 1) ≡ sum (sent c fill j) f c.k ⊕ f (c.k + j)
  own_sum f = one_more_lem f n ∙ ap₂ ◌⊕◌ (r.total f ∙ sym (sent_sum c fill j f most)) (ap f own)

  -- position p is that of an information symbol, of parity symbol j or of the one before it
  found_at : (u : ℕ) → n < u → ((i : ℕ) → suc i ≡ j → (n + 1 < u) × (get_or xs (n + 1) 0 ≡ c.k + i))
      → (p : ℕ) → p < c.k + c.m → (sent_checks c fill).has j p ≡ true → (i : ℕ) × ((i < u) × (get_or xs i 0 ≡ p))
  unfolding stair
  found_at u hu prior p hp t = go (dec_lt p c.k)
    where
      parity : (i : ℕ) → c.k + i ≡ p → (b : Bool) → eqb i j ≡ b → (b || eqb (suc i) j) ≡ true → (y : ℕ) × ((y < u) × (get_or xs y 0 ≡ p))
      parity i e true a h = (n, (hu, own ∙ ap (λ (x : ℕ). c.k + x) (sym (eqb-true i j a)) ∙ e))
      parity i e false a h = let d = prior i (eqb-true (suc i) j h) in (n + 1, (d.0, d.1 ∙ e))

      go : Dec (p < c.k) → (i : ℕ) × ((i < u) × (get_or xs i 0 ≡ p))
      go (yes h) =
          let b = and_both (ltb p fill) (touches c p j) (sym (has-info c.k c.m (sent c fill) j p h) ∙ t) in
          let a = r.found p (ltb-true p fill b.0) b.1 in
          (a.0, (omega (arith, a.1.0), a.1.1))
      go (no h) =
          let e : c.k + (p - c.k) ≡ p = omega arith in
          parity (p - c.k) e (eqb (p - c.k) j) refl
          (sym (has-parity c.k c.m (sent c fill) j (p - c.k)) ∙ ap ((sent_checks c fill).has j) e ∙ t)

  first-whole : j ≡ 0 → RowOf (sent_checks c fill) j (n + 1) xs
  unfolding staircase
  first-whole z = record {
    size = r.size;
    few = omega (arith, r.few);
    below = λ i h. go i h (dec_lt i n);
    found = found_at (n + 1) (omega arith) (λ i e. absurd (omega arith));
    total = λ f.
        own_sum f ∙ ap (λ (x : ℕ). sum (sent c fill j) f c.k ⊕ x) (sym (ap (λ (i : ℕ). f (c.k + j) ⊕ before (λ y. f (c.k + y)) i) z ∙ sums.unit (f (c.k + j))))
        ∙ sym (row-sum c.k c.m (sent c fill) f j hj);
  }
    where
      go : (i : ℕ) → i < n + 1 → Dec (i < n) → get_or xs i 0 < c.k + c.m
      go i h (yes l) = omega (arith, r.below i l)
      go i h (no l) = let e : i ≡ n = omega arith in subst⁻¹ (λ (y : ℕ). get_or xs y 0 < c.k + c.m) e (omega arith)

  later-whole : 0 < j → get_or xs (n + 1) 0 ≡ c.k + j - 1 → RowOf (sent_checks c fill) j (n + 2) xs
  unfolding staircase
  later-whole z e = record {
    size = r.size;
    few = omega (arith, r.few);
    below = λ i h. go i h (dec_lt i n) (dec_lt i (n + 1));
    found = found_at (n + 2) (omega arith) (λ i g. (omega arith, e ∙ omega arith));
    total = λ f.
        let s : ℕ = sum (sent c fill j) f c.k in
        let two : n + 2 ≡ n + 1 + 1 = omega arith in
        let last : c.k + j - 1 ≡ c.k + (j - 1) = omega arith in
        ap (gathered f xs) two ∙ one_more_lem f (n + 1) ∙ ap₂ ◌⊕◌ (own_sum f) (ap f (e ∙ last)) ∙ sums.assoc s (f (c.k + j)) (f (c.k + (j - 1)))
        ∙ ap (λ (x : ℕ). s ⊕ (f (c.k + j) ⊕ x)) (sym (before_at (λ y. f (c.k + y)) j z))
        ∙ sym (row-sum c.k c.m (sent c fill) f j hj);
  }
    where
      go : (i : ℕ) → i < n + 2 → Dec (i < n) → Dec (i < n + 1) → get_or xs i 0 < c.k + c.m
      go i h (yes l) g = omega (arith, r.below i l)
      go i h (no l) (yes g) = let d : i ≡ n = omega arith in subst⁻¹ (λ (y : ℕ). get_or xs y 0 < c.k + c.m) d (omega arith)
      go i h (no l) (no g) = let d : i ≡ n + 1 = omega arith in subst⁻¹ (λ (y : ℕ). get_or xs y 0 < c.k + c.m) d (omega arith)

-- as the code writes them
module _ (c : Params) (fill : ℕ) (most : fill ≤ c.k) {j n : ℕ} {xs : List ℕ} (r : Information c fill j n xs) (hj : j < c.m) (k : ℕ) (e : k ≡ c.k) where
  written : Information c fill j n (set xs n (k + j))
  written = information-kept r n (k + j) (omega arith)

  own_written : get_or (set xs n (k + j)) n 0 ≡ c.k + j
  own_written = get_or-set_same xs n (k + j) 0 (omega (arith, r.size, r.few)) ∙ ap (λ (x : ℕ). x + j) e

  pub first-row : j ≡ 0 → RowOf (sent_checks c fill) j (n + 1) (set xs n (k + j))
  first-row z = first-whole c fill most written hj own_written z

  pub later-row : 0 < j → RowOf (sent_checks c fill) j (n + 2) (set (set xs n (k + j)) (n + 1) (k + j - 1))
  later-row z =
      later-whole c fill most (information-kept written (n + 1) (k + j - 1) (omega arith)) hj
      (get_or-set_other (set xs n (k + j)) (n + 1) n (k + j - 1) 0 (λ q. omega arith) ∙ own_written) z
      (get_or-set_same (set xs n (k + j)) (n + 1) (k + j - 1) 0 (omega (arith, r.few, written.size)) ∙ ap (λ (x : ℕ). x + j - 1) e)
