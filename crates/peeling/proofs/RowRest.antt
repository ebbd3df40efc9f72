-- The positions of a check row without one of them: the last takes its place.
-- Assumes nothing.
use Rattle.std.proofs.Common.{take, ◌≤◌, ◌≡◌, ℕ, zero, suc, ◌-◌, ◌*◌, ◌<◌, Bool, true, false, eqb, ◌≢◌, List, length, get_or, set, sym, refl, ap, ◌∙◌, subst, ap₂, ⊎_elim, le_trans, not-suc-le-zero, arith, length-set, get_or-set_other, get_or-set_same, eq-eqb, ne_eqb}
use native.Mathlib.Nat.{le-suc}
use native.Mathlib.Decide.{ℕ_discrete}
use Rattle.algebra.specs.Sums.{◌⊕◌, pick, sum}
use Rattle.algebra.specs.Codeword.{Checks}
use Rattle.algebra.proofs.Sums.{assoc, comm, cancel, cancel_l, sum-suc, sum_ext, sum_terms, sum_zeros, sum_alone}
use Rattle.algebra.proofs.Codeword.{slot}
use Rattle.symbol_sums.specs.Gather.{gathered, Inside}
use Rattle.symbol_sums.proofs.Fronts.{inside_front}
use Rattle.encoder.specs.inner.Positions.{RowOf}

-- the first n - 1 of these are the first n of xs, but for the i-th
abbrev pub rest_of : List ℕ → ℕ → ℕ → List ℕ
rest_of xs n i = set xs i (get_or xs (n - 1) 0)

-- one number changes
sum_changed : (u v : ℕ → ℕ) (i n : ℕ) → i < n → ((k : ℕ) → k < n → k ≢ i → v k ≡ u k) → sum (λ k. true) v n ≡ sum (λ k. true) u n ⊕ (u i ⊕ v i)
sum_changed u v i zero h e = absurd (not-suc-le-zero h)
sum_changed u v i (suc n) h e =
    sum-suc (λ k. true) v n ∙ go (ℕ_discrete n i) (λ l. sum_changed u v i n l (λ k g. e k (le_trans g (le-suc n))))
    ∙ ap (λ (x : ℕ). x ⊕ (u i ⊕ v i)) (sym (sum-suc (λ k. true) u n))
  where
    total : ℕ
    total = sum (λ k. true) u n

    go : Dec (n ≡ i) → (i < n → sum (λ k. true) v n ≡ total ⊕ (u i ⊕ v i)) → sum (λ k. true) v n ⊕ v n ≡ total ⊕ u n ⊕ (u i ⊕ v i)
    go (yes d) ih =
        ap₂ ◌⊕◌ (sum_ext (λ k. true) v u n (λ k g. e k (le_trans g (le-suc n)) (λ f. omega arith))) (sym (cancel_l (u n) (v n)))
        ∙ sym (assoc total (u n) (u n ⊕ v n)) ∙ ap (λ (k : ℕ). total ⊕ u n ⊕ (u k ⊕ v k)) d
    go (no d) ih =
        ap₂ ◌⊕◌ (ih (omega arith)) (e n (omega arith) d) ∙ assoc total (u i ⊕ v i) (u n) ∙ ap (◌⊕◌ total) (comm (u i ⊕ v i) (u n)) ∙ sym (assoc total (u n) (u i ⊕ v i))

-- the sum of n + 1 numbers, by the n that are left
gathered-rest : (f : ℕ → ℕ) (xs : List ℕ) (i n : ℕ) → i < suc n → i < length xs → gathered f xs (suc n) ≡ gathered f (set xs i (get_or xs n 0)) n ⊕ f (get_or xs i 0)
gathered-rest f xs i n h l = sum-suc (λ k. true) (λ k. f (get_or xs k 0)) n ∙ go (ℕ_discrete n i)
  where
    rest : List ℕ
    rest = set xs i (get_or xs n 0)

    same : (k : ℕ) → k ≢ i → f (get_or rest k 0) ≡ f (get_or xs k 0)
    same k d = ap f (get_or-set_other xs i k (get_or xs n 0) 0 d)

    moved : f (get_or rest i 0) ≡ f (get_or xs n 0)
    moved = ap f (get_or-set_same xs i (get_or xs n 0) 0 l)

    total : ℕ
    total = gathered f xs n

    go : Dec (n ≡ i) → total ⊕ f (get_or xs n 0) ≡ gathered f rest n ⊕ f (get_or xs i 0)
    go (yes d) =
        ap₂ ◌⊕◌ (sym (sum_ext (λ k. true) (λ k. f (get_or rest k 0)) (λ k. f (get_or xs k 0)) n (λ k g. same k (λ e. omega arith)))) (ap (λ (k : ℕ). f (get_or xs k 0)) d)
    go (no d) =
        sym
        (ap (λ (x : ℕ). x ⊕ f (get_or xs i 0))
        (sum_changed (λ k. f (get_or xs k 0)) (λ k. f (get_or rest k 0)) i n (omega arith) (λ k g e. same k e) ∙ ap (λ (x : ℕ). total ⊕ (f (get_or xs i 0) ⊕ x)) moved
        ∙ ap (◌⊕◌ total) (comm (f (get_or xs i 0)) (f (get_or xs n 0))) ∙ sym (assoc total (f (get_or xs n 0)) (f (get_or xs i 0))))
        ∙ cancel (total ⊕ f (get_or xs n 0)) (f (get_or xs i 0)))

-- 1 at position p, else 0
abbrev at : ℕ → ℕ → ℕ
at p x = pick (eqb x p) 1

module _ {c : Checks} {r n : ℕ} {xs : List ℕ} (R : RowOf c r n xs) (i : ℕ) (h : i < n) where
  -- the check row's sum, by the sum of the others
  pub sum-rest : (f : ℕ → ℕ) → sum (c.has r) f c.n ≡ gathered f (rest_of xs n i) (n - 1) ⊕ f (get_or xs i 0)
  sum-rest f =
      let e : suc (n - 1) ≡ n = omega arith in
      let l : i < length xs = omega (arith, R.few, R.size) in
      sym (R.total f) ∙ ap (gathered f xs) (sym e) ∙ gathered-rest f xs i (n - 1) (omega arith) l

  -- each of the others stood among the first n
  pub rest_from : (k : ℕ) → k < n - 1 → (j : ℕ) × ((j < n) × ((j ≢ i) × (get_or (rest_of xs n i) k 0 ≡ get_or xs j 0)))
  rest_from k g = go (ℕ_discrete k i)
    where
      go : Dec (k ≡ i) → (j : ℕ) × ((j < n) × ((j ≢ i) × (get_or (rest_of xs n i) k 0 ≡ get_or xs j 0)))
      go (yes d) =
          (n - 1, (omega arith, (λ e. omega arith, ap (λ (x : ℕ). get_or (rest_of xs n i) x 0) d ∙ get_or-set_same xs i (get_or xs (n - 1) 0) 0 (omega (arith, R.few, R.size)))))
      go (no d) = (k, (omega arith, (d, get_or-set_other xs i k (get_or xs (n - 1) 0) 0 d)))

  pub rest_few : n - 1 ≤ length (rest_of xs n i)
  rest_few = omega (arith, length-set xs i (get_or xs (n - 1) 0), R.few, R.size)

  pub rest_inside : (w bytes : ℕ) → bytes ≡ c.n * w → Inside (take (n - 1) (rest_of xs n i)) w bytes
  rest_inside w bytes e =
      inside_front (rest_of xs n i) (n - 1) rest_few
      (λ k g.
      let j = rest_from k g in
      let b : get_or (rest_of xs n i) k 0 < c.n = subst (λ (x : ℕ). x < c.n) (sym j.1.1.1) (R.below j.0 j.1.0) in
      omega (arith, slot (get_or (rest_of xs n i) k 0) c.n w b))

  -- a position that stands once
  module _ (alone : (k : ℕ) → k < n → k ≢ i → get_or xs k 0 ≢ get_or xs i 0) where
    pub rest_ne : (k : ℕ) → k < n - 1 → get_or (rest_of xs n i) k 0 ≢ get_or xs i 0
    rest_ne k g e = let j = rest_from k g in alone j.0 j.1.0 j.1.1.0 (sym j.1.1.1 ∙ e)

    one : gathered (at (get_or xs i 0)) xs n ≡ 1
    one =
        sum_alone (λ k. at (get_or xs i 0) (get_or xs k 0)) i n h (λ k o g. ap (λ (b : Bool). pick b 1) (ne_eqb (get_or xs k 0) (get_or xs i 0) (alone k g (λ e. ⊎_elim (λ l. omega arith) (λ l. omega arith) o))))
        ∙ ap (λ (b : Bool). pick b 1) (eq-eqb (get_or xs i 0) (get_or xs i 0) refl)

    pub row_has : c.has r (get_or xs i 0) ≡ true
    row_has = go (c.has r (get_or xs i 0)) refl
      where
        p : ℕ
        p = get_or xs i 0

        none : c.has r p ≡ false → (x : ℕ) → x < c.n → pick (c.has r x) (at p x) ≡ pick (c.has r x) 0
        none e x l = other (ℕ_discrete x p)
          where
            other : Dec (x ≡ p) → pick (c.has r x) (at p x) ≡ pick (c.has r x) 0
            other (yes d) = ap (λ (b : Bool). pick b (at p x)) (ap (c.has r) d ∙ e) ∙ sym (ap (λ (b : Bool). pick b 0) (ap (c.has r) d ∙ e))
            other (no d) = ap (λ (b : Bool). pick (c.has r x) (pick b 1)) (ne_eqb x p d)

        go : (b : Bool) → c.has r p ≡ b → c.has r p ≡ true
        go true e = e
        go false e =
            let z : ◌≡◌ {A = ℕ} 1 0 = sym one ∙ R.total (at p) ∙ sum_terms (c.has r) (c.has r) (at p) (λ x. 0) c.n (none e) ∙ sum_zeros (c.has r) c.n in
            absurd (omega arith)
