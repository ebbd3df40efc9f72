-- Elements written one after the other: what stands where.
-- Assumes nothing.
use mathlib.Core.Path.{◌≡◌, sym, ap, ap₂, ◌∙◌, subst}
use mathlib.Core.Logic.{◌≢◌}
use mathlib.Core.List.{List}
use Prim.Native.Nat.{ℕ, zero, suc, ◌+◌, ◌<◌, ◌≤◌}
use native.Mathlib.Nat.{not-suc-le-zero}
use native.Mathlib.Numerals.{add-one}
use native.Mathlib.Decide.{dec_lt}
use native.Mathlib.Omega.{arith}
use lib.ListN.{length, get_or, set, length-set}
use lib.Seq.{get_or-set_same, get_or-set_other}

-- g n is d, where f b was written to index at + b, for each b below n in turn
pub record Writes (d : List ℕ) (at : ℕ) (f : ℕ → ℕ) (g : ℕ → List ℕ) : Type 0 where
  pub none : g 0 ≡ d
  pub next : (n : ℕ) → g (suc n) ≡ set (g n) (at + n) (f n)

module _ {d : List ℕ} {at : ℕ} {f : ℕ → ℕ} {g : ℕ → List ℕ} (h : Writes d at f g) where
  pub writes_length : (n : ℕ) → length (g n) ≡ length d
  writes_length zero = ap length h.none
  writes_length (suc n) = ap length (h.next n) ∙ length-set (g n) (at + n) (f n) ∙ writes_length n

  -- outside the part that is written nothing changes
  pub writes_out : (n k : ℕ) → ((b : ℕ) → b < n → k ≢ at + b) → get_or (g n) k 0 ≡ get_or d k 0
  writes_out zero k o = ap (λ (l : List ℕ). get_or l k 0) h.none
  writes_out (suc n) k o =
      ap (λ (l : List ℕ). get_or l k 0) (h.next n) ∙ get_or-set_other (g n) (at + n) k (f n) 0 (o n (omega arith)) ∙ writes_out n k (λ b q. o b (omega arith))

  pub writes_in : (n b : ℕ) → b < n → at + n ≤ length d → get_or (g n) (at + b) 0 ≡ f b
  writes_in zero b q l = absurd (not-suc-le-zero q)
  writes_in (suc n) b q l = ap (λ (k : List ℕ). get_or k (at + b) 0) (h.next n) ∙ go (dec_lt b n) (λ p. writes_in n b p (omega arith))
    where
      go : Dec (b < n) → (b < n → get_or (g n) (at + b) 0 ≡ f b) → get_or (set (g n) (at + n) (f n)) (at + b) 0 ≡ f b
      go (yes p) r = get_or-set_other (g n) (at + n) (at + b) (f n) 0 (λ e. omega arith) ∙ r p
      go (no p) r =
          let e : n ≡ b = omega arith in
          subst (λ (i : ℕ). get_or (set (g n) (at + n) (f n)) (at + i) 0 ≡ f i) e (get_or-set_same (g n) (at + n) (f n) 0 (omega (arith, writes_length n)))

  -- one more
  pub writes_more : (n : ℕ) (l : List ℕ) (v : ℕ) → l ≡ g n → v ≡ f n → set l (at + n) v ≡ g (n + 1)
  writes_more n l v e q = ap₂ (λ (k : List ℕ) (x : ℕ). set k (at + n) x) e q ∙ sym (h.next n) ∙ ap g (sym (add-one n))

-- only what is written matters, not where it is read
pub writes_same : {d : List ℕ} {at : ℕ} {f f' : ℕ → ℕ} {g g' : ℕ → List ℕ} → Writes d at f g → Writes d at f' g' → (n : ℕ) → ((b : ℕ) → b < n → f b ≡ f' b)
    → g n ≡ g' n
writes_same h h' zero e = h.none ∙ sym h'.none
writes_same {at = at} h h' (suc n) e =
    h.next n ∙ ap₂ (λ (l : List ℕ) (v : ℕ). set l (at + n) v) (writes_same h h' n (λ b q. e b (omega arith))) (e n (omega arith)) ∙ sym (h'.next n)

-- n were written, and then m more
pub writes_join : {d : List ℕ} {at : ℕ} {f : ℕ → ℕ} {g : ℕ → List ℕ} → Writes d at f g → (n : ℕ) {f' : ℕ → ℕ} {g' : ℕ → List ℕ} → Writes (g n) (at + n) f' g'
    → (m : ℕ) → ((b : ℕ) → b < m → f' b ≡ f (n + b)) → g' m ≡ g (n + m)
writes_join {g = g} h n h' zero e = let z : n ≡ n + 0 = omega arith in h'.none ∙ ap g z
writes_join {at = at} {f} {g} h n h' (suc m) e =
    let a : at + n + m ≡ at + (n + m) = omega arith in
    let z : suc (n + m) ≡ n + suc m = omega arith in
    h'.next m ∙ ap₂ (λ (l : List ℕ) (v : ℕ). set l (at + n + m) v) (writes_join h n h' m (λ b q. e b (omega arith))) (e m (omega arith))
    ∙ ap (λ (k : ℕ). set (g (n + m)) k (f (n + m))) a ∙ sym (h.next (n + m)) ∙ ap g z
