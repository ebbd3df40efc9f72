-- Arrays that are filled from the front.
-- Assumes nothing.
use mathlib.Core.Path.{◌≡◌, refl, sym, ap, ◌∙◌}
use mathlib.Core.List.{List}
use Prim.Native.Nat.{ℕ, ◌+◌, ◌<◌, ◌≤◌}
use native.Mathlib.Nat.{not-suc-le-zero}
use native.Mathlib.Decide.{dec_lt}
use native.Mathlib.Omega.{arith}
use lib.ListN.{length, get_or, set, length-set}
use lib.Seq.{get_or-set_same, get_or-set_other}

-- element i is written after those before it, each of which is what f says
front-more : (f : ℕ → ℕ) (l : List ℕ) (i v : ℕ) → i < length l → ((k : ℕ) → k < i → get_or l k 0 ≡ f k) → v ≡ f i
    → (k : ℕ) → k < i + 1 → get_or (set l i v) k 0 ≡ f k
front-more f l i v h each e k g = go (dec_lt k i)
  where
    go : Dec (k < i) → get_or (set l i v) k 0 ≡ f k
    go (yes b) = get_or-set_other l i k v 0 (λ q. omega arith) ∙ each k b
    go (no b) =
        let q : i ≡ k = omega arith in
        ap (λ (j : ℕ). get_or (set l i v) j 0) (sym q) ∙ get_or-set_same l i v 0 h ∙ e ∙ ap f q

-- t has room for n elements, and its first i are what f says
pub record Filled (f : ℕ → ℕ) (n i : ℕ) (t : List ℕ) : Type 0 where
  pub up_to : i ≤ n
  pub size : length t ≡ n
  pub each : (b : ℕ) → b < i → get_or t b 0 ≡ f b

module _ {f : ℕ → ℕ} {n : ℕ} {t : List ℕ} where
  pub filled_none : length t ≡ n → Filled f n 0 t
  filled_none h = record { up_to = omega arith; size = h; each = λ b g. absurd (not-suc-le-zero g) }

  pub filled_more : {i v : ℕ} → Filled f n i t → i < n → v ≡ f i → Filled f n (i + 1) (set t i v)
  filled_more {i} {v} h g e = record {
    up_to = omega arith;
    size = length-set t i v ∙ h.size;
    each = front-more f t i v (omega (arith, h.size)) h.each e;
  }

  pub filled_all : {i : ℕ} → Filled f n i t → n ≤ i → (b : ℕ) → b < n → get_or t b 0 ≡ f b
  filled_all h g b k = h.each b (omega arith)

-- the first i elements of l are changed to what f says, and the others are as they were
pub record Changed (f : ℕ → ℕ) (l t : List ℕ) (i : ℕ) : Type 0 where
  pub size : length t ≡ length l
  pub done : (k : ℕ) → k < i → get_or t k 0 ≡ f k
  pub rest : (k : ℕ) → i ≤ k → get_or t k 0 ≡ get_or l k 0

pub changed_none : (f : ℕ → ℕ) (l : List ℕ) → Changed f l l 0
changed_none f l = record { size = refl; done = λ k h. absurd (not-suc-le-zero h); rest = λ k h. refl }

pub changed_more : {f : ℕ → ℕ} {l t : List ℕ} {i : ℕ} (v : ℕ) → Changed f l t i → i < length l → v ≡ f i → Changed f l (set t i v) (i + 1)
changed_more {f} {l} {t} {i} v C h e = record {
  size = length-set t i v ∙ C.size;
  done = front-more f t i v (omega (arith, C.size)) C.done e;
  rest = λ k g. get_or-set_other t i k v 0 (λ q. omega arith) ∙ C.rest k (omega arith);
}
