-- A sum by one of its positions and the others.
-- Assumes nothing.
use mathlib.Core.Path.{◌≡◌, refl, ap₂, ◌∙◌}
use mathlib.Core.Bool.{Bool, true, false, not, ◌&&◌, cond}
use Prim.Native.Nat.{ℕ, ◌<◌}
use lib.Dec.{eqb}
use borrow.Author.Tests.{eq-eqb, eqb-true}
use Rattle.algebra.specs.Sums.{◌⊕◌, pick, sum}
use Rattle.algebra.proofs.Sums as sums
use Rattle.algebra.proofs.Lists.{and_iff}

-- f, and 0 at p
abbrev pub without : ℕ → (ℕ → ℕ) → ℕ → ℕ
without p f x = cond (eqb x p) 0 (f x)

pub sum_without : (a : ℕ → Bool) (f : ℕ → ℕ) (p n : ℕ) → p < n → a p ≡ true → sum a f n ≡ sum a (without p f) n ⊕ f p
sum_without a f p n l t =
    sums.sum-split a (λ x. eqb x p) f n
    ∙ ap₂ ◌⊕◌
    (sums.sum_terms (λ x. a x && not (eqb x p)) a f (without p f) n (λ x h. left (a x) (eqb x p) (f x)))
    (sums.sum-only (λ x. a x && eqb x p) f p n l (ap₂ ◌&&◌ t (eq-eqb p p refl)) (λ x h e. eqb-true x p ((and_iff (a x) (eqb x p)).0 e).1))
  where
    left : (b e : Bool) (v : ℕ) → pick (b && not e) v ≡ pick b (cond e 0 v)
    left true true v = refl
    left true false v = refl
    left false e v = refl
