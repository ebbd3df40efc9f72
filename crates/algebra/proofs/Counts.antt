-- Counts: those of 1, 2 and 0 are all where nothing is above 2, and a count is 0 just when no element is that.
-- Assumes nothing.
use mathlib.Core.Path.{◌≡◌, refl}
use mathlib.Core.Logic.{◌↔◌, ◌≢◌}
use mathlib.Core.Bool.{Bool, true, false, cond}
use mathlib.Core.List.{List, [], ◌∷◌}
use Prim.Native.Nat.{ℕ, zero, suc, ◌+◌, ◌≤◌, ◌<◌}
use native.Mathlib.Nat.{suc-ne-zero, zero-lt-suc, not-suc-le-zero, le_of_suc-le-suc}
use native.Mathlib.Omega.{arith}
use lib.Dec.{eqb}
use lib.ListN.{length, get_or}
use borrow.Author.Tests.{eqb-false}
use Rattle.algebra.specs.Lists.{count}
use Rattle.algebra.proofs.Lists.{eqb_iff}

pub count_all : (l : List ℕ) → ((i : ℕ) → i < length l → get_or l i 0 ≤ 2) → count 1 l + count 2 l + count 0 l ≡ length l
unfolding count
count_all [] h = refl
count_all (a ∷ l) h = go a (h zero (zero-lt-suc (length l))) (count_all l (λ i g. h (suc i) (omega arith)))
  where
    go : (v : ℕ) → v ≤ 2 → count 1 l + count 2 l + count 0 l ≡ length l
        → cond (eqb v 1) (suc (count 1 l)) (count 1 l) + cond (eqb v 2) (suc (count 2 l)) (count 2 l) + cond (eqb v 0) (suc (count 0 l)) (count 0 l) ≡ suc (length l)
    go zero k e = omega arith
    go (suc zero) k e = omega arith
    go (suc (suc zero)) k e = omega arith
    go (suc (suc (suc v))) k e = absurd (omega arith)

pub count_none : (v : ℕ) (l : List ℕ) → (count v l ≡ 0) ↔ ((i : ℕ) → i < length l → get_or l i 0 ≢ v)
unfolding count
count_none v [] = (λ e i h. absurd (not-suc-le-zero h), λ f. refl)
count_none v (a ∷ l) = (λ e. forth (count_none v l).0 (eqb a v) refl e, λ f. back (count_none v l).1 (eqb a v) refl f)
  where
    forth : (count v l ≡ 0 → (i : ℕ) → i < length l → get_or l i 0 ≢ v) → (d : Bool) → eqb a v ≡ d
        → cond d (suc (count v l)) (count v l) ≡ 0 → (i : ℕ) → i < suc (length l) → get_or (a ∷ l) i 0 ≢ v
    forth ih true q e i h = absurd (suc-ne-zero (count v l) e)
    forth ih false q e zero h = eqb-false a v q
    forth ih false q e (suc i) h = ih e i (le_of_suc-le-suc h)

    back : (((i : ℕ) → i < length l → get_or l i 0 ≢ v) → count v l ≡ 0) → (d : Bool) → eqb a v ≡ d
        → ((i : ℕ) → i < suc (length l) → get_or (a ∷ l) i 0 ≢ v) → cond d (suc (count v l)) (count v l) ≡ 0
    back ih true q f = absurd (f zero (zero-lt-suc (length l)) ((eqb_iff a v).0 q))
    back ih false q f = ih (λ i h. f (suc i) (omega arith))
