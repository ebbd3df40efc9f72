-- Tests of all numbers below a bound, lists made from a function, and counts.
-- Assumes nothing.
use Rattle.std.specs.Prelude.{Bool, true, ◌&&◌, cond, List, [], ◌∷◌, ℕ, zero, suc, eqb}

-- f holds for every number below n
unfoldable pub every : ℕ → (ℕ → Bool) → Bool
every zero f = true
every (suc n) f = every n f && f n

-- f 0, f 1, .., f (n - 1)
unfoldable pub tab : {A : Type 0} → ℕ → (ℕ → A) → List A
tab zero f = []
tab (suc n) f = f zero ∷ tab n (λ i. f (suc i))

-- how many elements of a list are v
unfoldable pub count : ℕ → List ℕ → ℕ
count v [] = 0
count v (a ∷ l) = cond (eqb a v) (suc (count v l)) (count v l)
