-- All lists of bytes of one length, as a list, and the elements of a list that pass a test. Nothing ever computes `words`: of two bytes there
-- are 65536. Proofs know it by what is in it (`mem-words`) and by that nothing is in it twice (`once_words`).
-- Assumes nothing.
use Rattle.std.specs.Prelude.{Bool, cond, List, [], ◌∷◌, ◌++◌, map, ℕ, zero, suc}

-- the elements of l for which f holds
unfoldable pub filter : {A : Type 0} → (A → Bool) → List A → List A
filter f [] = []
filter f (a ∷ l) = cond (f a) (a ∷ filter f l) (filter f l)

-- each list of l behind each number below k
unfoldable pub behind : ℕ → List (List ℕ) → List (List ℕ)
behind zero l = []
behind (suc k) l = behind k l ++ map (λ x. k ∷ x) l

-- all lists of n bytes
unfoldable pub words : ℕ → List (List ℕ)
words zero = [] ∷ []
words (suc n) = behind 256 (words n)
