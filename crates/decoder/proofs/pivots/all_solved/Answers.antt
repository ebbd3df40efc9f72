-- `decoder::pivots::all_solved` meets its contract.
-- Assumes nothing.
use Rattle.std.proofs.Common.{rules, arith, ◌≡◌, ℕ, suc, ◌<◌, ◌≤◌, ltb, length, Bool, true, false, List, [], ◌∷◌, get_or, take, sym, refl}
use Rattle.std.specs.List.{list_all}
use Rattle.std.proofs.lemmas.List.{get_or-take, get_or_default, length-take}
use Rattle.std.proofs.lemmas.List.Sums.{AllPass-from_list_all}
use Rattle.std.proofs.lemmas.Iterator.{YieldsList-from_slice}
use Rattle.std.proofs.lemmas.Iterator.Search.{all_from_yields_List}
use Rattle.std.proofs.lemmas.Iterator.Adapters.{serves_from_places}
use Rattle.std.proofs.lemmas.List.Elements.{All-get_or}
use borrow.Author.Tests.{ltb-true, ltb-false}
use Rattle.peeling.specs.Plan.{Arrays, kind_of, pivot_of}
use Rattle.decoder.specs.Pivots.{AllSolvedIs}
use Rattle.decoder.proofs.pivots.all_solved.Goals as goal
use Rattle.decoder.proofs.pivots.all_solved.Goals.{Start}

-- the positions of the pivots
abbrev positions : Arrays → ℕ → List ℕ
positions plan s = take s plan.pivots

position : (plan : Arrays) (s k : ℕ) → k < s → get_or (positions plan s) k 0 ≡ pivot_of plan k
position plan s k h = get_or-take s plan.pivots k 0 h

-- some number fails the test
fails : (p : ℕ → Bool) (xs : List ℕ) → list_all p xs ≡ false → (k : ℕ) × ((k < length xs) × (p (get_or xs k 0) ≡ false))
fails p [] e = absurd cc
fails p (x ∷ xs) e = go (p x) refl (λ f. fails p xs (rw f at e))
  where
    go : (b : Bool) → p x ≡ b → (p x ≡ true → (k : ℕ) × ((k < length xs) × (p (get_or xs k 0) ≡ false))) → (k : ℕ) × ((k < length (x ∷ xs)) × (p (get_or (x ∷ xs) k 0) ≡ false))
    go true f rest = let r = rest f in (suc r.0, (omega (arith, r.1.0), r.1.1))
    go false f rest = (0, (omega arith, f))

solved : (plan : Arrays) (s : ℕ) → s ≤ 3072 → (r : Bool) → r ≡ list_all (λ p. ltb 4096 (kind_of plan p)) (positions plan s) → AllSolvedIs plan s r
solved plan s fit true e = λ u h.
    let n : length (positions plan s) ≡ s = omega (arith, length-take s plan.pivots, plan.pivots_len) in
    rw (← position plan s u h) (ltb-true 4096 _ (All-get_or (λ p. ltb 4096 (kind_of plan p) ≡ true) (positions plan s) u 0 (omega (arith, n)) (AllPass-from_list_all _ _ (sym e))))
solved plan s fit false e =
    let n : length (positions plan s) ≤ s = omega (arith, length-take s plan.pivots, plan.pivots_len) in
    let f = fails (λ p. ltb 4096 (kind_of plan p)) (positions plan s) (sym e) in
    let h : f.0 < s = omega (arith, f.1.0, n) in
    (f.0, (h, rw (← position plan s f.0 h) (ltb-false _ _ f.1.1)))

pub all-requires-clause-callable : goal.all-requires-clause-callable
all-requires-clause-callable c =
    let a = c.args in
    let xs : List ℕ = positions a.plan.now a.pivots in
    let few : length xs ≤ a.pivots = omega (arith, length-take a.pivots a.plan.now.pivots) in
    serves_from_places (YieldsList-from_slice xs (search rules)) (λ x q r. search rules) (λ x k h e. let j : x.now < length a.plan.now.kinds = omega (arith, e, get_or_default xs k x.now 0 h, position a.plan.now a.pivots k (omega (arith, few)), c.requires.by_index k (omega (arith, few)), a.plan.now.kinds_len) in search rules)

pub returns : goal.returns
returns c =
    let a = c.args in
    let q = all_from_yields_List (λ p. ltb 4096 (kind_of a.plan.now p)) _ _ _ c.all.ensures.ran (YieldsList-from_slice (positions a.plan.now a.pivots) (search rules)) (λ x b q k. search rules) in
    solved a.plan.now a.pivots c.requires.few _ q
