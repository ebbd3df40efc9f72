-- `decoder::solve::fill` meets its contract.
-- Assumes nothing.
use native.Mathlib.Omega.{arith}
use Rattle.decoder.proofs.Assembly.{steps_asks, fill_asks, by-rows_all, by-rows-some}
use Prim.Native.Nat.{ℕ, ◌<◌}
use lib.ListN.{get_or}
use Rattle.decoder.proofs.solve.fill.Goals as goal
use Rattle.decoder.proofs.solve.fill.Goals.{After-all_solved}

pub returns-then-all_solved : goal.returns-then-all_solved
returns-then-all_solved c =
    let p = c.requires in
    by-rows_all p.solvable p.states_len c.put_in.ensures p.consistent (λ t. omega (arith, c.type_inv.symbols t)) _ c.all_solved.ensures c.if-all_solved.true _ c.fill_missing.ensures

pub steps-requires-clause-planned : goal.steps-requires-clause-planned
steps-requires-clause-planned c = (steps_asks c.requires.solvable c.requires.states_len c.put_in.ensures).0

pub steps-requires-clause-places : goal.steps-requires-clause-places
steps-requires-clause-places c = (steps_asks c.requires.solvable c.requires.states_len c.put_in.ensures).1.1

pub fill_determined-requires-clause-by_index : goal.fill_determined-requires-clause-by_index
fill_determined-requires-clause-by_index c =
    let s = c.steps.ensures in
    (fill_asks c.requires.solvable c.requires.states_len c.put_in.ensures s.steps_expressed s.same_from).1.1

-- the symbols are bytes
bytes : (c : After-all_solved) → (t : ℕ) → get_or c.put_in.new.symbols t 0 < 256
bytes c t = omega (arith, c.type_inv.symbols t)

pub returns : goal.returns
returns c =
    let p = c.requires in
    by-rows-some p.solvable p.states_len c.put_in.ensures p.consistent (bytes (goal.at.returns c).After-all_solved) c.steps.ensures.steps_expressed c.steps.ensures.same_from _ _ c.fill_determined.ensures
