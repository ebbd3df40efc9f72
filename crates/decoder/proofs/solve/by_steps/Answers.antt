-- `decoder::solve::by_steps` meets its contract.
-- Assumes nothing.
use native.Mathlib.Omega.{arith}
use Rattle.decoder.proofs.Assembly.{by-steps_no, by-steps-yes}
use Rattle.decoder.proofs.solve.by_steps.Goals as goal

pub returns-then-hold : goal.returns-then-hold
returns-then-hold c =
    by-steps-yes c.requires.peeled.1 c.requires.peeled.0 c.requires.states_len _ c.hold.ensures c.if-hold.true (λ t. omega (arith, c.slice_known-1.given t)) _ c.fill_missing.ensures

pub returns : goal.returns
returns c =
    by-steps_no c.requires.peeled.1 c.requires.peeled.0 c.requires.states_len _ c.hold.ensures c.if-hold.false _ _ c.clear_missing.ensures c.clear_missing.auto.symbols c.clear_missing.auto.states
