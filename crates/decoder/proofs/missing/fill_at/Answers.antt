-- `decoder::missing::fill_at` meets its contract, by the state at the position and by what it depends on.
-- Assumes nothing.
use mathlib.Core.Path.{subst}
use native.Mathlib.Omega.{arith}
use lib.ListN.{length}
use Rattle.algebra.proofs.Codeword.{slot}
use Rattle.decoder.specs.Pivots.{DeterminedIs}
use Rattle.decoder.proofs.Clearing.{known-one, known-not}
use Rattle.decoder.proofs.Filling.{one_known, one-determined, one_left}
use Rattle.decoder.proofs.missing.fill_at.Goals as goal

pub returns-then-states-p-eq-KNOWN : goal.returns-then-states-p-eq-KNOWN
returns-then-states-p-eq-KNOWN c = one_known _ _ _ _ _ _ _ (known-one c.args.states.now c.args.p c.if-states-p-eq-KNOWN.true)

pub determined-requires-clause-readable : goal.determined-requires-clause-readable
determined-requires-clause-readable c = c.requires.readable (known-not c.args.states.now c.args.p c.if-states-p-eq-KNOWN.false)

pub returns-then-determined : goal.returns-then-determined
returns-then-determined c =
    one-determined _ _ _ _ _ c.args.states.now _ (known-not c.args.states.now c.args.p c.if-states-p-eq-KNOWN.false) c.requires.p_in_bounds.0
    (subst (DeterminedIs _ _ _ _) c.if-determined.true c.determined.ensures)

pub returns : goal.returns
returns c =
    one_left _ _ _ _ _ c.args.states.now _ (known-not c.args.states.now c.args.p c.if-states-p-eq-KNOWN.false) c.requires.p_in_bounds.0
    (omega (arith, slot c.args.p (length c.args.states.now) c.args.system.now.block.now.shape.w c.requires.p_in_bounds.0, c.requires.p_in_bounds.1))
    (subst (DeterminedIs _ _ _ _) c.if-determined.false c.determined.ensures) _ _ c.clear_at.ensures.symbols_after c.clear_at.ensures.states_after
