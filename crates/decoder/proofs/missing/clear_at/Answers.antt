-- `decoder::missing::clear_at` meets its contract, by the state at the position.
-- Assumes nothing.
use mathlib.Core.Path.{◌∙◌}
use Rattle.decoder.proofs.Clearing.{known-one, known-not, stays, goes}
use Rattle.peeling.proofs.SymbolLaws.{zeroed_symbol}
use Rattle.decoder.proofs.missing.clear_at.Goals as goal

pub returns-then-states-i-eq-KNOWN : goal.returns-then-states-i-eq-KNOWN
returns-then-states-i-eq-KNOWN c =
    let h = known-one c.args.states.now c.args.i c.if-states-i-eq-KNOWN.true in
    record { symbols_after = stays _ _ _ h; states_after = stays _ _ _ h }

pub returns : goal.returns
returns c =
    let a = c.args in
    let h = known-not a.states.now a.i c.if-states-i-eq-KNOWN.false in
    record { symbols_after = zeroed_symbol a.symbols.now a.i a.w c.requires.1 _ (c.fill.ensures.after (λ y e. e)) ∙ goes _ _ _ h; states_after = goes _ _ _ h }
