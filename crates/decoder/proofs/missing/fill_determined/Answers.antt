-- `decoder::missing::fill_determined` meets its contract. The invariant: the first i positions are filled.
-- Assumes nothing.
use mathlib.Core.Path.{sym, ◌∙◌}
use Prim.Native.Nat.{◌<◌}
use native.Mathlib.Omega.{arith}
use lib.ListN.{length}
use Rattle.decoder.proofs.Clearing.{upto_more}
use Rattle.decoder.proofs.Filling.{same_known, filled_more}
use Rattle.decoder.proofs.missing.fill_determined.Goals as goal

pub fill_at-requires-clause-readable : goal.fill_at-requires-clause-readable
fill_at-requires-clause-readable c e =
    let l = c.loop-i in
    let h : l.i < length c.args.states.now = omega (arith, l.invariant.0.states-size) in
    c.requires.by_index l.i h (sym (same_known (l.invariant.1.rest l.i (omega arith))) ∙ e)

pub loop-i-preserved : goal.loop-i-preserved
loop-i-preserved c =
    let k = c.fill_at in
    let l = c.loop-i in
    let u = l.invariant.0 in
    (upto_more u (omega (arith, u.states-size)) k.auto.symbols k.auto.states, filled_more _ _ _ _ _ _ _ _ _ _ _ l.invariant.1 k.ensures)
