-- `decoder::missing::clear_missing` meets its contract.
-- Assumes nothing.
use mathlib.Core.Path.{◌∙◌}
use Prim.Native.Nat.{◌<◌}
use native.Mathlib.Omega.{arith}
use lib.ListN.{length}
use Rattle.decoder.proofs.Clearing.{upto_more, cleared_more}
use Rattle.decoder.proofs.missing.clear_missing.Goals as goal

pub loop-i-preserved : goal.loop-i-preserved
loop-i-preserved c =
    let l = c.loop-i in
    let a = c.args in
    let k = c.clear_at in
    let h : l.i < length a.states.now = omega arith in
    let u = l.invariant.0 in (
      upto_more u h k.auto.symbols k.auto.states,
      cleared_more (length a.states.now) a.w a.symbols.now a.states.now l.symbols l.states l.i h (u.symbols-size ∙ c.requires) u.states-size l.invariant.1 _ _ k.ensures.symbols_after k.ensures.states_after,
    )
