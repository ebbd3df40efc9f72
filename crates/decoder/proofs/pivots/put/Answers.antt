-- `decoder::pivots::put` meets its contract. The invariant: the first i rows were asked.
-- Assumes nothing.
use native.Mathlib.Omega.{arith}
use Rattle.decoder.proofs.PivotSymbols.{put-more}
use Rattle.decoder.proofs.pivots.put.Goals as goal

pub loop-i-preserved : goal.loop-i-preserved
loop-i-preserved c =
    let l = c.loop-i in
    let p = c.requires in (
      omega arith,
      put-more _ _ _ p.planned.0.states _ _ _ _ p.planned.0.made p.planned.1 p.symbols_len.0 _ _ _ l.invariant.1
          _ _ (p.by_index l.i c.loop-i-test.true) c.put_one.ensures,
    )
