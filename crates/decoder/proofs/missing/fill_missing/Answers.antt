-- `decoder::missing::fill_missing` meets its contract. The invariant: the first i states are filled.
-- Assumes nothing.
use native.Mathlib.Omega.{arith}
use lib.ListN.{length-set}
use Rattle.decoder.proofs.Filling.{states-more}
use Rattle.decoder.proofs.missing.fill_missing.Goals as goal

pub loop-state-preserved : goal.loop-state-preserved
loop-state-preserved c =
    let l = c.loop-state in (
      omega arith,
      (simp length-set l.invariant.1.0, states-more _ _ _ _ (omega arith) c.filled.ensures l.invariant.1.1),
    )
