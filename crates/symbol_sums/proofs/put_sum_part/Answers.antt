-- `symbol_sums::put_sum_part` meets its contract.
-- Assumes nothing.
use mathlib.Core.Path.{refl}
use Rattle.symbol_sums.proofs.put_sum_part.Goals as goal

pub returns : goal.returns
returns g c = c.put.ensures _ _ _ refl (c.gather-s.ensures _ c.before-start.ensures)
