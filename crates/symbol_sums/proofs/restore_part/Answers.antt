-- `symbol_sums::restore_part` meets its contract.
-- Assumes nothing.
use mathlib.Core.Path.{refl}
use Rattle.symbol_sums.proofs.restore_part.Goals as goal

pub gather-s-requires-clause-held : goal.gather-s-requires-clause-held
gather-s-requires-clause-held g c = ((λ b. 0), c.zero.ensures c.args.c)

pub returns : goal.returns
returns g c = c.put.ensures _ _ _ refl (c.gather-s.ensures _ (c.zero.ensures c.args.c))
