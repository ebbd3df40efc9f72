-- `symbol_sums::cancels_part` meets its contract.
-- Assumes nothing.
use Rattle.symbol_sums.proofs.cancels_part.Goals as goal

pub gather-requires-clause-held : goal.gather-requires-clause-held
gather-requires-clause-held g c = ((λ b. 0), c.zero.ensures c.args.c)
