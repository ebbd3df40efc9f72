-- `decoder::solve::put_in` meets its contract.
-- Assumes nothing.
use Rattle.decoder.proofs.Assembly.{put_asks, restore_asks}
use Rattle.decoder.proofs.solve.put_in.Goals as goal

pub put-requires-clause-by_index : goal.put-requires-clause-by_index
put-requires-clause-by_index c = (put_asks c.requires.1).1.1.1

pub restore_steps-requires-clause-planned : goal.restore_steps-requires-clause-planned
restore_steps-requires-clause-planned c = (restore_asks c.requires.1 c.put.ensures).0

pub restore_steps-requires-clause-symbols_len : goal.restore_steps-requires-clause-symbols_len
restore_steps-requires-clause-symbols_len c = (restore_asks c.requires.1 c.put.ensures).1
