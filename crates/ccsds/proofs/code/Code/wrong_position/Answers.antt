-- `ccsds::code::Code::wrong_position` meets its contract.
-- Assumes nothing.
use Rattle.ccsds.proofs.code.Code.wrong_position.Goals as goal

pub returns : goal.returns
returns c = rw (← c.n.ensures) c.wrong_position.ensures
