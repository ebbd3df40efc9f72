-- `ccsds::code::Code::wrong_width` meets its contract.
-- Assumes nothing.
use borrow.Author.Tests.{eq-eqb, ne_eqb}
use Rattle.ccsds.specs.Refusals.{wrong_width}
use Rattle.ccsds.proofs.code.Code.wrong_width.Goals as goal

pub returns-then-w-eq0 : goal.returns-then-w-eq0
unfolding wrong_width
returns-then-w-eq0 c = rw (eq-eqb _ _ c.if-w-eq0.true)

pub returns-else-w-eq0 : goal.returns-else-w-eq0
unfolding wrong_width
returns-else-w-eq0 c = rw (ne_eqb _ _ c.if-w-eq0.false)
