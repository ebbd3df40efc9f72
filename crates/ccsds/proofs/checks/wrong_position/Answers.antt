-- `ccsds::checks::wrong_position` meets its contract: each test decides one part of the condition.
-- Assumes nothing.
use borrow.Author.Tests.{eq-eqb, ne_eqb}
use Rattle.ccsds.specs.Refusals.{wrong_position}
use Rattle.ccsds.proofs.checks.wrong_position.Goals as goal

pub returns-then-lwc-eq0 : goal.returns-then-lwc-eq0
unfolding wrong_position
returns-then-lwc-eq0 c = rw (eq-eqb _ _ c.if-lwc-eq0.true)

pub returns-else-lwc-eq0 : goal.returns-else-lwc-eq0
unfolding wrong_position
returns-else-lwc-eq0 c = rw (ne_eqb _ _ c.if-lwc-eq0.false)
