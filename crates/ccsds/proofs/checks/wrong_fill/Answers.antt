-- `ccsds::checks::wrong_fill` meets its contract: each test decides one part of the condition.
-- Assumes nothing.
use borrow.Author.Tests.{eq-eqb, ne_eqb}
use Rattle.ccsds.specs.Fill.{wrong_fill}
use Rattle.ccsds.proofs.checks.wrong_fill.Goals as goal

pub returns-then-fill-eq0 : goal.returns-then-fill-eq0
unfolding wrong_fill
returns-then-fill-eq0 c = rw (eq-eqb _ _ c.if-fill-eq0.true)

pub returns-else-fill-eq0 : goal.returns-else-fill-eq0
unfolding wrong_fill
returns-else-fill-eq0 c = rw (ne_eqb _ _ c.if-fill-eq0.false)
