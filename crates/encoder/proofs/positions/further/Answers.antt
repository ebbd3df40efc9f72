-- `encoder::positions::further` meets its contract: one subtraction does for the remainder.
-- Assumes nothing.
use Rattle.std.proofs.Common.{refl}
use Rattle.encoder.proofs.Cycle.{further_low, further_high}
use Rattle.encoder.proofs.positions.further.Goals as goal

pub returns-then-x-end : goal.returns-then-x-end
returns-then-x-end c = λ h. further_low _ _ _ _ h _ refl c.if-x-end.true

pub returns-else-x-end : goal.returns-else-x-end
returns-else-x-end c = λ h. further_high _ _ _ _ h _ refl c.if-x-end.false
