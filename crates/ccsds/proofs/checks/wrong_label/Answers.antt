-- `ccsds::checks::wrong_label` meets its contract: each test decides one part of the condition.
-- Assumes nothing.
use mathlib.Core.Logic.{◌⊎◌, inl, inr}
use borrow.Author.Tests.{lt-ltb, le-ltb, eq-eqb, ne_eqb}
use Rattle.ccsds.specs.Refusals.{wrong_label}
use Rattle.ccsds.proofs.checks.wrong_label.Goals as goal
use Rattle.ccsds.proofs.checks.wrong_label.Goals.{then-lsc-eq0, else-lsc-eq0}

other : {A B : Type 0} → (A → ⊥) → A ⊎ ((A → ⊥) × B) → B
other n (inl a) = absurd (n a)
other n (inr b) = b.1

pub returns-then-lsc-gt65534 : goal.returns-then-lsc-gt65534
unfolding wrong_label
returns-then-lsc-gt65534 c = elim c.if-lsc-eq0.branch [
  | then-lsc-eq0 w ↦ rw (w.t-4-is, eq-eqb _ _ w.if-lsc-eq0.true)
  | else-lsc-eq0 w ↦ rw (w.t-4-is, ne_eqb _ _ w.if-lsc-eq0.false, lt-ltb _ _ (other w.if-lsc-eq0.false c.if-lsc-gt65534.either))
]

pub returns-else-lsc-gt65534 : goal.returns-else-lsc-gt65534
unfolding wrong_label
returns-else-lsc-gt65534 c = rw (ne_eqb _ _ c.if-lsc-gt65534.false.0, le-ltb _ _ c.if-lsc-gt65534.false.1)
