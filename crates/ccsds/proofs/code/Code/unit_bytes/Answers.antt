-- `ccsds::code::Code::unit_bytes` meets its contract: a code and a width that are refused have size 0.
-- Assumes nothing.
use mathlib.Core.Path.{◌≡◌, sym, ap, ◌∙◌}
use mathlib.Core.Bool.{false, not}
use Rattle.ccsds.specs.Refusals.{wrong_code, wrong_width}
use Rattle.ccsds.specs.Units.{unit_bytes}
use Rattle.ccsds.proofs.Refusals.{code-known, width_right}
use Rattle.ccsds.proofs.UnitLaws.{compact_of, n_of_lem, size_of, unit_right}
use Rattle.ccsds.proofs.code.Code.unit_bytes.Goals as goal
use Rattle.ccsds.proofs.code.Code.unit_bytes.Goals.{Else-not-known, Else-wrong_width}

code : (c : Else-not-known) → wrong_code c.args.self.number ≡ false
unfolding wrong_code
code c = ap not (sym c.known.ensures ∙ c.if-not-known.false)

width : (c : Else-wrong_width) → wrong_width c.args.w ≡ false
width c = sym c.wrong_width.ensures ∙ c.if-wrong_width.false

pub returns-then-not-known : goal.returns-then-not-known
unfolding unit_bytes wrong_code
returns-then-not-known c = rw (ap not (sym c.known.ensures ∙ c.if-not-known.true))

pub returns-then-wrong_width : goal.returns-then-wrong_width
unfolding unit_bytes
returns-then-wrong_width c = rw (code (goal.at.returns-then-wrong_width c).Else-not-known, sym c.wrong_width.ensures ∙ c.if-wrong_width.true)

pub invariant_of-c : goal.invariant_of-c
invariant_of-c c = record { compact = compact_of _ _ c.layout_of-l.ensures (code-known _ (code (goal.at.invariant_of-c c).Else-not-known)) (width_right _ (width (goal.at.invariant_of-c c).Else-wrong_width)).1 }

pub returns : goal.returns
returns c = c.unit_length.ensures ∙ size_of _ _ c.layout_of-l.ensures.k (n_of_lem c.layout_of-l.ensures) ∙ sym (unit_right _ _ (code (goal.at.returns c).Else-not-known) (width (goal.at.returns c).Else-wrong_width))
