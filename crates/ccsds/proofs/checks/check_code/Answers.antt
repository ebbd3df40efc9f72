-- `ccsds::checks::check_code` meets its contract: each test decides one condition.
-- Assumes nothing.
use mathlib.Core.Path.{◌≡◌, refl, sym, ap, ◌∙◌}
use mathlib.Core.Bool.{false, not}
use Rattle.ccsds.specs.Refusals.{wrong_code}
use Rattle.ccsds.proofs.RefusalOrder.{in_order, first_is, first_on, first-end}
use Rattle.ccsds.proofs.checks.check_code.Goals as goal
use Rattle.ccsds.proofs.checks.check_code.Goals.{Else-not-known}

code : (c : Else-not-known) → wrong_code c.args.number ≡ false
unfolding wrong_code
code c = ap not (sym c.known.ensures ∙ c.if-not-known.false)

pub returns-then-not-known : goal.returns-then-not-known
unfolding wrong_code
returns-then-not-known c = sym (in_order _ refl ∙ first_is _ _ _ (ap not (sym c.known.ensures ∙ c.if-not-known.true)))

pub returns-then-wrong_width : goal.returns-then-wrong_width
returns-then-wrong_width c = sym (in_order _ refl ∙ first_on _ _ _ (code (goal.at.returns-then-wrong_width c).Else-not-known) ∙ first_is _ _ _ (sym c.wrong_width.ensures ∙ c.if-wrong_width.true))

pub returns : goal.returns
returns c =
    sym (in_order _ refl ∙ first_on _ _ _ (code (goal.at.returns c).Else-not-known) ∙ first_on _ _ _ (sym c.wrong_width.ensures ∙ c.if-wrong_width.false) ∙ first-end)
