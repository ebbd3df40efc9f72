-- `ccsds::checks::check_record` meets its contract: each test decides one condition.
-- Assumes nothing.
use mathlib.Core.Path.{◌≡◌, refl, sym, ap, ◌∙◌}
use mathlib.Core.Bool.{false, not}
use mathlib.Core.List.{[], ◌∷◌}
use Prim.Native.Nat.{ℕ}
use Rattle.ccsds.specs.Tables.{code_of}
use Rattle.ccsds.specs.Fill.{wrong_fill}
use Rattle.ccsds.specs.RefusalTable as refusal
use Rattle.ccsds.specs.Refusals.{first_of, record_conditions, wrong_code, wrong_label}
use Rattle.ccsds.proofs.RefusalOrder.{chain, in_order, first_is, first_on, first-end}
use Rattle.ccsds.proofs.checks.check_record.Goals as goal
use Rattle.ccsds.proofs.checks.check_record.Goals.{After-wrong_fill, Else-not-is_code, Else-wrong_label, Else-wrong_width}

code : (c : Else-not-is_code) → wrong_code c.args.code.number ≡ false
unfolding wrong_code
code c = ap not (sym c.is_code.ensures ∙ c.if-not-is_code.false)

-- the code and the width are right; the label, too
after-width : (c : Else-wrong_width) → let a = c.args in
    first_of (record_conditions a.code.number a.w a.protocol a.lsc a.fill)
    ≡ chain ((refusal.label, wrong_label a.protocol a.lsc) ∷ (refusal.fill, wrong_fill (code_of a.code.number).k a.fill) ∷ [])
after-width c = in_order _ refl ∙ first_on _ _ _ (code c.before.before) ∙ first_on _ _ _ (sym c.wrong_width.ensures ∙ c.if-wrong_width.false)

after-label : (c : Else-wrong_label) → let a = c.args in
    first_of (record_conditions a.code.number a.w a.protocol a.lsc a.fill) ≡ chain ((refusal.fill, wrong_fill (code_of a.code.number).k a.fill) ∷ [])
after-label c = after-width c.before.before ∙ first_on _ _ _ (sym c.wrong_label.ensures ∙ c.if-wrong_label.false)

fills : (c : After-wrong_fill) → wrong_fill (code_of c.args.code.number).k c.args.fill ≡ c.wrong_fill.result
fills c =
    sym (c.wrong_fill.ensures ∙ ap (λ (k : ℕ). wrong_fill k c.args.fill) c.args.code.layout_of.k)

pub returns-then-not-is_code : goal.returns-then-not-is_code
unfolding wrong_code
returns-then-not-is_code c = sym (in_order _ refl ∙ first_is _ _ _ (ap not (sym c.is_code.ensures ∙ c.if-not-is_code.true)))

pub returns-then-wrong_width : goal.returns-then-wrong_width
returns-then-wrong_width c = sym (in_order _ refl ∙ first_on _ _ _ (code (goal.at.returns-then-wrong_width c).Else-not-is_code) ∙ first_is _ _ _ (sym c.wrong_width.ensures ∙ c.if-wrong_width.true))

pub returns-then-wrong_label : goal.returns-then-wrong_label
returns-then-wrong_label c = sym (after-width (goal.at.returns-then-wrong_label c).Else-wrong_width ∙ first_is _ _ _ (sym c.wrong_label.ensures ∙ c.if-wrong_label.true))

pub returns-then-wrong_fill : goal.returns-then-wrong_fill
returns-then-wrong_fill c = sym (after-label (goal.at.returns-then-wrong_fill c).Else-wrong_label ∙ first_is _ _ _ (fills (goal.at.returns-then-wrong_fill c).After-wrong_fill ∙ c.if-wrong_fill.true))

pub returns : goal.returns
returns c = sym (after-label (goal.at.returns c).Else-wrong_label ∙ first_on _ _ _ (fills (goal.at.returns c).After-wrong_fill ∙ c.if-wrong_fill.false) ∙ first-end)
