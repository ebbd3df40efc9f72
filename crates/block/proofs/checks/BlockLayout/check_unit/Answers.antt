-- `block::checks::BlockLayout::check_unit` meets its contract: each test decides one row of the list.
-- Assumes nothing.
use mathlib.Core.Path.{◌≡◌, sym, ap, ◌∙◌}
use mathlib.Core.Bool.{false}
use Prim.Native.Nat.{ℕ}
use Rattle.ccsds.specs.Tables.{code_of}
use Rattle.ccsds.specs.Fill.{idle_lwc}
use Rattle.ccsds.specs.Refusals.{wrong_position}
use Rattle.block.specs.Block.{checks}
use Rattle.block.specs.Take.{wrong_parameters, foreign}
use Rattle.block.specs.inner.Steps.{parts_as}
use Rattle.block.proofs.BlockRefusal.{checks_of_lem}
use Rattle.block.proofs.Taking.{parameters-refused, foreign-refused, position-refused, idle-refused, symbol-refused, unit_admitted}
use Rattle.block.proofs.checks.BlockLayout.check_unit.Goals as goal
use Rattle.block.proofs.checks.BlockLayout.check_unit.Goals.{After-idle_lwc, After-wrong_position, Else-is_foreign, Else-wrong_parameters}

-- the parameters and the label are right; the tests of the position
parameters : (c : Else-wrong_parameters) → wrong_parameters c.args.self.block (parts_as c.args.p).coding ≡ false
parameters c = sym c.wrong_parameters.ensures ∙ c.if-wrong_parameters.false

own : (c : Else-is_foreign) → foreign c.args.self.block (parts_as c.args.p) ≡ false
own c = sym c.is_foreign.ensures ∙ c.if-is_foreign.false

position : (c : After-wrong_position) → let a = c.args in wrong_position (checks a.self.block).n a.p.lwc ≡ c.wrong_position.result
position c =
    let a = c.args in
    sym (c.wrong_position.ensures ∙ ap (λ (n : ℕ). wrong_position n a.p.lwc) (checks_of_lem a.self.block c.args.self.layout_of))

idle : (c : After-idle_lwc) → let a = c.args in idle_lwc (code_of a.self.block.code).k a.self.block.fill a.p.lwc ≡ c.idle_lwc.result
idle c =
    sym (c.idle_lwc.ensures ∙ ap (λ (k : ℕ). idle_lwc k c.args.self.block.fill c.args.p.lwc) c.args.self.layout_of.k)

pub returns-then-wrong_parameters : goal.returns-then-wrong_parameters
returns-then-wrong_parameters c = parameters-refused _ _ _ (sym c.wrong_parameters.ensures ∙ c.if-wrong_parameters.true)

pub returns-then-is_foreign : goal.returns-then-is_foreign
returns-then-is_foreign c = foreign-refused _ _ _ (parameters (goal.at.returns-then-is_foreign c).Else-wrong_parameters) (sym c.is_foreign.ensures ∙ c.if-is_foreign.true)

pub returns-then-wrong_position : goal.returns-then-wrong_position
returns-then-wrong_position c = position-refused _ _ _ (parameters (goal.at.returns-then-wrong_position c).Else-wrong_parameters) (own (goal.at.returns-then-wrong_position c).Else-is_foreign) (position (goal.at.returns-then-wrong_position c).After-wrong_position ∙ c.if-wrong_position.true)

pub returns-then-idle_lwc : goal.returns-then-idle_lwc
returns-then-idle_lwc c =
    idle-refused _ _ _ (parameters (goal.at.returns-then-idle_lwc c).Else-wrong_parameters) (own (goal.at.returns-then-idle_lwc c).Else-is_foreign) (position (goal.at.returns-then-idle_lwc c).After-wrong_position ∙ c.if-wrong_position.false) (idle (goal.at.returns-then-idle_lwc c).After-idle_lwc ∙ c.if-idle_lwc.true)

pub returns-then-len-p : goal.returns-then-len-p
returns-then-len-p c =
    symbol-refused _ _ _ (parameters (goal.at.returns-then-len-p c).Else-wrong_parameters) (own (goal.at.returns-then-len-p c).Else-is_foreign) (position (goal.at.returns-then-len-p c).After-wrong_position ∙ c.if-wrong_position.false) (idle (goal.at.returns-then-len-p c).After-idle_lwc ∙ c.if-idle_lwc.false) c.if-len-p.true

pub returns : goal.returns
returns c =
    unit_admitted _ _ _ (parameters (goal.at.returns c).Else-wrong_parameters) (own (goal.at.returns c).Else-is_foreign) (position (goal.at.returns c).After-wrong_position ∙ c.if-wrong_position.false) (idle (goal.at.returns c).After-idle_lwc ∙ c.if-idle_lwc.false) c.if-len-p.false
