-- `tiles::checks::check_rows` meets its contract: the code's conditions, then the width and the fill.
-- Assumes nothing.
use mathlib.Core.Path.{◌≡◌, refl, sym, ap, ◌∙◌}
use mathlib.Core.List.{[], ◌∷◌}
use Prim.Native.Nat.{ℕ}
use Rattle.std.proofs.lemmas.Result.{err_from_is_err_and}
use Rattle.ccsds.specs.Tables.{code_of}
use Rattle.ccsds.specs.Fill.{wrong_fill}
use Rattle.ccsds.specs.RefusalTable.{number_of}
use Rattle.ccsds.specs.RefusalTable as refusal
use Rattle.ccsds.proofs.RefusalOrder.{numbered}
use Rattle.tiles.specs.PackRefusals.{first_listed}
use Rattle.tiles.specs.Rows.{narrow, row_conditions}
use Rattle.tiles.proofs.RefusalList.{code_part, code-listed, part_refuses, part-passed, first_is, first_on, first-end}
use Rattle.tiles.proofs.checks.check_rows.Goals as goal
use Rattle.tiles.proofs.checks.check_rows.Goals.{After-wrong_fill, In_ok-check_code}

-- the code and the width are right
passed : (c : In_ok-check_code) → let a = c.args in
    first_listed (row_conditions a.number a.w a.fill)
    ≡ first_listed ((15, narrow a.w) ∷ (number_of refusal.fill, wrong_fill (code_of a.number).k a.fill) ∷ [])
passed c = let a = c.args in part-passed (code_part a.number a.w) _ _ (c.in_ok-check_code.ensures ∙ code-listed a.number a.w) refl refl

-- the test of the fill
fills : (c : After-wrong_fill) → let a = c.args in wrong_fill (code_of a.number).k a.fill ≡ c.wrong_fill.result
fills c = let a = c.args in sym (c.wrong_fill.ensures ∙ ap (λ (k : ℕ). wrong_fill k a.fill) c.k.ensures)

pub returns-in_err-check_code : goal.returns-in_err-check_code
returns-in_err-check_code c =
    let a = c.args in
    let p = err_from_is_err_and c.from_residual.result c.from_residual.ensures.1 in
    rw (p.1, p.2) (part_refuses (code_part a.number a.w) _ _ (c.in_err-check_code.ensures ∙ code-listed a.number a.w) (numbered _))

pub returns-then-is_narrow : goal.returns-then-is_narrow
returns-then-is_narrow c = sym (passed (goal.at.returns-then-is_narrow c).In_ok-check_code ∙ first_is _ _ _ (sym c.is_narrow.ensures ∙ c.if-is_narrow.true))

pub returns-then-wrong_fill : goal.returns-then-wrong_fill
returns-then-wrong_fill c = sym (passed (goal.at.returns-then-wrong_fill c).In_ok-check_code ∙ first_on _ _ _ (sym c.is_narrow.ensures ∙ c.if-is_narrow.false) ∙ first_is _ _ _ (fills (goal.at.returns-then-wrong_fill c).After-wrong_fill ∙ c.if-wrong_fill.true))

pub returns : goal.returns
returns c = sym (passed (goal.at.returns c).In_ok-check_code ∙ first_on _ _ _ (sym c.is_narrow.ensures ∙ c.if-is_narrow.false) ∙ first_on _ _ _ (fills (goal.at.returns c).After-wrong_fill ∙ c.if-wrong_fill.false) ∙ first-end)
