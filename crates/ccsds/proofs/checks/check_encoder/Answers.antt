-- `ccsds::checks::check_encoder` meets its contract: the code's conditions, then the fill and the two lengths.
-- Assumes nothing.
use mathlib.Core.Path.{◌≡◌, refl, sym, ap, ◌∙◌}
use mathlib.Core.Bool.{false}
use mathlib.Core.List.{[], ◌∷◌}
use Prim.Native.Nat.{ℕ, ◌*◌, ◌≤◌}
use native.Mathlib.Nat.{mul-le-mul}
use native.Mathlib.Omega.{arith}
use Rattle.ccsds.specs.Tables.{code_of}
use Rattle.ccsds.specs.Fill.{wrong_fill}
use Rattle.ccsds.specs.RefusalTable as refusal
use Rattle.ccsds.specs.Refusals.{first_of, code_conditions, encoder_conditions, wrong_length}
use Rattle.std.proofs.lemmas.Result.{err_from_is_err_and}
use Rattle.ccsds.proofs.RefusalOrder.{numbered, chain, in_order, part_refuses, part-passed, first_is, first_on, first-end}
use Rattle.ccsds.proofs.Refusals.{code-none, width_right, fill_right, length-same, length-wrong}
use Rattle.ccsds.proofs.checks.check_encoder.Goals as goal
use Rattle.ccsds.proofs.checks.check_encoder.Goals.{After-wrong_fill, In_ok-check_code, Else-info_len-fill, Else-wrong_fill}

width : (c : In_ok-check_code) → c.args.w ≤ 1024
width c = (width_right _ (code-none _ _ (sym (in_order _ refl) ∙ sym c.in_ok-check_code.ensures)).1).1

-- the test of the fill, and the fill where it passes
fills : (c : After-wrong_fill) → let a = c.args in wrong_fill (code_of a.number).k a.fill ≡ c.wrong_fill.result
fills c =
    let a = c.args in
    sym (c.wrong_fill.ensures ∙ ap (λ (k : ℕ). wrong_fill k a.fill) c.layout_of-layout.ensures.k)

filled : (c : Else-wrong_fill) → let a = c.args in wrong_fill (code_of a.number).k a.fill ≡ false
filled c = fills c.before ∙ c.if-wrong_fill.false

parity : (c : Else-wrong_fill) → c.layout_of-layout.result.m * c.args.w ≡ (code_of c.args.number).m * c.args.w
parity c = ap (λ (m : ℕ). m * c.args.w) c.layout_of-layout.ensures.m

-- the code and the width are right; the fill, too; and the length of the information
passed : (c : In_ok-check_code) → let a = c.args in
    first_of (encoder_conditions a.number a.w a.fill a.info_len a.parity_len)
    ≡ chain (
    (refusal.fill, wrong_fill (code_of a.number).k a.fill)
    ∷ (refusal.length, wrong_length a.info_len (a.fill * a.w))
    ∷ (refusal.length, wrong_length a.parity_len ((code_of a.number).m * a.w))
    ∷ []
    )
passed c = let a = c.args in part-passed (code_conditions a.number a.w) _ refl refl _ c.in_ok-check_code.ensures refl

after-information : (c : Else-info_len-fill) → let a = c.args in
    first_of (encoder_conditions a.number a.w a.fill a.info_len a.parity_len)
    ≡ chain ((refusal.length, wrong_length a.parity_len ((code_of a.number).m * a.w)) ∷ [])
after-information c = passed c.before.before.before.before.before ∙ first_on _ _ _ (filled c.before) ∙ first_on _ _ _ (length-same _ _ c.if-info_len-fill.false)

pub returns-in_err-check_code : goal.returns-in_err-check_code
returns-in_err-check_code c =
    let a = c.args in
    let p = err_from_is_err_and c.from_residual.result c.from_residual.ensures.1 in
    rw (p.1, p.2) (part_refuses (code_conditions a.number a.w) _ refl refl _ c.in_err-check_code.ensures (numbered _))

pub overflow_mul-parity_size : goal.overflow_mul-parity_size
overflow_mul-parity_size c =
    let l = c.layout_of-layout in
    let m : l.result.m ≤ 3072 = omega (arith, l.ensures.few) in
    omega (arith, mul-le-mul m (width (goal.at.overflow_mul-parity_size c).In_ok-check_code))

pub returns-then-wrong_fill : goal.returns-then-wrong_fill
returns-then-wrong_fill c = sym (passed (goal.at.returns-then-wrong_fill c).In_ok-check_code ∙ first_is _ _ _ (fills (goal.at.returns-then-wrong_fill c).After-wrong_fill ∙ c.if-wrong_fill.true))

pub overflow_mul-fill : goal.overflow_mul-fill
overflow_mul-fill c =
    let f : c.args.fill ≤ 3072 = omega (arith, fill_right _ _ (filled (goal.at.overflow_mul-fill c).Else-wrong_fill), c.layout_of-layout.ensures.k, c.layout_of-layout.ensures.few) in
    omega (arith, mul-le-mul f (width (goal.at.overflow_mul-fill c).In_ok-check_code))

pub returns-then-info_len-fill : goal.returns-then-info_len-fill
returns-then-info_len-fill c = sym (passed (goal.at.returns-then-info_len-fill c).In_ok-check_code ∙ first_on _ _ _ (filled (goal.at.returns-then-info_len-fill c).Else-wrong_fill) ∙ first_is _ _ _ (length-wrong _ _ c.if-info_len-fill.true))

pub returns-then-parity_len-parity_size : goal.returns-then-parity_len-parity_size
returns-then-parity_len-parity_size c = sym (after-information (goal.at.returns-then-parity_len-parity_size c).Else-info_len-fill ∙ first_is _ _ _ (length-wrong _ _ (λ e. c.if-parity_len-parity_size.true (e ∙ sym (parity (goal.at.returns-then-parity_len-parity_size c).Else-wrong_fill)))))

pub returns : goal.returns
returns c = sym (after-information (goal.at.returns c).Else-info_len-fill ∙ first_on _ _ _ (length-same _ _ (c.if-parity_len-parity_size.false ∙ parity (goal.at.returns c).Else-wrong_fill)) ∙ first-end)
