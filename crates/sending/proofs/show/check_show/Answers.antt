-- `sending::show::check_show` meets its contract: the encoder's conditions, then the LWC's.
-- Assumes nothing.
use mathlib.Core.Path.{◌≡◌, refl, sym, ap, ◌∙◌}
use mathlib.Core.List.{[], ◌∷◌}
use Prim.Native.Nat.{ℕ}
use Rattle.std.proofs.lemmas.Result.{err_from_is_err_and}
use Rattle.ccsds.specs.Codes.{n_of}
use Rattle.ccsds.specs.Tables.{code_of}
use Rattle.ccsds.specs.Fill.{idle_lwc}
use Rattle.ccsds.specs.RefusalTable as refusal
use Rattle.ccsds.specs.Refusals.{encoder_conditions, wrong_position}
use Rattle.sending.specs.Show.{show_refusal}
use Rattle.ccsds.proofs.RefusalOrder.{numbered, chain, part_refuses, part-passed, first_is, first_on, first-end}
use Rattle.sending.proofs.show.check_show.Goals as goal
use Rattle.sending.proofs.show.check_show.Goals.{After-idle_lwc, In_ok-check_encoder}

-- the encoder's conditions do not apply; the position's neither
passed : (c : In_ok-check_encoder) → let a = c.args in
    show_refusal a.number a.w a.fill a.info_len a.parity_len a.lwc
    ≡ chain ((refusal.position, wrong_position (n_of (code_of a.number)) a.lwc) ∷ (refusal.idle, idle_lwc (code_of a.number).k a.fill a.lwc) ∷ [])
unfolding show_refusal
passed c =
    let a = c.args in
    part-passed (encoder_conditions a.number a.w a.fill a.info_len a.parity_len) _ refl refl _ c.in_ok-check_encoder.ensures refl

after-position : (c : After-idle_lwc) → let a = c.args in
    show_refusal a.number a.w a.fill a.info_len a.parity_len a.lwc ≡ chain ((refusal.idle, c.idle_lwc.result) ∷ [])
after-position c =
    let a = c.args in
    passed c.before.before.before.before ∙ first_on _ _ _ (sym c.wrong_position.ensures ∙ c.if-wrong_position.false)
    ∙ ap (λ b. chain ((refusal.idle, b) ∷ [])) (sym (c.idle_lwc.ensures ∙ ap (λ (k : ℕ). idle_lwc k a.fill a.lwc) c.k.ensures))

pub returns-in_err-check_encoder : goal.returns-in_err-check_encoder
unfolding show_refusal
returns-in_err-check_encoder c =
    let a = c.args in
    let p = err_from_is_err_and c.from_residual.result c.from_residual.ensures.1 in
    rw (p.1, p.2) (part_refuses (encoder_conditions a.number a.w a.fill a.info_len a.parity_len) _ refl refl _ c.in_err-check_encoder.ensures (numbered _))

pub returns-then-wrong_position : goal.returns-then-wrong_position
returns-then-wrong_position c = sym (passed (goal.at.returns-then-wrong_position c).In_ok-check_encoder ∙ first_is _ _ _ (sym c.wrong_position.ensures ∙ c.if-wrong_position.true))

pub returns-then-idle_lwc : goal.returns-then-idle_lwc
returns-then-idle_lwc c = sym (after-position (goal.at.returns-then-idle_lwc c).After-idle_lwc ∙ first_is _ _ _ c.if-idle_lwc.true)

pub returns : goal.returns
returns c = sym (after-position (goal.at.returns c).After-idle_lwc ∙ first_on _ _ _ c.if-idle_lwc.false ∙ first-end)
