-- `lipvezor::check_copy` meets its contract: the encoder's conditions, then the output's length, the position, and whether it is idle.
-- Assumes nothing.
use mathlib.Core.Path.{◌≡◌, refl, sym, ap, ◌∙◌}
use mathlib.Core.Bool.{Bool}
use mathlib.Core.List.{[], ◌∷◌}
use Prim.Native.Nat.{ℕ}
use Rattle.ccsds.specs.Codes.{n_of}
use Rattle.ccsds.specs.Tables.{code_of}
use Rattle.ccsds.specs.Fill.{idle_lwc}
use Rattle.ccsds.specs.RefusalTable as refusal
use Rattle.ccsds.specs.Refusals.{first_of, checked_as, encoder_conditions, wrong_length, wrong_position}
use Rattle.block.proofs.Exits.{passed_on}
use Rattle.ccsds.proofs.RefusalOrder.{numbered, chain, part_refuses, part-passed, first_is, first_on, first-end}
use Rattle.ccsds.proofs.Refusals.{length-same, length-wrong}
use Rattle.block.specs.declared.Block.{Block}
use Rattle.lipvezor.specs.Sending.{copy_refusal}
use Rattle.lipvezor.proofs.check_copy.Goals as goal
use Rattle.lipvezor.proofs.check_copy.Goals.{After-idle_lwc, After-wrong_position}

-- the output's length, the position and whether it is idle decide
passed : (b : Block) (info_len parity_len lwc out_len : ℕ) → 0 ≡ first_of (encoder_conditions b.code b.w b.fill info_len parity_len)
    → copy_refusal b.code b.w b.fill info_len parity_len lwc out_len
    ≡ chain ((refusal.length, wrong_length out_len b.w) ∷ (refusal.position, wrong_position (n_of (code_of b.code)) lwc) ∷ (refusal.idle, idle_lwc (code_of b.code).k b.fill lwc) ∷ [])
unfolding copy_refusal
passed b info_len parity_len lwc out_len e = part-passed (encoder_conditions b.code b.w b.fill info_len parity_len) _ refl refl _ e refl

-- the position and whether it is idle decide
sized : (c : After-wrong_position) → let a = c.args in
    copy_refusal a.b.code a.b.w a.b.fill a.info_len a.parity_len a.lwc a.out_len
    ≡ chain ((refusal.position, c.wrong_position.result) ∷ (refusal.idle, idle_lwc (code_of a.b.code).k a.b.fill a.lwc) ∷ [])
sized c =
    let a = c.args in
    passed a.b _ _ _ _ c.in_ok-check_encoder.ensures ∙ first_on _ _ _ (length-same _ _ c.if-out_len-b.false)
    ∙ ap (λ (b : Bool). chain ((refusal.position, b) ∷ (refusal.idle, idle_lwc (code_of a.b.code).k a.b.fill a.lwc) ∷ [])) (sym c.wrong_position.ensures)

-- whether it is idle decides
placed : (c : After-idle_lwc) → let a = c.args in
    copy_refusal a.b.code a.b.w a.b.fill a.info_len a.parity_len a.lwc a.out_len ≡ chain ((refusal.idle, c.idle_lwc.result) ∷ [])
placed c =
    let a = c.args in
    passed a.b _ _ _ _ c.in_ok-check_encoder.ensures ∙ first_on _ _ _ (length-same _ _ c.if-out_len-b.false)
    ∙ first_on _ _ _ (sym c.wrong_position.ensures ∙ c.if-wrong_position.false)
    ∙ ap (λ (b : Bool). chain ((refusal.idle, b) ∷ [])) (sym (c.idle_lwc.ensures ∙ ap (λ (k : ℕ). idle_lwc k a.b.fill a.lwc) c.k.ensures))

pub returns-in_err-check_encoder : goal.returns-in_err-check_encoder
unfolding copy_refusal
returns-in_err-check_encoder c =
    let a = c.args in
    passed_on checked_as c.from_residual.ensures.1 (part_refuses (encoder_conditions a.b.code a.b.w a.b.fill a.info_len a.parity_len) _ refl refl _ c.in_err-check_encoder.ensures (numbered _))

pub returns-then-out_len-b : goal.returns-then-out_len-b
returns-then-out_len-b c = let a = c.args in sym (passed a.b _ _ _ _ c.in_ok-check_encoder.ensures ∙ first_is _ _ _ (length-wrong _ _ c.if-out_len-b.true))

pub returns-then-wrong_position : goal.returns-then-wrong_position
returns-then-wrong_position c = sym (sized (goal.at.returns-then-wrong_position c).After-wrong_position ∙ first_is _ _ _ c.if-wrong_position.true)

pub returns-then-idle_lwc : goal.returns-then-idle_lwc
returns-then-idle_lwc c = sym (placed (goal.at.returns-then-idle_lwc c).After-idle_lwc ∙ first_is _ _ _ c.if-idle_lwc.true)

pub returns : goal.returns
returns c = sym (placed (goal.at.returns c).After-idle_lwc ∙ first_on _ _ _ c.if-idle_lwc.false ∙ first-end)
