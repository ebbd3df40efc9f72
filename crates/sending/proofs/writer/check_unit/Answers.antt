-- `sending::writer::check_unit` meets its contract: each test decides one condition.
-- Assumes nothing.
use mathlib.Core.Path.{◌≡◌, refl, sym, ap, ◌∙◌}
use mathlib.Core.List.{[], ◌∷◌}
use Prim.Native.Nat.{ℕ}
use Rattle.ccsds.specs.Codes.{n_of}
use Rattle.ccsds.specs.Tables.{code_of}
use Rattle.ccsds.specs.Fill.{idle_lwc}
use Rattle.ccsds.specs.RefusalTable as refusal
use Rattle.ccsds.specs.Refusals.{first_of, wrong_length, wrong_position}
use Rattle.ccsds.specs.Units.{unit_length}
use Rattle.sending.specs.Writer.{unit_conditions}
use Rattle.ccsds.proofs.RefusalOrder.{chain, in_order, first_is, first_on, first-end}
use Rattle.ccsds.proofs.Refusals.{length-same, length-wrong}
use Rattle.ccsds.proofs.UnitLaws.{size_of}
use Rattle.sending.proofs.writer.check_unit.Goals as goal
use Rattle.sending.proofs.writer.check_unit.Goals.{After-idle_lwc, After-unit_length, After-wrong_position, Else-idle_lwc}

-- the size that is found, and the tests of the LWC
output : (c : After-unit_length) → let a = c.args in c.unit_length.result ≡ unit_length (code_of a.number) a.c.w
output c = c.unit_length.ensures ∙ size_of _ _ c.requires.0 c.requires.1

position : (c : After-wrong_position) → wrong_position (n_of (code_of c.args.number)) c.args.lwc ≡ c.wrong_position.result
position c = sym (c.wrong_position.ensures ∙ ap (λ (n : ℕ). wrong_position n c.args.lwc) c.requires.1)

idle : (c : After-idle_lwc) → idle_lwc (code_of c.args.number).k c.args.fill c.args.lwc ≡ c.idle_lwc.result
idle c = sym (c.idle_lwc.ensures ∙ ap (λ (k : ℕ). idle_lwc k c.args.fill c.args.lwc) c.requires.0)

-- the length is right; the position, too; and it is not idle
after-length : (c : After-wrong_position) → let a = c.args in
    first_of (unit_conditions a.number a.c.w a.fill a.lwc a.symbol_len a.out_len)
    ≡ chain ((refusal.position, c.wrong_position.result) ∷ (refusal.idle, idle_lwc (code_of a.number).k a.fill a.lwc) ∷ (refusal.symbol, wrong_length a.symbol_len a.c.w) ∷ [])
after-length c =
    let a = c.args in
    in_order _ refl ∙ first_on _ _ _ (length-same _ _ (c.if-out_len-unit_length.false ∙ output c.before.before))
    ∙ ap (λ b. chain ((refusal.position, b) ∷ (refusal.idle, idle_lwc (code_of a.number).k a.fill a.lwc) ∷ (refusal.symbol, wrong_length a.symbol_len a.c.w) ∷ [])) (position c)

after-position : (c : After-idle_lwc) → let a = c.args in
    first_of (unit_conditions a.number a.c.w a.fill a.lwc a.symbol_len a.out_len)
    ≡ chain ((refusal.idle, c.idle_lwc.result) ∷ (refusal.symbol, wrong_length a.symbol_len a.c.w) ∷ [])
after-position c =
    let a = c.args in
    after-length c.before.before ∙ first_on _ _ _ c.if-wrong_position.false
    ∙ ap (λ b. chain ((refusal.idle, b) ∷ (refusal.symbol, wrong_length a.symbol_len a.c.w) ∷ [])) (idle c)

after-idle : (c : Else-idle_lwc) → let a = c.args in
    first_of (unit_conditions a.number a.c.w a.fill a.lwc a.symbol_len a.out_len) ≡ chain ((refusal.symbol, wrong_length a.symbol_len a.c.w) ∷ [])
after-idle c = after-position c.before ∙ first_on _ _ _ c.if-idle_lwc.false

pub returns-then-out_len-unit_length : goal.returns-then-out_len-unit_length
returns-then-out_len-unit_length c = sym (in_order _ refl ∙ first_is _ _ _ (length-wrong _ _ (λ e. c.if-out_len-unit_length.true (e ∙ sym (output (goal.at.returns-then-out_len-unit_length c).After-unit_length)))))

pub returns-then-wrong_position : goal.returns-then-wrong_position
returns-then-wrong_position c = sym (after-length (goal.at.returns-then-wrong_position c).After-wrong_position ∙ first_is _ _ _ c.if-wrong_position.true)

pub returns-then-idle_lwc : goal.returns-then-idle_lwc
returns-then-idle_lwc c = sym (after-position (goal.at.returns-then-idle_lwc c).After-idle_lwc ∙ first_is _ _ _ c.if-idle_lwc.true)

pub returns-then-symbol_len-c : goal.returns-then-symbol_len-c
returns-then-symbol_len-c c = sym (after-idle (goal.at.returns-then-symbol_len-c c).Else-idle_lwc ∙ first_is _ _ _ (length-wrong _ _ c.if-symbol_len-c.true))

pub returns : goal.returns
returns c = sym (after-idle (goal.at.returns c).Else-idle_lwc ∙ first_on _ _ _ (length-same _ _ c.if-symbol_len-c.false) ∙ first-end)
