-- `closing::check_close` meets its contract: each test decides one row of the list.
-- Assumes nothing.
use mathlib.Core.Path.{◌≡◌, sym, ◌∙◌}
use lib.ListN.{length}
use Rattle.ccsds.specs.Refusals.{checked_as}
use Rattle.block.proofs.Exits.{passed_on}
use Rattle.ccsds.proofs.RefusalOrder.{numbered}
use Rattle.block.specs.Block.{block_refusal}
use Rattle.closing.proofs.CloseRefusal.{block_refused, words-refused, bytes-refused, marks-refused, none-refused}
use Rattle.closing.proofs.check_close.Goals as goal
use Rattle.closing.proofs.check_close.Goals.{In_ok-check_block}

zero : (c : In_ok-check_block) → let a = c.args in block_refusal a.b (length a.symbols.now) (length a.marks.now) ≡ 0
zero c = sym c.in_ok-check_block.ensures

pub returns-in_err-check_block : goal.returns-in_err-check_block
returns-in_err-check_block c =
    let a = c.args in
    passed_on checked_as c.from_residual.ensures.1 (block_refused a.b a.symbols.now a.marks.now a.work_words.now a.work_bytes.now _ c.in_err-check_block.ensures (numbered _))

pub returns-then-work_words : goal.returns-then-work_words
returns-then-work_words c =
    let a = c.args in
    words-refused a.b a.symbols.now a.marks.now a.work_words.now a.work_bytes.now (zero (goal.at.returns-then-work_words c).In_ok-check_block)
    (λ h. c.if-work_words.true (h ∙ sym c.work_words.ensures))

pub returns-then-work_bytes-parity_bytes : goal.returns-then-work_bytes-parity_bytes
returns-then-work_bytes-parity_bytes c =
    let a = c.args in
    bytes-refused a.b a.symbols.now a.marks.now a.work_words.now a.work_bytes.now (zero (goal.at.returns-then-work_bytes-parity_bytes c).In_ok-check_block)
    (c.if-work_words.false ∙ c.work_words.ensures) (λ h. c.if-work_bytes-parity_bytes.true (h ∙ sym c.parity_bytes.ensures))

pub returns-then-wrong_marks : goal.returns-then-wrong_marks
returns-then-wrong_marks c =
    let a = c.args in
    marks-refused a.b a.symbols.now a.marks.now a.work_words.now a.work_bytes.now (zero (goal.at.returns-then-wrong_marks c).In_ok-check_block)
    (c.if-work_words.false ∙ c.work_words.ensures) (c.if-work_bytes-parity_bytes.false ∙ c.parity_bytes.ensures) (sym c.wrong_marks.ensures ∙ c.if-wrong_marks.true)

pub returns : goal.returns
returns c =
    let a = c.args in
    none-refused a.b a.symbols.now a.marks.now a.work_words.now a.work_bytes.now (zero (goal.at.returns c).In_ok-check_block)
    (c.if-work_words.false ∙ c.work_words.ensures) (c.if-work_bytes-parity_bytes.false ∙ c.parity_bytes.ensures) (sym c.wrong_marks.ensures ∙ c.if-wrong_marks.false)
