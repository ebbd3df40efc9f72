-- `block::open::open` meets its contract.
-- Assumes nothing.
use mathlib.Core.Path.{◌≡◌, refl, ◌∙◌}
use lib.ListN.{length, replicate}
use Rattle.std.proofs.Common.{rules}
use Rattle.ccsds.proofs.RefusalOrder.{numbered}
use Rattle.ccsds.proofs.Refusals.{refused-by, kept_by, answered-by, changed_by}
use Rattle.block.proofs.Exits.{passed_on}
use Rattle.block.specs.Open.{open_of, opened_as}
use Rattle.block.proofs.open.open.Goals as goal

pub returns-in_err-check_block : goal.returns-in_err-check_block
unfolding open_of
returns-in_err-check_block c =
    let e = c.in_err-check_block.ensures in
    let h = numbered _ in
    record { answer = passed_on opened_as c.from_residual.ensures.1 (refused-by _ _ e h _); symbols = kept_by _ _ e h _ _; marks = kept_by _ _ e h _ _ }

pub returns : goal.returns
unfolding open_of
returns c =
    let a = c.args in
    let e = c.in_ok-check_block.ensures in
    let s : c.fill.new.self ≡ replicate (length a.symbols.now) 0 = search rules in
    let m : c.fill-2.new.self ≡ replicate (length a.marks.now) 0 = search rules in
    record { answer = answered-by _ _ e refl _; symbols = s ∙ changed_by _ _ e refl _ _; marks = m ∙ changed_by _ _ e refl _ _ }
