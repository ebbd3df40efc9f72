-- `tiles::lengths::rows_needed` meets its contract: a width that is refused, or the sum of the rows.
-- Assumes nothing.
use mathlib.Core.Path.{sym, ◌∙◌}
use native.Mathlib.Omega.{arith}
use borrow.Author.Tests.{ltb-false}
use Prim.Native.Nat.{◌≤◌}
use Rattle.ccsds.specs.Refusals.{wrong_width}
use Rattle.tiles.specs.Rows.{narrow}
use Rattle.tiles.specs.Pack.{rows_told}
use Rattle.tiles.proofs.LengthLaws.{or_true}
use Rattle.tiles.proofs.lengths.rows_needed.Goals as goal
use Rattle.tiles.proofs.lengths.rows_needed.Goals.{Else-is_narrow, then-wrong_width-via-then-wrong_width, then-wrong_width-via-else-wrong_width+then-is_narrow}

least : (c : Else-is_narrow) → 5 ≤ c.args.w
unfolding narrow
least c = ltb-false _ 5 (sym c.is_narrow.ensures ∙ c.if-is_narrow.false)

pub returns-then-wrong_width : goal.returns-then-wrong_width
unfolding rows_told
returns-then-wrong_width c =
    elim c.then-wrong_width.branch [
      | then-wrong_width-via-then-wrong_width w ↦ rw (sym c.wrong_width.ensures ∙ w.if-wrong_width.true)
      | then-wrong_width-via-else-wrong_width+then-is_narrow w ↦ rw (sym w.is_narrow.ensures ∙ w.if-is_narrow.true, or_true (wrong_width c.args.w))
    ]

pub overflow_sub-w : goal.overflow_sub-w
overflow_sub-w c = omega (arith, least (goal.at.overflow_sub-w c).Else-is_narrow)

pub sum_rows-requires : goal.sum_rows-requires
sum_rows-requires c = omega (arith, least (goal.at.sum_rows-requires c).Else-is_narrow)

pub returns : goal.returns
unfolding rows_told
returns c = rw (sym c.wrong_width.ensures ∙ c.if-wrong_width.false, sym c.is_narrow.ensures ∙ c.if-is_narrow.false) c.sum_rows.ensures
