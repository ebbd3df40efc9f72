-- `tiles::lengths::sum_rows` meets its contract: the sum goes up to the largest number, and with the rows of the lengths to come it says what all do.
-- Assumes nothing.
use mathlib.Core.Path.{◌≡◌, ap, ◌∙◌}
use Prim.Native.Nat.{ℕ, ◌+◌}
use native.Mathlib.Omega.{arith}
use lib.ListN.{length, drop}
use Rattle.tiles.specs.Pack.{rows_needed, capped}
use Rattle.tiles.proofs.LengthLaws.{sum-end, sum_more}
use Rattle.tiles.proofs.lengths.sum_rows.Goals as goal

pub loop-len-preserved : goal.loop-len-preserved
loop-len-preserved c =
    let a = c.args in
    let l = c.loop-len in
    let i = l.len-index in
    let s = c.saturating_add-sum.ensures in
    (omega (arith, s), ap (λ (k : ℕ). capped (k + rows_needed a.room (drop (i + 1) a.lengths.now))) s ∙ sum_more a.lengths.now i c.loop-len-test.true a.room c.rows_of.result l.sum _ c.rows_of.ensures l.invariant.1)

pub returns : goal.returns
returns c =
    let a = c.args in
    let l = c.loop-len in
    let h : l.len-index ≡ length a.lengths.now = omega arith in
    sum-end a.lengths.now a.room l.len-index l.sum _ h l.invariant.0 l.invariant.1
