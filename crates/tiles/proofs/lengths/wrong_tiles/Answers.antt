-- `tiles::lengths::wrong_tiles` meets its contract: what is left of the bytes decides about the lengths that are left.
-- Assumes nothing.
use mathlib.Core.Path.{◌≡◌}
use native.Mathlib.Omega.{arith}
use lib.ListN.{length}
use Rattle.tiles.proofs.LengthLaws.{tiles-end, tiles-zero, tiles_over, tiles_more}
use Rattle.tiles.proofs.lengths.wrong_tiles.Goals as goal
use Rattle.tiles.proofs.lengths.wrong_tiles.Goals.{then-len-eq0-via-then-len-eq0, then-len-eq0-via-else-len-eq0+then-len-left}

pub returns-then-len-eq0 : goal.returns-then-len-eq0
returns-then-len-eq0 c =
    let l = c.loop-len in
    let a = c.args in
    elim c.then-len-eq0.branch [
      | then-len-eq0-via-then-len-eq0 w ↦ tiles-zero a.lengths.now l.len-index c.loop-len-test.true l.left a.bytes w.if-len-eq0.true l.invariant
      | then-len-eq0-via-else-len-eq0+then-len-left w ↦ tiles_over a.lengths.now l.len-index c.loop-len-test.true l.left a.bytes w.if-len-left.true l.invariant
    ]

pub loop-len-preserved : goal.loop-len-preserved
loop-len-preserved c =
    let l = c.loop-len in
    tiles_more c.args.lengths.now l.len-index c.loop-len-test.true l.left c.args.bytes c.if-len-eq0.false c.if-len-left.false l.invariant

pub returns : goal.returns
returns c =
    let l = c.loop-len in
    let h : l.len-index ≡ length c.args.lengths.now = omega arith in
    tiles-end c.args.lengths.now l.len-index l.left c.args.bytes h l.invariant
