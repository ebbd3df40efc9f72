-- `closing::count_marks` meets its contract: what is counted, and what is still to count, are all.
-- Assumes nothing.
use mathlib.Core.Path.{◌≡◌, ◌∙◌}
use Prim.Native.Nat.{◌<◌}
use native.Mathlib.Omega.{arith}
use lib.ListN.{length}
use Rattle.closing.proofs.Marks.{count-end, count-one, count_other}
use Rattle.closing.proofs.count_marks.Goals as goal
use Rattle.closing.proofs.count_marks.Goals.{then-mark-eq-HEARD, else-mark-eq-HEARD, then-mark-eq-FILLED, else-mark-eq-FILLED}

pub loop-mark-preserved : goal.loop-mark-preserved
loop-mark-preserved c =
    let l = c.loop-mark in
    let a = c.args in
    let h : l.mark-index < length a.marks.now = omega arith in
    let heard = c.if-mark-eq-HEARD in
    let filled = c.if-mark-eq-FILLED in (
      elim heard.branch [
        | then-mark-eq-HEARD w ↦ record { few = omega (arith, l.invariant.0.few, w.heard-is); all = count-one a.marks.now l.mark-index h 1 l.heard heard.heard w.if-mark-eq-HEARD.true w.heard-is l.invariant.0.all }
        | else-mark-eq-HEARD w ↦ record { few = omega (arith, l.invariant.0.few, w.heard-is); all = count_other a.marks.now l.mark-index h 1 l.heard heard.heard w.if-mark-eq-HEARD.false w.heard-is l.invariant.0.all }
      ],
      elim filled.branch [
        | then-mark-eq-FILLED w ↦ record { few = omega (arith, l.invariant.1.few, w.filled-is); all = count-one a.marks.now l.mark-index h 2 l.filled filled.filled w.if-mark-eq-FILLED.true w.filled-is l.invariant.1.all }
        | else-mark-eq-FILLED w ↦ record { few = omega (arith, l.invariant.1.few, w.filled-is); all = count_other a.marks.now l.mark-index h 2 l.filled filled.filled w.if-mark-eq-FILLED.false w.filled-is l.invariant.1.all }
      ],
    )

pub returns : goal.returns
returns c =
    let l = c.loop-mark in
    let a = c.args in
    let h : l.mark-index ≡ length a.marks.now = omega arith in
    (c.from.ensures ∙ count-end a.marks.now 1 l.mark-index l.heard h l.invariant.0.all, c.from-2.ensures ∙ count-end a.marks.now 2 l.mark-index l.filled h l.invariant.1.all)
