-- `wire::copy::copy_many` meets its contract: at the loop the first i bytes stand, and after it all but 16 at most.
-- Assumes nothing.
use native.Mathlib.Omega.{arith}
use Rattle.wire.proofs.AppendedLaws.{appended_since, appended_over, copied_first, copied_less, copied_on, copied_all}
use Rattle.wire.proofs.copy.copy_many.Goals as goal
use Rattle.wire.proofs.copy.copy_many.Goals.{else-loop-i-test, then-loop-i-test+else-end-i-gt16}

pub loop-i-init : goal.loop-i-init
loop-i-init c =
    let a = c.args in
    let first = copied_first 16 a.s.now c.copy_16.ensures (omega arith) in
    (omega arith, copied_less _ a.s.now (appended_since first (omega arith)) (omega arith) (omega arith) (omega (arith, c.copy_16.ensures)))

pub overflow_add-at : goal.overflow_add-at
overflow_add-at c = omega (arith, c.copy_16.ensures)

pub copy_16-requires-in-loop-i : goal.copy_16-requires-in-loop-i
copy_16-requires-in-loop-i c = (omega (arith, c.copy_16.ensures), omega arith)

pub loop-i-preserved : goal.loop-i-preserved
loop-i-preserved c =
    let a = c.args in
    (omega arith, copied_on 16 a.s.now c.loop-i.invariant.1 c.copy_16-in-loop-i.ensures (omega arith) (omega arith) (omega (arith, c.copy_16.ensures)))

pub copy_16-requires-2 : goal.copy_16-requires-2
copy_16-requires-2 c = (omega (arith, c.copy_16.ensures), omega arith)

pub returns : goal.returns
returns c =
    let a = c.args in
    appended_over c.copy_16.ensures (omega arith) (elim c.loop-i-test.branch [
      | else-loop-i-test w ↦
          copied_all 16 a.s.now c.loop-i.invariant.1 (rw w.out-is at c.copy_16-2.ensures) (omega arith) (omega arith) (omega (arith, c.copy_16.ensures))
      | then-loop-i-test+else-end-i-gt16 w ↦
          copied_all 16 a.s.now (copied_on 16 a.s.now c.loop-i.invariant.1 w.copy_16-in-loop-i.ensures (omega arith) (omega arith) (omega (arith, c.copy_16.ensures)))
          (rw w.out-is at c.copy_16-2.ensures) (omega arith) (omega arith) (omega (arith, c.copy_16.ensures))
    ])
