-- `wire::copy::copy_few` meets its contract: the last part reaches back over the first.
-- Assumes nothing.
use native.Mathlib.Omega.{arith}
use Rattle.wire.proofs.AppendedLaws.{copied_first, copied_on, copied_all}
use Rattle.wire.proofs.copy.copy_few.Goals as goal

pub returns-then-n-ge16 : goal.returns-then-n-ge16
returns-then-n-ge16 c =
    let s = c.args.s.now in
    copied_all 16 s (copied_first 16 s c.copy_16.ensures (omega arith)) c.copy_16-then-n-ge16.ensures (omega arith) (omega arith) (omega arith)

pub returns-then-n-ge8 : goal.returns-then-n-ge8
returns-then-n-ge8 c =
    let s = c.args.s.now in
    copied_all 8 s (copied_first 8 s c.copy_8.ensures (omega arith)) c.copy_8-then-n-ge8.ensures (omega arith) (omega arith) (omega arith)

pub returns-then-n-ge4 : goal.returns-then-n-ge4
returns-then-n-ge4 c =
    let s = c.args.s.now in
    copied_all 4 s (copied_first 4 s c.copy_4.ensures (omega arith)) c.copy_4-then-n-ge4.ensures (omega arith) (omega arith) (omega arith)

pub returns : goal.returns
returns c =
    let s = c.args.s.now in
    let two = copied_on 1 s (copied_first 1 s c.copy_1.ensures (omega arith)) c.copy_1-2.ensures (omega arith) (omega arith) (omega arith) in
    copied_all 1 s two c.copy_1-3.ensures (omega arith) (omega arith) (omega arith)
