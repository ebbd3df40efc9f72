-- `wire::copy::copy_some` meets its contract: the last part reaches back over those before.
-- Assumes nothing.
use native.Mathlib.Omega.{arith}
use Rattle.wire.proofs.AppendedLaws.{copied_first, copied_on, copied_all}
use Rattle.wire.proofs.copy.copy_some.Goals as goal

pub returns-then-n-le48 : goal.returns-then-n-le48
returns-then-n-le48 c =
    let s = c.args.s.now in
    let two = copied_on 16 s (copied_first 16 s c.copy_16.ensures (omega arith)) c.copy_16-2.ensures (omega arith) (omega arith) (omega arith) in
    copied_all 16 s two c.copy_16-then-n-le48.ensures (omega arith) (omega arith) (omega arith)

pub returns : goal.returns
returns c =
    let s = c.args.s.now in
    let two = copied_on 16 s (copied_first 16 s c.copy_16.ensures (omega arith)) c.copy_16-2.ensures (omega arith) (omega arith) (omega arith) in
    let three = copied_on 16 s two c.copy_16-3.ensures (omega arith) (omega arith) (omega arith) in
    copied_all 16 s three c.copy_16-4.ensures (omega arith) (omega arith) (omega arith)
