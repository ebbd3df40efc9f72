-- `wire::copy::copy_more` meets its contract.
-- Assumes nothing.
use native.Mathlib.Omega.{arith}
use Rattle.wire.proofs.AppendedLaws.{copied_first, copied_all}
use Rattle.wire.proofs.copy.copy_more.Goals as goal

pub returns-then-n-le128 : goal.returns-then-n-le128
returns-then-n-le128 c =
    let s = c.args.s.now in
    copied_all 64 s (copied_first 64 s c.copy_64.ensures (omega arith)) c.copy_64-then-n-le128.ensures (omega arith) (omega arith) (omega arith)
