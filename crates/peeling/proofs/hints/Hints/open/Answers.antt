-- `peeling::hints::Hints::open` meets its contract.
-- Assumes nothing.
use Rattle.std.proofs.Common.{arith}
use Rattle.peeling.proofs.HintLaws.{few_rows}
use Rattle.peeling.proofs.hints.Hints.open.Goals as goal

pub bounds-self-j : goal.bounds-self-j
bounds-self-j c = omega (arith, few_rows c.args.rows.now)
