-- `elimination::system::System::shared_digits` meets its contract. The invariant: the same of the first j rows.
-- Assumes nothing.
use Rattle.elimination.proofs.SharedUnknownsLaws.{seen_more, shared_more}
use Rattle.elimination.proofs.system.System.shared_digits.Goals as goal

pub loop-j-preserved : goal.loop-j-preserved
loop-j-preserved c =
    let a = c.args.self.now in
    let now = c.loop-j in (
      seen_more a.rows.now a.shape.words c.args.i now.j now.seen now.shared now.invariant.0,
      shared_more a.rows.now a.shape.words c.args.i now.j now.seen now.shared now.invariant.0 now.invariant.1,
    )
