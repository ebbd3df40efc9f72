-- `block::checks::BlockLayout::wrong_parameters` meets its contract: the four numbers one after the other.
-- Assumes nothing.
use Rattle.std.proofs.Common.{arith}
use Rattle.std.proofs.lemmas.Bool.Decides.{nat_tests}
use Rattle.block.proofs.Taking.{parameters_by}
use Rattle.block.proofs.checks.BlockLayout.wrong_parameters.Goals as goal

pub returns-then-p-n : goal.returns-then-p-n
returns-then-p-n c = let e = parameters_by c.args.self.block c.args.self.layout_of c.in-Some.is in rw e (grind (arith, nat_tests))

pub returns-else-p-n : goal.returns-else-p-n
returns-else-p-n c = let e = parameters_by c.args.self.block c.args.self.layout_of c.in-Some.is in rw e (grind (arith, nat_tests))
