-- `block::checks::BlockLayout::admit` meets its contract, by the quick reader and by the reader.
-- Assumes nothing.
use mathlib.Core.Path.{sym}
use Rattle.block.specs.inner.Steps.{admitted_as}
use Rattle.block.proofs.Exits.{passed_on}
use Rattle.block.proofs.Taking.{unread}
use Rattle.block.proofs.checks.BlockLayout.admit.Goals as goal

pub returns-in_err-p : goal.returns-in_err-p
returns-in_err-p c =
    passed_on (admitted_as c.args.unit.now) c.from_residual.ensures.1 (unread _ _ _ (sym c.in_err-p.ensures))
