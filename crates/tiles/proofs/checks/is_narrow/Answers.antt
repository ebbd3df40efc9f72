-- `tiles::checks::is_narrow` meets its contract.
-- Assumes nothing.
use Rattle.tiles.specs.Rows.{narrow}
use borrow.Author.Rules.{rules}
use Rattle.tiles.proofs.checks.is_narrow.Goals as goal

pub returns : goal.returns
unfolding narrow
returns c = search rules
