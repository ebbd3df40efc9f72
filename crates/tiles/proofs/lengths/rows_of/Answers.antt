-- `tiles::lengths::rows_of` meets its contract.
-- Assumes nothing.
use mathlib.Core.Path.{◌∙◌}
use Rattle.tiles.proofs.LengthLaws.{rows_up}
use Rattle.tiles.proofs.lengths.rows_of.Goals as goal

pub returns : goal.returns
returns c = c.div_ceil.ensures ∙ rows_up c.args.room c.requires c.args.len
