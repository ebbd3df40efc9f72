-- `tiles::lengths::wrong_tiles` meets its contract: what is left of the bytes decides about the lengths that are left.
-- Assumes nothing.
use mathlib.Core.Path.{◌≡◌}
use lib.ListN.{drop}
use Rattle.tiles.specs.Pack.{wrong_tiles}
use Rattle.tiles.proofs.lengths.wrong_tiles.Given as goal

abbrev pub invariant-loop-len : goal.invariant-loop-len
invariant-loop-len l = wrong_tiles (drop l.len-index l.lengths) l.left ≡ wrong_tiles l.lengths l.bytes
