-- What the decoder is told of each position of a block, in a list of n numbers: 1 where its symbol is known. Internal: no public contract cites it.
-- Assumes nothing.
use Rattle.std.specs.Prelude.{ℕ, Bool, List, ◌==◌, slice_index}

-- the symbol at position i is known
unfoldable pub is_known : List ℕ → ℕ → Bool
is_known states i = slice_index states i == 1
