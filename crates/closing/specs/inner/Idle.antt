-- Where the idle positions of a block stand, and a part of a buffer that is set. Internal: no public contract cites it.
-- Assumes nothing.
use Rattle.std.specs.Prelude.{◌≡◌, cond, List, ℕ, ◌<◌, ◌≤◌, length, get_or}
use Rattle.ccsds.specs.Tables.{code_of}
use Rattle.ccsds.specs.Fill.{is_idle}
use Rattle.block.specs.declared.Block.{Block}

-- the idle positions of the block are those from its fill to before k, of n
pub record IdleIn (b : Block) (k n : ℕ) : Type 0 where
  pub information : k ≡ (code_of b.code).k
  pub fill : b.fill ≤ k
  pub within : k ≤ n

-- l' is l, but for the elements from index `from` to before `to`, which are v
pub record PartSet (from to v : ℕ) (l l' : List ℕ) : Type 0 where
  pub size : length l' ≡ length l
  pub each : (i : ℕ) → i < length l → get_or l' i 0 ≡ cond (is_idle to from i) v (get_or l i 0)
