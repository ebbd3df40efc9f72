-- What the decoder is told of a block's positions, and the marks from what it tells.
-- Assumes nothing.
use Rattle.std.specs.Prelude.{◌≡◌, cond, List, ℕ, ◌<◌, eqb, length, get_or}
use Rattle.block.specs.Status.{status_of}
use Rattle.closing.specs.Close.{is_known, mark_after}
use Rattle.block.specs.declared.Block.{Block}

-- told: 1 where the symbol is known, else 0
pub record StatesAre (b : Block) (marks states : List ℕ) : Type 0 where
  pub size : length states ≡ length marks
  pub each : (i : ℕ) → i < length marks → get_or states i 0 ≡ cond (is_known (status_of b marks i)) 1 0

-- the marks by status and by what the decoder told: 2 where a symbol is determined
pub record MarksAre (b : Block) (marks states marks' : List ℕ) : Type 0 where
  pub size : length marks' ≡ length marks
  pub each : (i : ℕ) → i < length marks → get_or marks' i 0 ≡ mark_after (status_of b marks i) (eqb (get_or states i 0) 2)
