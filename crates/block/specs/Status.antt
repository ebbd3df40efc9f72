-- Document 01, "Open, take, close", with document 02, job 2: the marks of a block (0 missing, 1 heard, 2 filled), and the status of a position by
-- its mark, unless it is idle. Nothing else compares a mark with a number.
-- Assumes nothing.
use Rattle.std.specs.Prelude.{Bool, cond, List, ℕ, eqb, ltb, get_or}
use Rattle.block.specs.Block.{idle_at}
use Rattle.block.specs.declared.Block.{Block}
use Rattle.block.specs.declared.status.Status as coded
use Rattle.block.specs.declared.status.Status.TheVariants.{Heard, Missing}

abbrev pub missing_mark : ℕ
missing_mark = 0

abbrev pub heard_mark : ℕ
heard_mark = 1

abbrev pub filled_mark : ℕ
filled_mark = 2

-- 11, mark: above 2
unfoldable pub wrong_mark : ℕ → Bool
wrong_mark mark = ltb filled_mark mark

-- what a position is: idle; heard; or missing, whether an earlier close filled it or not
pub data Status : Type 0 where
  idle heard missing : Status

-- of a position that is not idle, by its mark
abbrev pub status_by : ℕ → Status
status_by mark = cond (eqb mark heard_mark) heard missing

-- the status of position i of a block: an idle one is neither heard nor missing, whatever its mark
abbrev pub status_of : Block → List ℕ → ℕ → Status
status_of b marks i = cond (idle_at b i) idle (status_by (get_or marks i 0))

-- the cases of the status in the code, which goes by marks and treats idle positions apart
abbrev pub status_as : coded.Status → Status
status_as Heard = heard
status_as Missing = missing
