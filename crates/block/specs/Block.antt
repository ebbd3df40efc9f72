-- Document 01, "Open, take, close", with document 02, job 2: a block's record and its two lent buffers, with the refusals 1 to 4 and 13 that every
-- call on it uses.
-- Assumes nothing.
use Rattle.std.specs.Prelude.{Bool, ◌||◌, [], ◌∷◌, ◌++◌, ℕ, ◌*◌}
use Rattle.algebra.specs.Codeword.{Checks}
use Rattle.ccsds.specs.Codes.{checks_of}
use Rattle.ccsds.specs.Tables.{code_of}
use Rattle.ccsds.specs.Fill.{is_idle}
use Rattle.ccsds.specs.RefusalTable as refusal
use Rattle.ccsds.specs.Refusals.{Conditions, first_of, record_conditions, wrong_length}
use Rattle.block.specs.declared.Block.{Block}

-- the check rows of the block's code, with its n and m
unfoldable pub checks : Block → Checks
checks b = checks_of (code_of b.code)

-- position i of the block is idle
unfoldable pub idle_at : Block → ℕ → Bool
idle_at b i = is_idle (code_of b.code).k b.fill i

-- 4, length, of the lent buffers: n × W symbol bytes and n marks
unfoldable pub wrong_buffers : Block → ℕ → ℕ → Bool
wrong_buffers b symbols_len marks_len = wrong_length symbols_len ((checks b).n * b.w) || wrong_length marks_len (checks b).n

-- 1 to 3, 13 and 4: of a record and the lengths of its buffers
abbrev pub block_conditions : Block → ℕ → ℕ → Conditions
block_conditions b symbols_len marks_len =
    record_conditions b.code b.w b.protocol b.lsc b.fill ++ (refusal.length, wrong_buffers b symbols_len marks_len) ∷ []

-- the number of the refusal, or 0
unfoldable pub block_refusal : Block → ℕ → ℕ → ℕ
block_refusal b symbols_len marks_len = first_of (block_conditions b symbols_len marks_len)
