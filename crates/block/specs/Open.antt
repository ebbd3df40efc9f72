-- Document 01, "Open, take, close": open.
-- Assumes nothing.
use Rattle.std.specs.Prelude.{Result, Ok, Err, List, ℕ, length, replicate}
use Rattle.ccsds.specs.Refusals.{Outcome, refused, answered, outcome, afterwards, refusal_number}
use Rattle.block.specs.Block.{block_refusal}
use Rattle.ccsds.specs.declared.refusal.Refusal.{Refusal}
use Rattle.block.specs.declared.Block.{Block}

-- what open answers, and the symbol bytes and marks after it
pub record Open : Type 0 where
  pub answer : Outcome Block
  pub symbols : List ℕ
  pub marks : List ℕ

module _ (b : Block) (symbols marks : List ℕ) where
  -- the number of the refusal, or 0
  abbrev pub open_refusal : ℕ
  open_refusal = block_refusal b (length symbols) (length marks)

  -- all symbol bytes and marks are 0, and the record is returned
  unfoldable pub open_of : Open
  open_of = record {
    answer = outcome open_refusal b;
    symbols = afterwards open_refusal (replicate (length symbols) 0) symbols;
    marks = afterwards open_refusal (replicate (length marks) 0) marks;
  }

-- the cases of open's answer in the paper's words
abbrev pub opened_as : Result Block Refusal → Outcome Block
opened_as (Ok b) = answered b
opened_as (Err r) = refused (refusal_number r)
