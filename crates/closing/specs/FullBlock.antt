-- Document 02, job 2, for blocks with fill k: no position is idle, and the calls are document 01's. Their lists of refusals know neither 13
-- nor 14, the status of a position goes by its mark alone, the codewords that agree with the heard symbols decide, and all marks are counted.
-- Assumes nothing.
use Rattle.std.specs.Prelude.{◌≡◌, Bool, List, [], ◌∷◌, ◌++◌, ℕ, ◌-◌, eqb, length, get_or}
use Rattle.algebra.specs.Lists.{tab, count}
use Rattle.algebra.specs.Agreeing.{Verdict, agreeing, determined, filled_symbols}
use Rattle.ccsds.specs.Tables.{code_of}
use Rattle.ccsds.specs.RefusalTable as refusal
use Rattle.ccsds.specs.Refusals.{Conditions, first_of, code_conditions, wrong_label, wrong_length, wrong_position}
use Rattle.unit_reader.specs.Reader.{Parts}
use Rattle.block.specs.Block.{checks, wrong_buffers, block_refusal}
use Rattle.block.specs.Status.{missing_mark, heard_mark, filled_mark, status_by, status_of}
use Rattle.closing.specs.Close.{mark_after}
use Rattle.block.specs.Take.{wrong_parameters, foreign, unit_refusal}
use Rattle.closing.specs.Close.{wrong_work, wrong_marks, report_of, agreeing_words, symbols_after, marks_after, close_refusal}
use Rattle.block.specs.declared.Block.{Block}

-- 1 to 4: of a record and the lengths of its buffers
abbrev pub block_conditions01 : Block → ℕ → ℕ → Conditions
block_conditions01 b symbols_len marks_len =
    code_conditions b.code b.w
    ++ (refusal.label, wrong_label b.protocol b.lsc)
    ∷ (refusal.length, wrong_buffers b symbols_len marks_len)
    ∷ []

-- 7 to 10: of a unit of so many bytes that was read
abbrev pub unit_conditions01 : Block → Parts → ℕ → Conditions
unit_conditions01 b p len =
    (refusal.parameters, wrong_parameters b p.coding)
    ∷ (refusal.foreign, foreign b p)
    ∷ (refusal.position, wrong_position (checks b).n p.lwc)
    ∷ (refusal.symbol, wrong_length (len - p.symbol) b.w)
    ∷ []

-- 1 to 4 and 11: of close's record and buffers
abbrev pub close_conditions01 : Block → List ℕ → List ℕ → List ℕ → List ℕ → Conditions
close_conditions01 b symbols marks words bytes =
    block_conditions01 b (length symbols) (length marks)
    ++ (refusal.length, wrong_work b (length words) (length bytes))
    ∷ (refusal.mark, wrong_marks marks)
    ∷ []

-- mark 1
abbrev pub heard_by : List ℕ → ℕ → Bool
heard_by marks i = eqb (get_or marks i 0) heard_mark

-- what open, take and close are defined by is document 01's
pub record As01 (b : Block) : Type 0 where
  pub block_refusal_lem : (symbols_len marks_len : ℕ)
      → block_refusal b symbols_len marks_len ≡ first_of (block_conditions01 b symbols_len marks_len)
  pub unit_refusal_lem : (p : Parts) (len : ℕ) → unit_refusal b p len ≡ first_of (unit_conditions01 b p len)
  pub close_refusal_lem : (symbols marks words bytes : List ℕ)
      → close_refusal b symbols marks words bytes ≡ first_of (close_conditions01 b symbols marks words bytes)
  pub status : (marks : List ℕ) (i : ℕ) → status_of b marks i ≡ status_by (get_or marks i 0)
  pub agreeing-words : (symbols marks : List ℕ) → agreeing_words b symbols marks ≡ agreeing (checks b) b.w (heard_by marks) symbols
  pub symbols-after : (symbols marks : List ℕ) → symbols_after b symbols marks ≡ filled_symbols (checks b) b.w (heard_by marks) symbols
  pub marks-after : (symbols marks : List ℕ)
      → marks_after b symbols marks
      ≡ tab (checks b).n (λ i. mark_after (status_by (get_or marks i 0)) (determined b.w (agreeing (checks b) b.w (heard_by marks) symbols) i))
  pub report : (v : Verdict) (marks : List ℕ)
      → report_of b v marks ≡ record { verdict = v; heard = count heard_mark marks; filled = count filled_mark marks; left = count missing_mark marks }

abbrev pub FullBlock : Type 0
FullBlock = (b : Block) → b.fill ≡ (code_of b.code).k → As01 b
