-- Document 01, "Open, take, close", with document 02, job 2: close, by the codewords that agree with the heard symbols and are zero at the idle
-- positions (`agreeing` of algebra).
-- Assumes nothing.
use Rattle.std.specs.Prelude.{Result, Ok, Err, Bool, true, false, cond, ◌||◌, List, [], ◌∷◌, ◌++◌, ℕ, ◌+◌, ◌-◌, ◌*◌, ◌/◌, length, take, drop, replicate}
use Rattle.algebra.specs.Lists.{tab, count}
use Rattle.algebra.specs.Agreeing.{Verdict, whole, ambiguous, inconsistent, agreeing, verdict_of, determined, filled_symbols}
use Rattle.ccsds.specs.Tables.{code_of}
use Rattle.ccsds.specs.RefusalTable as refusal
use Rattle.ccsds.specs.Refusals.{first_of, wrong_length, Outcome, refused, answered, outcome, afterwards, refusal_number}
use Rattle.block.specs.Block.{checks, block_conditions}
use Rattle.block.specs.Status.{missing_mark, heard_mark, filled_mark, wrong_mark, Status, idle, heard, missing, status_of}
use Rattle.ccsds.specs.declared.refusal.Refusal.{Refusal}
use Rattle.block.specs.declared.Block.{Block}
use Rattle.closing.specs.declared.Verdict as coded-verdict
use Rattle.closing.specs.declared.Verdict.TheVariants.{Whole, Ambiguous, Inconsistent}
use Rattle.closing.specs.declared.Report as coded-report

-- 4, length, of the work buffers: m × (n / 64 + 1) words and m × W bytes
unfoldable pub wrong_work : Block → ℕ → ℕ → Bool
wrong_work b words_len bytes_len =
    wrong_length words_len ((checks b).m * ((checks b).n / 64 + 1)) || wrong_length bytes_len ((checks b).m * b.w)

-- 11, mark: one above 2 anywhere
unfoldable pub wrong_marks : List ℕ → Bool
wrong_marks [] = false
wrong_marks (mark ∷ marks) = wrong_mark mark || wrong_marks marks

-- the marks of the positions that are sent: idle ones are not counted
unfoldable pub sent_marks : Block → List ℕ → List ℕ
sent_marks b marks = take b.fill marks ++ drop (code_of b.code).k marks

-- a verdict with the counts of marks 1, 2 and 0
pub record Report : Type 0 where
  pub verdict : Verdict
  pub heard : ℕ
  pub filled : ℕ
  pub left : ℕ

abbrev pub report_of : Block → Verdict → List ℕ → Report
report_of b v marks = record {
  verdict = v;
  heard = count heard_mark (sent_marks b marks);
  filled = count filled_mark (sent_marks b marks);
  left = count missing_mark (sent_marks b marks);
}

-- ---- the verdict

-- the symbols with zero at the idle positions, whatever stood there
unfoldable pub idle_cleared : Block → List ℕ → List ℕ
idle_cleared b symbols =
    take (b.fill * b.w) symbols ++ replicate (((code_of b.code).k - b.fill) * b.w) 0 ++ drop ((code_of b.code).k * b.w) symbols

-- close knows the symbols of the heard positions, and those of the idle ones, which are zero
abbrev pub is_known : Status → Bool
is_known idle = true
is_known heard = true
is_known missing = false

unfoldable pub known : Block → List ℕ → ℕ → Bool
known b marks i = is_known (status_of b marks i)

-- the mark after a verdict, by the status and by whether all codewords that agree have the same symbol there
abbrev pub mark_after : Status → Bool → ℕ
mark_after idle determined = missing_mark
mark_after heard determined = heard_mark
mark_after missing determined = cond determined filled_mark missing_mark

module _ (b : Block) (symbols marks : List ℕ) where
  -- all codewords that agree with the heard symbols and are zero at the idle positions
  unfoldable pub agreeing_words : List (List ℕ)
  agreeing_words = agreeing (checks b) b.w (known b marks) (idle_cleared b symbols)

  -- Heard positions stay as they are; those missing where all agreeing codewords have the same symbol get it and mark 2; all others, the idle ones
  -- among them, get zero bytes and mark 0.
  unfoldable pub symbols_after : List ℕ
  symbols_after = filled_symbols (checks b) b.w (known b marks) (idle_cleared b symbols)

  unfoldable pub marks_after : List ℕ
  marks_after = tab (checks b).n (λ i. mark_after (status_of b marks i) (determined b.w agreeing_words i))

-- ---- close

-- what close answers, and what its four lent buffers hold after it
pub record Close : Type 0 where
  pub answer : Outcome Report
  pub symbols : List ℕ
  pub marks : List ℕ
  pub work_words : List ℕ
  pub work_bytes : List ℕ

module _ (b : Block) (symbols marks words bytes : List ℕ) where
  -- the number of the refusal, or 0
  unfoldable pub close_refusal : ℕ
  close_refusal =
      first_of (
      block_conditions b (length symbols) (length marks)
      ++ (refusal.length, wrong_work b (length words) (length bytes))
      ∷ (refusal.mark, wrong_marks marks)
      ∷ []
      )

  -- the work buffers are all zero after a verdict
  unfoldable pub close_of : Close
  close_of = record {
    answer = outcome close_refusal (report_of b (verdict_of (agreeing_words b symbols marks)) (marks_after b symbols marks));
    symbols = afterwards close_refusal (symbols_after b symbols marks) symbols;
    marks = afterwards close_refusal (marks_after b symbols marks) marks;
    work_words = afterwards close_refusal (replicate (length words) 0) words;
    work_bytes = afterwards close_refusal (replicate (length bytes) 0) bytes;
  }

-- the cases of close's answer in the paper's words
abbrev pub verdict_as : coded-verdict.Verdict → Verdict
verdict_as Whole = whole
verdict_as Ambiguous = ambiguous
verdict_as Inconsistent = inconsistent

abbrev pub report_as : coded-report.Report → Report
report_as r = record { verdict = verdict_as r.verdict; heard = r.heard; filled = r.filled; left = r.left }

abbrev pub closed_as : Result coded-report.Report Refusal → Outcome Report
closed_as (Ok r) = answered (report_as r)
closed_as (Err r) = refused (refusal_number r)
