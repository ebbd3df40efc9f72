-- Document 01, "The whole list", with document 02, job 2: lists of takes and closes on an opened block. `run` goes call by call, by what the
-- calls' contracts say; `state_of` and `answer_of` say the same from the list alone, and `FromTheList` is the claim that they agree.
-- Assumes nothing.
use Rattle.std.specs.Prelude.{◌≡◌, Bool, true, false, ◌||◌, cond, List, [], ◌∷◌, ℕ, ◌*◌, ◌/◌, ◌%◌, eqb, length, get_or, replicate}
use Rattle.algebra.specs.Lists.{tab}
use Rattle.algebra.specs.Codeword.{byte_at, symbol_at}
use Rattle.algebra.specs.Agreeing.{agreeing, verdict_of, determined, first}
use Rattle.ccsds.specs.RefusalTable as refusal
use Rattle.ccsds.specs.Refusals.{Outcome, refused, answered, refused_for}
use Rattle.block.specs.Block.{checks, idle_at}
use Rattle.block.specs.Status.{missing_mark, wrong_mark, Status, idle, heard, missing}
use Rattle.closing.specs.Close.{is_known, mark_after}
use Rattle.block.specs.Open.{Open, open_of}
use Rattle.block.specs.Take.{AdmittedUnit, TakeResult, kept, repeated, admission, same_bytes, take_of}
use Rattle.closing.specs.Close.{Report, report_of, wrong_work, close_of}
use Rattle.block.specs.declared.Block.{Block}

-- a take with its unit's bytes, or a close with its two work buffers
pub data Call : Type 0 where
  take_unit : List ℕ → Call
  close_with : List ℕ → List ℕ → Call

-- the calls so far, the latest first
abbrev pub History : Type 0
History = List Call

-- a block's symbol bytes and marks
pub record State : Type 0 where
  pub symbols : List ℕ
  pub marks : List ℕ

pub data Answer : Type 0 where
  taken : Outcome TakeResult → Answer
  closed : Outcome Report → Answer

-- ---- call by call

-- what open leaves
abbrev pub opened : Open → State
opened o = record { symbols = o.symbols; marks = o.marks }

module _ (b : Block) where
  -- the state after a call, and its answer
  unfoldable pub next : State → Call → State
  next s (take_unit unit) = record { symbols = (take_of b s.symbols s.marks unit).symbols; marks = (take_of b s.symbols s.marks unit).marks }
  next s (close_with words bytes) = record {
    symbols = (close_of b s.symbols s.marks words bytes).symbols;
    marks = (close_of b s.symbols s.marks words bytes).marks;
  }

  unfoldable pub answer : State → Call → Answer
  answer s (take_unit unit) = taken (take_of b s.symbols s.marks unit).answer
  answer s (close_with words bytes) = closed (close_of b s.symbols s.marks words bytes).answer

  -- the state after all calls, from what open left
  unfoldable pub run : State → History → State
  run s [] = s
  run s (c ∷ h) = next (run s h) c

-- ---- from the list alone

-- the unit is admitted at position i
unfoldable pub is_at : Outcome AdmittedUnit → ℕ → Bool
is_at (refused number) i = false
is_at (answered x) i = eqb x.position i

unfoldable pub symbol_of : Outcome AdmittedUnit → List ℕ
symbol_of (refused number) = []
symbol_of (answered x) = x.symbol

module _ (b : Block) where
  -- some take so far was admitted at position i
  unfoldable pub heard_at : History → ℕ → Bool
  heard_at [] i = false
  heard_at (take_unit unit ∷ h) i = is_at (admission b unit) i || heard_at h i
  heard_at (close_with words bytes ∷ h) i = heard_at h i

  -- the symbol of the first such take; none where there is none
  unfoldable pub kept_at : History → ℕ → List ℕ
  kept_at [] i = []
  kept_at (take_unit unit ∷ h) i = cond (heard_at h i) (kept_at h i) (cond (is_at (admission b unit) i) (symbol_of (admission b unit)) [])
  kept_at (close_with words bytes ∷ h) i = kept_at h i

  -- the kept symbols in their places
  unfoldable pub kept_symbols : History → List ℕ
  kept_symbols h = tab ((checks b).n * b.w) (λ t. get_or (kept_at h (t / b.w)) (t % b.w) 0)

  -- what position i is: idle; heard; else missing
  abbrev pub status_at : History → ℕ → Status
  status_at h i = cond (idle_at b i) idle (cond (heard_at h i) heard missing)

  -- its symbol is known: the kept one where it is heard; zero where it is idle, as no unit is admitted there
  unfoldable pub known_at : History → ℕ → Bool
  known_at h i = is_known (status_at h i)

  -- all codewords that have the kept symbol at every heard position, and zero at every idle one
  unfoldable pub agreeing_with : History → List (List ℕ)
  agreeing_with h = agreeing (checks b) b.w (known_at h) (kept_symbols h)

  -- those of the latest close that gave a verdict: a close is refused just where a work buffer isn't its size
  unfoldable pub latest : History → List (List ℕ)
  latest [] = []
  latest (take_unit unit ∷ h) = latest h
  latest (close_with words bytes ∷ h) = cond (wrong_work b (length words) (length bytes)) (latest h) (agreeing_with h)

  -- 0 where it is idle; 1 where it is heard; 2 where the latest verdict filled it; else 0
  unfoldable pub mark_of : History → ℕ → ℕ
  mark_of h i = mark_after (status_at h i) (determined b.w (latest h) i)

  -- byte j at position i: 0 where it is idle; of the kept symbol where it is heard; of the symbol that all agreeing codewords of the latest
  -- verdict have there; else 0
  abbrev pub byte_by : History → ℕ → ℕ → Status → ℕ
  byte_by h j i idle = 0
  byte_by h j i heard = get_or (kept_at h i) j 0
  byte_by h j i missing = cond (determined b.w (latest h) i) (byte_at b.w (first (latest h)) j i) 0

  unfoldable pub byte_of : History → ℕ → ℕ → ℕ
  byte_of h j i = byte_by h j i (status_at h i)

  unfoldable pub state_of : History → State
  state_of h = record {
    symbols = tab ((checks b).n * b.w) (λ t. byte_of h (t % b.w) (t / b.w));
    marks = tab (checks b).n (mark_of h);
  }

  -- the number of a unit that isn't admitted; the first admitted one for a position is kept, a later one repeated or 12
  abbrev pub take_answer : History → Outcome AdmittedUnit → Outcome TakeResult
  take_answer h (refused number) = refused number
  take_answer h (answered x) =
      cond (heard_at h x.position)
      (cond (same_bytes (kept_at h x.position) x.symbol) (answered repeated) (refused_for refusal.conflict))
      (answered kept)

  -- 4, or the verdict of the agreeing codewords and the counts of the marks after it
  unfoldable pub answer_of : History → Call → Answer
  answer_of h (take_unit unit) = taken (take_answer h (admission b unit))
  answer_of h (close_with words bytes) =
      closed (cond (wrong_work b (length words) (length bytes)) (refused_for refusal.length)
      (answered (report_of b (verdict_of (agreeing_with h)) (state_of (close_with words bytes ∷ h)).marks)))

-- ---- the claim

-- state s after the calls of h is what the list says, and so is the answer to every further call; no mark is one that 11 refuses, and an idle
-- position has mark 0 and zero bytes
pub record FollowsList (b : Block) (h : History) (s : State) : Type 0 where
  pub state : s ≡ state_of b h
  pub answers : (c : Call) → answer b s c ≡ answer_of b h c
  pub marks : (i : ℕ) → wrong_mark (get_or s.marks i 0) ≡ false
  pub idle-marks : (i : ℕ) → idle_at b i ≡ true → get_or s.marks i 0 ≡ missing_mark
  pub idle-symbols : (i : ℕ) → idle_at b i ≡ true → symbol_at b.w s.symbols i ≡ replicate b.w 0

-- for every record that open returned, whatever the buffers held before, and every list of calls
abbrev pub FromTheList : Type 0
FromTheList = (o b : Block) (symbols marks : List ℕ) → (open_of o symbols marks).answer ≡ answered b
    → (h : History) → FollowsList b h (run b (opened (open_of o symbols marks)) h)
