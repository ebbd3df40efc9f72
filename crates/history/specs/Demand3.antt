-- Mission demand 3 in its own words, with document 02, job 2, for every close that gives a verdict after a list of calls, and demand 2's last
-- sentence, for every take. Both are proved from `FromTheList`.
-- Assumes nothing.
use Rattle.std.specs.Prelude.{◌≡◌, ◌↔◌, ◌≢◌, true, false, cond, List, ◌∷◌, ℕ, ◌+◌, ◌*◌, ◌<◌, length, get_or, replicate}
use Rattle.algebra.specs.Codeword.{row_sum, symbol_at}
use Rattle.algebra.specs.Lists.{tab, count}
use Rattle.algebra.specs.Agreeing.{whole, ambiguous, inconsistent}
use Rattle.algebra.specs.Unique.{JustOne, Two, Common}
use Rattle.ccsds.specs.Tables.{code_of}
use Rattle.ccsds.specs.Refusals.{answered}
use Rattle.block.specs.Block.{checks, idle_at}
use Rattle.block.specs.Status.{missing_mark, heard_mark, filled_mark}
use Rattle.block.specs.Open.{open_of}
use Rattle.block.specs.Take.{AdmittedUnit, kept, admission}
use Rattle.closing.specs.Close.{Report, sent_marks}
use Rattle.history.specs.Calls.{take_unit, close_with, History, State, taken, closed, opened, answer, run, heard_at, kept_at}
use Rattle.block.specs.declared.Block.{Block}

module _ (b : Block) (h : History) where
  -- x agrees: it is a codeword, n symbols of W bytes for which all check rows hold, with the kept symbol at every heard position and zero at
  -- every idle one
  pub record Agrees (x : List ℕ) : Type 0 where
    pub size : length x ≡ (checks b).n * b.w
    pub bytes : (t : ℕ) → get_or x t 0 < 256
    pub rows : (j : ℕ) → j < (checks b).m → (d : ℕ) → d < b.w → row_sum (checks b) b.w x j d ≡ 0
    pub heard : (i : ℕ) → i < (checks b).n → heard_at b h i ≡ true → symbol_at b.w x i ≡ kept_at b h i
    pub idle : (i : ℕ) → idle_at b i ≡ true → symbol_at b.w x i ≡ replicate b.w 0

  -- position i is missing: neither idle nor heard
  abbrev pub Missing : ℕ → Type 0
  Missing i = (i < (checks b).n) × (idle_at b i ≡ false) × (heard_at b h i ≡ false)

  -- a close after the calls of h reports r and leaves s
  pub record Closes (r : Report) (s : State) : Type 0 where
    -- whole exactly when just one codeword agrees: every missing symbol is filled, and the block is that codeword
    pub is_whole : (r.verdict ≡ whole) ↔ JustOne Agrees
    pub whole_fills : r.verdict ≡ whole → (i : ℕ) → Missing i → get_or s.marks i 0 ≡ filled_mark
    pub whole-block : r.verdict ≡ whole → (x : List ℕ) → Agrees x → s.symbols ≡ x
    -- ambiguous exactly when two or more agree: a missing symbol is filled exactly when all of them have the same one there
    pub is_ambiguous : (r.verdict ≡ ambiguous) ↔ Two Agrees
    pub ambiguous_fills : r.verdict ≡ ambiguous → (i : ℕ) → Missing i → (get_or s.marks i 0 ≡ filled_mark) ↔ Common b.w Agrees i
    -- inconsistent exactly when none agrees: nothing is filled
    pub is_inconsistent : (r.verdict ≡ inconsistent) ↔ ((x : List ℕ) → ¬ Agrees x)
    pub inconsistent_fills : r.verdict ≡ inconsistent → (i : ℕ) → i < (checks b).n → get_or s.marks i 0 ≢ filled_mark
    -- Heard positions stay; a filled one, which was missing, gets the symbol that all that agree have there; the other missing ones and the
    -- idle ones get zero bytes and mark 0.
    pub heard_stays : (i : ℕ) → i < (checks b).n → heard_at b h i ≡ true → (get_or s.marks i 0 ≡ heard_mark) × (symbol_at b.w s.symbols i ≡ kept_at b h i)
    pub filled-missing : (i : ℕ) → i < (checks b).n → get_or s.marks i 0 ≡ filled_mark → Missing i
    pub filled-symbol : (i : ℕ) → i < (checks b).n → get_or s.marks i 0 ≡ filled_mark → (x : List ℕ) → Agrees x → symbol_at b.w s.symbols i ≡ symbol_at b.w x i
    pub left-zero : (i : ℕ) → Missing i → get_or s.marks i 0 ≢ filled_mark
        → (get_or s.marks i 0 ≡ missing_mark) × (symbol_at b.w s.symbols i ≡ replicate b.w 0)
    pub idle-zero : (i : ℕ) → idle_at b i ≡ true → (get_or s.marks i 0 ≡ missing_mark) × (symbol_at b.w s.symbols i ≡ replicate b.w 0)
    -- the counts: of the heard positions, of those that this close fills, and of the other missing ones
    pub count-heard : r.heard ≡ count heard_mark (tab (checks b).n (λ i. cond (heard_at b h i) heard_mark missing_mark))
    pub count-filled : r.filled ≡ count filled_mark s.marks
    pub count_left : r.left ≡ count missing_mark (sent_marks b s.marks)
    pub count_all : r.heard + r.filled + r.left ≡ b.fill + (code_of b.code).m

  -- a take after the calls of h, from state s to state t: it is kept exactly when its unit is admitted at a position not yet heard,
  -- and the unit's symbol then stands there as heard
  pub record Takes (unit : List ℕ) (s t : State) : Type 0 where
    pub keeps : (answer b s (take_unit unit) ≡ taken (answered kept)) ↔ ((x : AdmittedUnit) × (admission b unit ≡ answered x) × (heard_at b h x.position ≡ false))
    pub stores : (x : AdmittedUnit) → admission b unit ≡ answered x → heard_at b h x.position ≡ false
        → (get_or t.marks x.position 0 ≡ heard_mark) × (symbol_at b.w t.symbols x.position ≡ x.symbol)

-- for every record that open returned, every list of calls, and every close after it that is not refused
abbrev pub Demand3 : Type 0
Demand3 = (o b : Block) (symbols marks : List ℕ) → (open_of o symbols marks).answer ≡ answered b
    → (h : History) (words bytes : List ℕ) (r : Report)
    → answer b (run b (opened (open_of o symbols marks)) h) (close_with words bytes) ≡ closed (answered r)
    → Closes b h r (run b (opened (open_of o symbols marks)) (close_with words bytes ∷ h))

-- and every take after it
abbrev pub Demand2 : Type 0
Demand2 = (o b : Block) (symbols marks : List ℕ) → (open_of o symbols marks).answer ≡ answered b
    → (h : History) (unit : List ℕ)
    → Takes b h unit (run b (opened (open_of o symbols marks)) h) (run b (opened (open_of o symbols marks)) (take_unit unit ∷ h))
