-- A close put together: the marks from what the decoder tells, the report, and the call by its refusal.
-- Assumes nothing.
use mathlib.Core.Path.{◌≡◌, refl, sym, ap, ap₂, ◌∙◌, subst}
use mathlib.Core.Bool.{Bool, true, false, ◌&&◌, cond, false≢true}
use mathlib.Core.List.{List}
use Prim.Native.Nat.{ℕ, ◌-◌, ◌*◌, ◌<◌, ◌≤◌}
use native.Mathlib.Nat.{le-add_right, mul-le-mul_right}
use native.Mathlib.Omega.{arith}
use lib.Dec.{eqb, ltb, leb}
use lib.ListN.{length, get_or, replicate}
use lib.Seq.{ext_get_or}
use borrow.Author.Tests.{leb-false, lt-ltb}
use Rattle.algebra.specs.Lists.{count}
use Rattle.algebra.specs.Codeword.{Checks, byte_at}
use Rattle.algebra.specs.Staircase.{staircase, stair}
use Rattle.algebra.specs.Agreeing.{Verdict, agreeing, verdict_of, determined, filled_symbols}
use Rattle.algebra.proofs.Lists.{length-tab, get_d_tab}
use Rattle.algebra.proofs.SameKnown.{SameKnown, same-agreeing, same-filled}
use Rattle.algebra.proofs.Shortened.{SameSent, sent_agreeing, sent_filled}
use Rattle.ccsds.specs.Codes.{touches}
use Rattle.ccsds.specs.Tables.{code_of}
use Rattle.ccsds.specs.Fill.{is_idle}
use Rattle.ccsds.specs.Refusals.{refused, answered}
use Rattle.ccsds.proofs.Refusals.{refused-by, kept_by, answered-by, changed_by}
use Rattle.encoder.specs.inner.Positions.{sent_checks}
use Rattle.peeling.specs.States as decoder
use Rattle.decoder.specs.Outcome.{verdict_by, states_after, Decoded}
use Rattle.block.specs.Block.{checks, idle_at}
use Rattle.block.specs.Status.{missing_mark, heard_mark, filled_mark, Status, idle, heard, missing, status_of}
use Rattle.closing.specs.Close.{is_known, known, mark_after}
use Rattle.closing.specs.Close.{Report, sent_marks, report_of, idle_cleared, agreeing_words, symbols_after, marks_after, close_refusal, close_of}
use Rattle.closing.specs.inner.Idle.{IdleIn, PartSet}
use Rattle.closing.specs.inner.Ready.{Ready}
use Rattle.closing.specs.inner.States.{StatesAre, MarksAre}
use Rattle.block.specs.declared.Block.{Block}
use Rattle.closing.proofs.Idle.{idle-at, set_is, cleared_byte, cleared_is}
use Rattle.closing.proofs.Marks.{idle-count}

-- ---- the report

pub told : (b : Block) (v : Verdict) (ok : Bool) (h f l : ℕ) (marks : List ℕ) → v ≡ verdict_by ok l → h ≡ count heard_mark (sent_marks b marks)
    → f ≡ count filled_mark (sent_marks b marks) → l ≡ count missing_mark (sent_marks b marks)
    → record { verdict = v; heard = h; filled = f; left = l } ≡ report_of b (verdict_by ok (count missing_mark (sent_marks b marks))) marks
told b v ok h f l marks e p q r = rw (e ∙ ap (verdict_by ok) r, p, q, r)

-- ---- from the check rows without the idle positions to all of them

-- the rows that the decoder goes by
abbrev pub sent_rows : Block → Checks
sent_rows b = sent_checks (code_of b.code) b.fill

pub same-n : (b : Block) → (sent_rows b).n ≡ (checks b).n
unfolding checks staircase
same-n b = refl

-- they have the positions that are sent in common
same_row : (b : Block) (j p : ℕ) → idle_at b p ≡ false → (sent_rows b).has j p ≡ (checks b).has j p
unfolding checks staircase idle_at is_idle
same_row b j p e = go (ltb p (code_of b.code).k) (leb b.fill p) refl e
  where
    go : (u t : Bool) → leb b.fill p ≡ t → t && u ≡ false
        → cond u (ltb p b.fill && touches (code_of b.code) p j) (stair j (p - (code_of b.code).k))
        ≡ cond u (touches (code_of b.code) p j) (stair j (p - (code_of b.code).k))
    go false t q e = refl
    go true false q e = ap (λ (v : Bool). v && touches (code_of b.code) p j) (lt-ltb p b.fill (leb-false b.fill p q))
    go true true q e = absurd (false≢true (sym e))

-- the information symbols are within the block
pub room : {b : Block} {s marks words bytes : ℕ} → Ready b s marks words bytes → (code_of b.code).k * b.w ≤ s
unfolding checks staircase
room {b} R = omega (arith, R.symbols-size, mul-le-mul_right b.w (le-add_right (code_of b.code).k (code_of b.code).m))

-- ---- from the decoder's states to the marks

module _ {b : Block} {k words bytes : ℕ} (s marks : List ℕ) {s₀ states : List ℕ} (R : Ready b (length s) (length marks) words bytes)
    (I : IdleIn b k (length marks)) (P : PartSet (b.fill * b.w) (k * b.w) 0 s s₀) (T : StatesAre b marks states) where
  cleared : s₀ ≡ idle_cleared b s
  cleared = cleared_is b s R.fill (room R) I P

  -- the decoder knows what the block knows
  same_known : (i : ℕ) → i < (checks b).n → decoder.is_known states i ≡ known b marks i
  unfolding decoder.is_known known
  same_known i h = ap (λ (v : ℕ). eqb v 1) (T.each i (omega (arith, R.marks-size))) ∙ go (is_known (status_of b marks i))
    where
      go : (a : Bool) → eqb (cond a 1 0) 1 ≡ a
      go true = refl
      go false = refl

  same : SameKnown (sent_rows b) b.w (decoder.is_known states) s₀ (known b marks) s₀
  unfolding checks staircase
  same = record { same_known = same_known; same_byte = λ i h t j l. refl }

  -- idle positions are known, and zero
  sent : SameSent (sent_rows b) (checks b).has b.w (idle_at b) (known b marks) s₀
  unfolding known
  sent = record {
    same-has = λ j p h e. same_row b j p e;
    idle-known = λ p h e. rw e;
    idle-zero = λ p h e j l. ap (λ (x : List ℕ). byte_at b.w x j p) cleared ∙ cleared_byte b s R.fill (room R) p j l ∙ rw e;
  }

  agreeing_are : agreeing (sent_rows b) b.w (decoder.is_known states) s₀ ≡ agreeing_words b s marks
  unfolding agreeing_words checks staircase
  agreeing_are =
      same-agreeing (sent_rows b) b.w (decoder.is_known states) s₀ (known b marks) s₀ same
      ∙ sent_agreeing (sent_rows b) (checks b).has b.w (idle_at b) (known b marks) s₀ sent
      ∙ ap (agreeing (checks b) b.w (known b marks)) cleared

  module _ {s' states' marks' : List ℕ} {ok : Bool} (D : Decoded (sent_rows b) b.w s₀ states s' states' ok) (M : MarksAre b marks states' marks') where
    symbols-after : s' ≡ symbols_after b s marks
    unfolding symbols_after checks staircase
    symbols-after =
        D.symbols_are ∙ same-filled (sent_rows b) b.w (decoder.is_known states) s₀ (known b marks) s₀ same R.some
        ∙ sent_filled (sent_rows b) (checks b).has b.w (idle_at b) (known b marks) s₀ sent ∙ ap (filled_symbols (checks b) b.w (known b marks)) cleared

    one : (x : Status) (d : Bool) → eqb (cond (is_known x) 1 (cond d 2 0)) 2 ≡ cond (is_known x) false d
    one idle d = refl
    one heard d = refl
    one missing true = refl
    one missing false = refl

    mark_of : (x : Status) (d : Bool) → mark_after x (cond (is_known x) false d) ≡ mark_after x d
    mark_of idle d = refl
    mark_of heard d = refl
    mark_of missing d = refl

    state-at : (i : ℕ) → i < (checks b).n → get_or states' i 0 ≡ cond (is_known (status_of b marks i)) 1 (cond (determined b.w (agreeing_words b s marks) i) 2 0)
    unfolding states_after known checks staircase
    state-at i h =
        ap (λ (l : List ℕ). get_or l i 0) D.states_are
        ∙ get_d_tab (checks b).n (λ j. cond (decoder.is_known states j) 1 (cond (determined b.w (agreeing (sent_rows b) b.w (decoder.is_known states) s₀) j) 2 0)) 0 i h
        ∙ rw (same_known i h, agreeing_are)

    mark-at : (i : ℕ) → i < (checks b).n → get_or marks' i 0 ≡ mark_after (status_of b marks i) (determined b.w (agreeing_words b s marks) i)
    mark-at i h =
        let x = status_of b marks i in
        let d = determined b.w (agreeing_words b s marks) i in
        M.each i (omega (arith, R.marks-size)) ∙ ap (λ (v : ℕ). mark_after x (eqb v 2)) (state-at i h) ∙ ap (mark_after x) (one x d) ∙ mark_of x d

    marks-after : marks' ≡ marks_after b s marks
    unfolding marks_after
    marks-after =
        ext_get_or 0 marks' (marks_after b s marks) (M.size ∙ R.marks-size ∙ sym (length-tab (checks b).n _)) (λ i h.
        let l : i < (checks b).n = omega (arith, M.size, R.marks-size) in
        mark-at i l ∙ sym (get_d_tab (checks b).n (λ j. mark_after (status_of b marks j) (determined b.w (agreeing_words b s marks) j)) 0 i l))

    states-size : length states' ≡ (checks b).n
    unfolding states_after checks staircase
    states-size = ap length D.states_are ∙ length-tab (checks b).n _

    -- the decoder's states are the marks, but for the idle positions, which it knows
    states-marks : PartSet b.fill k 1 marks' states'
    states-marks = record {
      size = states-size ∙ sym (M.size ∙ R.marks-size);
      each = λ i h.
          let l : i < (checks b).n = omega (arith, M.size, R.marks-size) in
          let d = determined b.w (agreeing_words b s marks) i in
          state-at i l ∙ go (idle_at b i) (eqb (get_or marks i 0) heard_mark) d ∙ sym (ap₂ (λ (t : Bool) (v : ℕ). cond t 1 v) (idle-at I i) (mark-at i l));
    }
      where
        go : (t u d : Bool) → cond (is_known (cond t idle (cond u heard missing))) 1 (cond d 2 0) ≡ cond t 1 (mark_after (cond t idle (cond u heard missing)) d)
        go true u d = refl
        go false true d = refl
        go false false d = refl

    verdict-after : verdict_by ok (count missing_mark (sent_marks b marks')) ≡ verdict_of (agreeing_words b s marks)
    verdict-after =
        let I' = subst (IdleIn b k) (sym M.size) I in
        ap (verdict_by ok) (sym (ap (count 0) (set_is marks' b.fill k 1 I'.fill I'.within states-marks) ∙ idle-count marks' I' 0 1 refl))
        ∙ D.verdict_is ∙ ap verdict_of agreeing_are

    pub decoded : (s' ≡ symbols_after b s marks)
        × ((marks' ≡ marks_after b s marks) × (verdict_by ok (count missing_mark (sent_marks b marks')) ≡ verdict_of (agreeing_words b s marks)))
    decoded = (symbols-after, (marks-after, verdict-after))

-- ---- the call

-- by the number that a check found for the refusal
module _ (b : Block) (s k l d : List ℕ) (r : ℕ) (e : r ≡ close_refusal b s k l d) where
  pub close_refused : (r ≡ 0 → ⊥)
      → (refused r ≡ (close_of b s k l d).answer) × ((s ≡ (close_of b s k l d).symbols) × ((k ≡ (close_of b s k l d).marks) × ((l ≡ (close_of b s k l d).work_words) × (d ≡ (close_of b s k l d).work_bytes))))
  unfolding close_of
  close_refused h =
      (refused-by r _ e h _, (kept_by r _ e h _ s, (kept_by r _ e h _ k, (kept_by r _ e h _ l, kept_by r _ e h _ d))))

  pub close_told : r ≡ 0 → (ok : Bool) (s' k' l' d' : List ℕ) → s' ≡ symbols_after b s k → k' ≡ marks_after b s k
      → verdict_by ok (count missing_mark (sent_marks b k')) ≡ verdict_of (agreeing_words b s k)
      → l' ≡ replicate (length l) 0 → d' ≡ replicate (length d) 0 → (t : Report) → t ≡ report_of b (verdict_by ok (count missing_mark (sent_marks b k'))) k'
      → (answered t ≡ (close_of b s k l d).answer) × ((s' ≡ (close_of b s k l d).symbols) × ((k' ≡ (close_of b s k l d).marks) × ((l' ≡ (close_of b s k l d).work_words) × (d' ≡ (close_of b s k l d).work_bytes))))
  unfolding close_of
  close_told z ok s' k' l' d' es ek ev el ed t et = (
    ap answered (et ∙ ap (λ (v : Verdict). report_of b v k') ev ∙ ap (report_of b (verdict_of (agreeing_words b s k))) ek) ∙ answered-by r _ e z _,
    (es ∙ changed_by r _ e z _ s, (ek ∙ changed_by r _ e z _ k, (el ∙ changed_by r _ e z _ l, ed ∙ changed_by r _ e z _ d))),
  )

-- ---- the marks after a close: each is 0, 1 or 2

pub mark-small : (x : Status) (d : Bool) → mark_after x d ≤ 2
mark-small idle d = omega arith
mark-small heard d = omega arith
mark-small missing true = omega arith
mark-small missing false = omega arith

pub marks-small : (b : Block) (s k k' : List ℕ) → k' ≡ marks_after b s k → (i : ℕ) → i < length k' → get_or k' i 0 ≤ 2
unfolding marks_after
marks-small b s k k' e i h =
    let l : i < (checks b).n = omega (arith, ap length e, length-tab (checks b).n (λ j. mark_after (status_of b k j) (determined b.w (agreeing_words b s k) j))) in
    subst (λ (v : ℕ). v ≤ 2)
    (sym (ap (λ (m : List ℕ). get_or m i 0) e ∙ get_d_tab (checks b).n (λ j. mark_after (status_of b k j) (determined b.w (agreeing_words b s k) j)) 0 i l))
    (mark-small (status_of b k i) (determined b.w (agreeing_words b s k) i))
