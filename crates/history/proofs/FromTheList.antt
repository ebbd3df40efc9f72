-- The theorem about lists of calls: what the calls leave and answer, one after the other, is what the list alone says.
-- Assumes nothing.
use mathlib.Core.Path.{◌≡◌, refl, sym, ap, ap₂, ◌∙◌, subst}
use mathlib.Core.Logic.{◌↔◌}
use mathlib.Core.Bool.{Bool, true, false, ◌||◌, cond, false≢true}
use mathlib.Core.List.{List, [], ◌∷◌}
use Prim.Native.Nat.{ℕ, zero, suc, ◌+◌, ◌*◌, ◌/◌, ◌%◌, ◌≤◌, ◌<◌}
use native.Mathlib.Nat.{mul-le-mul_right}
use native.Mathlib.Decide.{dec_lt}
use native.Mathlib.Omega.{arith}
use lib.Arith.{digits_div, digits_mod, digits_lt}
use lib.Dec.{eqb}
use lib.ListN.{length, get_or, set, length-set, replicate, length-replicate, get_or-replicate, get_or-eq_default}
use lib.Seq.{ext_get_or, get_or-set_same, get_or-set_other}
use borrow.Author.Tests.{le-ltb}
use Rattle.algebra.specs.Codeword.{byte_at, symbol_at}
use Rattle.algebra.specs.Agreeing.{verdict_of, determined, first, filled_byte, filled_symbols}
use Rattle.algebra.proofs.Lists.{eqb_iff, length-tab, get_d_tab}
use Rattle.algebra.proofs.Codeword.{ext_byte_at}
use Rattle.algebra.proofs.Agreeing.{byte-at, length_symbols}
use Rattle.algebra.proofs.SameKnown.{SameKnown, same-agreeing, same-filled}
use Rattle.ccsds.specs.Refusals.{Outcome, refused, answered, outcome, afterwards}
use Rattle.ccsds.proofs.Refusals.{width_right, fill_right}
use Rattle.ccsds.specs.Tables.{code_of}
use Rattle.block.specs.Block.{checks, idle_at, block_refusal}
use Rattle.block.specs.Status.{wrong_mark, Status, idle, heard, missing, status_by, status_of}
use Rattle.closing.specs.Close.{is_known, known, mark_after}
use Rattle.block.specs.Open.{open_of}
use Rattle.block.specs.Take.{AdmittedUnit, TakeResult, Take, kept, repeated, admission, same_bytes, stored, unchanged, take_symbol, take_of}
use Rattle.closing.specs.Close.{Report, report_of, wrong_work, idle_cleared, agreeing_words, symbols_after, marks_after, close_refusal, close_of}
use Rattle.history.specs.Calls.{Call, take_unit, close_with, History, State, taken, closed, opened, next, answer, run, is_at, symbol_of, heard_at, kept_at, kept_symbols, status_at, known_at, agreeing_with, latest, mark_of, byte_by, byte_of, state_of, take_answer, answer_of, FollowsList, FromTheList}
use Rattle.block.specs.declared.Block.{Block}
use Rattle.block.proofs.Symbols.{symbol_is, length-stored, stored_same, stored_other}
use Rattle.ccsds.proofs.FillLaws.{idle_range}
use Rattle.closing.proofs.Idle.{cleared_byte}
use Rattle.block.proofs.BlockRefusal.{checks-n, Right, block_right, not-refused}
use Rattle.closing.proofs.Marks.{marks_right}
use Rattle.closing.proofs.CloseRefusal.{work_decides}
use Rattle.block.proofs.Taking.{Inside, admitted_inside, at_right, take_by_lem}
use Rattle.closing.proofs.Closing.{mark-small}

same-state : {s t s' t' : List ℕ} → s ≡ s' → t ≡ t' → ◌≡◌ {A = State} (record { symbols = s; marks = t }) (record { symbols = s'; marks = t' })
same-state = ap₂ {C = State} (λ (s t : List ℕ). record { symbols = s; marks = t })

-- a close that the list says is not refused gives a verdict, and its report
pub verdict-given : (b : Block) (h : History) (words bytes : List ℕ) (q : Report) → answer_of b h (close_with words bytes) ≡ closed (answered q)
    → (wrong_work b (length words) (length bytes) ≡ false) × (report_of b (verdict_of (agreeing_with b h)) (state_of b (close_with words bytes ∷ h)).marks ≡ q)
unfolding answer_of
verdict-given b h words bytes q = go (wrong_work b (length words) (length bytes))
  where
    report : Report
    report = report_of b (verdict_of (agreeing_with b h)) (state_of b (close_with words bytes ∷ h)).marks

    go : (a : Bool) → closed (cond a (refused 4) (answered report)) ≡ closed (answered q) → (a ≡ false) × (report ≡ q)
    go true e = let z : ◌≡◌ {A = ℕ} 0 1 = cc in absurd (omega arith)
    go false e = (refl, cc)

-- what a call with the record b sees of state s is what the list says: the sizes, what the positions are, and the bytes of the heard ones; and no
-- mark is one that 11 refuses
pub record Shows (b : Block) (h : History) (s : State) : Type 0 where
  pub bytes_all : length s.symbols ≡ (checks b).n * b.w
  pub marks_all : length s.marks ≡ (checks b).n
  pub marks-small : (i : ℕ) → get_or s.marks i 0 ≤ 2
  pub statuses : (i : ℕ) → i < (checks b).n → status_of b s.marks i ≡ status_at b h i
  pub heard-bytes : (i j : ℕ) → i < (checks b).n → j < b.w → heard_at b h i ≡ true → byte_at b.w s.symbols j i ≡ get_or (kept_at b h i) j 0

module _ (b : Block) (r : Right b) where
  pub pos : 0 < b.w
  pos = (width_right b.w r.width).0

  -- ---- idle positions

  pub fill-most : b.fill ≤ (code_of b.code).k
  fill-most = (fill_right (code_of b.code).k b.fill r.fill).1

  pub idle_inside : (i : ℕ) → idle_at b i ≡ true → i < (checks b).n
  unfolding idle_at
  idle_inside i e = omega (arith, (idle_range (code_of b.code).k b.fill i e).1, checks-n b)

  -- no unit is admitted there
  pub heard_sent : (h : History) (i : ℕ) → heard_at b h i ≡ true → idle_at b i ≡ false
  unfolding heard_at is_at
  heard_sent [] i e = absurd (false≢true e)
  heard_sent (take_unit unit ∷ h) i e = go (admission b unit) refl (heard_sent h i) e
    where
      go : (a : Outcome AdmittedUnit) → admission b unit ≡ a → (heard_at b h i ≡ true → idle_at b i ≡ false) → is_at a i || heard_at b h i ≡ true
          → idle_at b i ≡ false
      go (refused number) q ih f = ih f
      go (answered x) q ih f = at (eqb x.position i) refl f
        where
          at : (t : Bool) → eqb x.position i ≡ t → t || heard_at b h i ≡ true → idle_at b i ≡ false
          at true g f = subst (λ (p : ℕ). idle_at b p ≡ false) ((eqb_iff x.position i).0 g) (admitted_inside b unit x q).sent
          at false g f = ih f
  heard_sent (close_with words bytes ∷ h) i e = heard_sent h i e

  pub idle_unheard : (h : History) (i : ℕ) → idle_at b i ≡ true → heard_at b h i ≡ false
  idle_unheard h i e = go (heard_at b h i) refl
    where
      go : (t : Bool) → heard_at b h i ≡ t → t ≡ false
      go true f = sym e ∙ heard_sent h i f
      go false f = refl

  -- nothing is kept where nothing was heard
  pub kept-none : (h : History) (i : ℕ) → heard_at b h i ≡ false → kept_at b h i ≡ []
  unfolding heard_at kept_at
  kept-none [] i e = refl
  kept-none (take_unit unit ∷ h) i e = go (is_at (admission b unit) i) (heard_at b h i) e
    where
      go : (a d : Bool) → a || d ≡ false → cond d (kept_at b h i) (cond a (symbol_of (admission b unit)) []) ≡ []
      go true d f = absurd (false≢true (sym f))
      go false true f = absurd (false≢true (sym f))
      go false false f = refl
  kept-none (close_with words bytes ∷ h) i e = kept-none h i e

  pub kept-zero : (h : History) (i j : ℕ) → idle_at b i ≡ true → get_or (kept_at b h i) j 0 ≡ 0
  kept-zero h i j e = ap (λ (x : List ℕ). get_or x j 0) (kept-none h i (idle_unheard h i e))

  -- marks and bytes go by what was heard, what is kept, and the latest verdict
  same_at : (h g : History) (i : ℕ) → heard_at b h i ≡ heard_at b g i → kept_at b h i ≡ kept_at b g i → latest b h ≡ latest b g
      → (mark_of b h i ≡ mark_of b g i) × ((j : ℕ) → byte_of b h j i ≡ byte_of b g j i)
  unfolding mark_of byte_of
  same_at h g i e f l = (rw (e, l), λ j. rw e (go j (status_at b g i)))
    where
      go : (j : ℕ) (s : Status) → byte_by b h j i s ≡ byte_by b g j i s
      go j idle = refl
      go j heard = ap (λ (x : List ℕ). get_or x j 0) f
      go j missing = ap (λ (L : List (List ℕ)). cond (determined b.w L i) (byte_at b.w (first L) j i) 0) l

  -- ---- the state that the list says

  module _ (h : History) where
    pub marks-size : length (state_of b h).marks ≡ (checks b).n
    unfolding state_of
    marks-size = length-tab (checks b).n (mark_of b h)

    pub symbols-size : length (state_of b h).symbols ≡ (checks b).n * b.w
    unfolding state_of
    symbols-size = length-tab ((checks b).n * b.w) (λ t. byte_of b h (t % b.w) (t / b.w))

    pub mark_is : (i : ℕ) → i < (checks b).n → get_or (state_of b h).marks i 0 ≡ mark_of b h i
    unfolding state_of
    mark_is i k = get_d_tab (checks b).n (mark_of b h) 0 i k

    pub byte_is : (i j : ℕ) → i < (checks b).n → j < b.w → byte_at b.w (state_of b h).symbols j i ≡ byte_of b h j i
    unfolding state_of
    byte_is i j k l =
        get_d_tab ((checks b).n * b.w) (λ t. byte_of b h (t % b.w) (t / b.w)) 0 (i * b.w + j) (digits_lt k l)
        ∙ ap₂ (byte_of b h) (digits_mod i l) (digits_div i l)

    -- a state is the list's where its marks and bytes are
    state_is : (s : State) → length s.symbols ≡ (checks b).n * b.w → length s.marks ≡ (checks b).n
        → ((i : ℕ) → i < (checks b).n → get_or s.marks i 0 ≡ mark_of b h i)
        → ((i j : ℕ) → i < (checks b).n → j < b.w → byte_at b.w s.symbols j i ≡ byte_of b h j i)
        → s ≡ state_of b h
    state_is s e f m y =
        same-state
        (ext_byte_at (checks b).n b.w s.symbols (state_of b h).symbols pos e symbols-size (λ i j k l. y i j k l ∙ sym (byte_is i j k l)))
        (ext_get_or 0 s.marks (state_of b h).marks (f ∙ sym marks-size) (λ i k.
        let q : i < (checks b).n = subst (λ (n : ℕ). i < n) f k in
        m i q ∙ sym (mark_is i q)))

    pub small : (i : ℕ) → get_or (state_of b h).marks i 0 ≤ 2
    unfolding mark_of
    small i = go (dec_lt i (checks b).n)
      where
        go : Dec (i < (checks b).n) → get_or (state_of b h).marks i 0 ≤ 2
        go (yes k) = omega (arith, mark_is i k, mark-small (status_at b h i) (determined b.w (latest b h) i))
        go (no k) = omega (arith, get_or-eq_default (state_of b h).marks 0 {n = i} (omega (arith, marks-size)))

    -- what its positions are is what the list says
    pub status_is : (i : ℕ) → i < (checks b).n → status_of b (state_of b h).marks i ≡ status_at b h i
    unfolding mark_of
    status_is i k =
        ap (λ (m : ℕ). cond (idle_at b i) idle (status_by m)) (mark_is i k) ∙ go (idle_at b i) (heard_at b h i) (determined b.w (latest b h) i)
      where
        go : (t a d : Bool) → cond t idle (status_by (mark_after (cond t idle (cond a heard missing)) d)) ≡ cond t idle (cond a heard missing)
        go true a d = refl
        go false true d = refl
        go false false true = refl
        go false false false = refl

    pub kept_byte : (i j : ℕ) → i < (checks b).n → j < b.w → byte_at b.w (kept_symbols b h) j i ≡ get_or (kept_at b h i) j 0
    unfolding kept_symbols
    kept_byte i j k l =
        get_d_tab ((checks b).n * b.w) (λ u. get_or (kept_at b h (u / b.w)) (u % b.w) 0) 0 (i * b.w + j) (digits_lt k l)
        ∙ ap₂ (λ (u v : ℕ). get_or (kept_at b h u) v 0) (digits_div i l) (digits_mod i l)

  -- a kept symbol has W bytes
  pub kept-size : (h : History) (i : ℕ) → heard_at b h i ≡ true → length (kept_at b h i) ≡ b.w
  unfolding heard_at kept_at is_at symbol_of
  kept-size [] i e = absurd (false≢true e)
  kept-size (take_unit unit ∷ h) i e = go (admission b unit) refl (heard_at b h i) (kept-size h i) e
    where
      go : (a : Outcome AdmittedUnit) → admission b unit ≡ a → (d : Bool) → (d ≡ true → length (kept_at b h i) ≡ b.w)
          → is_at a i || d ≡ true → length (cond d (kept_at b h i) (cond (is_at a i) (symbol_of a) [])) ≡ b.w
      go a q true ih f = ih refl
      go (refused number) q false ih f = absurd (false≢true f)
      go (answered x) q false ih f = at (eqb x.position i) f
        where
          at : (t : Bool) → t || false ≡ true → length (cond t x.symbol []) ≡ b.w
          at true g = (admitted_inside b unit x q).size
          at false g = absurd (false≢true g)
  kept-size (close_with words bytes ∷ h) i e = kept-size h i e

  -- a heard position has mark 1 and the bytes of the kept symbol
  heard_of : (h : History) (i : ℕ) → heard_at b h i ≡ true → (mark_of b h i ≡ 1) × ((j : ℕ) → byte_of b h j i ≡ get_or (kept_at b h i) j 0)
  unfolding mark_of byte_of
  heard_of h i e = (rw (heard_sent h i e, e), λ j. rw (heard_sent h i e, e))

  pub heard-byte : (h : History) (i j : ℕ) → i < (checks b).n → j < b.w → heard_at b h i ≡ true → byte_at b.w (state_of b h).symbols j i ≡ get_or (kept_at b h i) j 0
  heard-byte h i j k l e = byte_is h i j k l ∙ (heard_of h i e).1 j

  -- a call sees in it what the list says
  pub shows : (h : History) → Shows b h (state_of b h)
  shows h = record {
    bytes_all = symbols-size h;
    marks_all = marks-size h;
    marks-small = small h;
    statuses = status_is h;
    heard-bytes = heard-byte h;
  }

  -- an idle position has mark 0 and zero bytes
  pub idle-mark : (h : History) (i : ℕ) → idle_at b i ≡ true → get_or (state_of b h).marks i 0 ≡ 0
  unfolding mark_of
  idle-mark h i e = mark_is h i (idle_inside i e) ∙ rw e

  pub idle-symbol : (h : History) (i : ℕ) → idle_at b i ≡ true → symbol_at b.w (state_of b h).symbols i ≡ replicate b.w 0
  unfolding byte_of
  idle-symbol h i e =
      symbol_is (checks b).n b.w (state_of b h).symbols (symbols-size h) i (idle_inside i e) (replicate b.w 0) (length-replicate b.w 0) (λ j l.
      byte_is h i j (idle_inside i e) l ∙ rw e (sym (get_or-replicate b.w j 0 0 l)))

  -- ---- one take

  -- by the list
  module _ (h : History) (unit : List ℕ) where
    -- it is not for position i, or that was heard: what was heard and is kept there stays
    stays : (i : ℕ) → (is_at (admission b unit) i ≡ true → heard_at b h i ≡ true)
        → (heard_at b (take_unit unit ∷ h) i ≡ heard_at b h i) × (kept_at b (take_unit unit ∷ h) i ≡ kept_at b h i)
    unfolding heard_at kept_at
    stays i g = (heard-same (is_at (admission b unit) i) (heard_at b h i) g, kept_same (is_at (admission b unit) i) (heard_at b h i) refl g)
      where
        heard-same : (a d : Bool) → (a ≡ true → d ≡ true) → a || d ≡ d
        heard-same true d g = sym (g refl)
        heard-same false d g = refl

        kept_same : (a d : Bool) → heard_at b h i ≡ d → (a ≡ true → d ≡ true)
            → cond d (kept_at b h i) (cond a (symbol_of (admission b unit)) []) ≡ kept_at b h i
        kept_same a true f g = refl
        kept_same true false f g = absurd (false≢true (g refl))
        kept_same false false f g = sym (kept-none h i f)

    -- it is for position i, which was not heard: now it is, and its symbol is kept
    arrives : (i : ℕ) → is_at (admission b unit) i ≡ true → heard_at b h i ≡ false
        → (heard_at b (take_unit unit ∷ h) i ≡ true) × (kept_at b (take_unit unit ∷ h) i ≡ symbol_of (admission b unit))
    unfolding heard_at kept_at
    arrives i e f = (rw e, rw (f, e))

    -- one or the other
    either : {P : Type 0} (i : ℕ) → ((is_at (admission b unit) i ≡ true → heard_at b h i ≡ true) → P)
        → (is_at (admission b unit) i ≡ true → heard_at b h i ≡ false → P) → P
    either {P} i f g = go (is_at (admission b unit) i) refl (heard_at b h i) refl
      where
        go : (a : Bool) → is_at (admission b unit) i ≡ a → (d : Bool) → heard_at b h i ≡ d → P
        go a e true q = f (λ t. q)
        go true e false q = g e q
        go false e false q = f (λ t. absurd (false≢true (sym e ∙ t)))

  -- on every state in which it sees what the list says
  module _ (h : History) (s : State) (S : Shows b h s) where
    -- no mark is one that 11 refuses
    right : (i : ℕ) → wrong_mark (get_or s.marks i 0) ≡ false
    unfolding wrong_mark
    right i = le-ltb 2 (get_or s.marks i 0) (S.marks-small i)

    -- the symbol at a heard position is the kept one
    pub heard-symbol : (i : ℕ) → i < (checks b).n → heard_at b h i ≡ true → symbol_at b.w s.symbols i ≡ kept_at b h i
    heard-symbol i k e =
        symbol_is (checks b).n b.w s.symbols S.bytes_all i k (kept_at b h i) (kept-size h i e) (λ j l. S.heard-bytes i j k l e)

    module _ (unit : List ℕ) where
      -- what take leaves at each position, and answers
      record Does (t : Take) : Type 0 where
        bytes_all : length t.symbols ≡ (checks b).n * b.w
        marks_all : length t.marks ≡ (checks b).n
        old : (i : ℕ) → (is_at (admission b unit) i ≡ true → heard_at b h i ≡ true)
            → (get_or t.marks i 0 ≡ get_or s.marks i 0) × ((j : ℕ) → j < b.w → byte_at b.w t.symbols j i ≡ byte_at b.w s.symbols j i)
        new : (i : ℕ) → is_at (admission b unit) i ≡ true → heard_at b h i ≡ false
            → (get_or t.marks i 0 ≡ 1) × ((j : ℕ) → j < b.w → byte_at b.w t.symbols j i ≡ get_or (symbol_of (admission b unit)) j 0)
        answer : t.answer ≡ take_answer b h (admission b unit)

      -- it changes nothing
      quiet : ((i : ℕ) → is_at (admission b unit) i ≡ true → heard_at b h i ≡ true) → (a : Outcome TakeResult) → a ≡ take_answer b h (admission b unit)
          → Does (unchanged b s.symbols s.marks a)
      quiet f a e = record {
        bytes_all = S.bytes_all;
        marks_all = S.marks_all;
        old = λ i g. (refl, λ j l. refl);
        new = λ i t q. absurd (false≢true (sym q ∙ f i t));
        answer = e;
      }

      does_refused : (number : ℕ) → admission b unit ≡ refused number → Does (unchanged b s.symbols s.marks (refused number))
      unfolding is_at
      does_refused number e =
          quiet (λ i t. absurd (false≢true (sym (ap (λ (a : Outcome AdmittedUnit). is_at a i) e) ∙ t))) (refused number) (sym (ap (take_answer b h) e))

      module _ (x : AdmittedUnit) (e : admission b unit ≡ answered x) where
        I : Inside b x
        I = admitted_inside b unit x e

        -- it is at its own position only
        at_own : (i : ℕ) → (is_at (admission b unit) i ≡ true) ↔ (x.position ≡ i)
        unfolding is_at
        at_own i =
            let q : is_at (admission b unit) i ≡ eqb x.position i = ap (λ (a : Outcome AdmittedUnit). is_at a i) e in
            (λ t. (eqb_iff x.position i).0 (sym q ∙ t), λ t. q ∙ (eqb_iff x.position i).1 t)

        answer-by : (a : Bool) → heard_at b h x.position ≡ a
            → take_answer b h (admission b unit) ≡ cond a (cond (same_bytes (kept_at b h x.position) x.symbol) (answered repeated) (refused 12)) (answered kept)
        answer-by a t =
            ap (take_answer b h) e
            ∙ ap (λ (d : Bool). cond d (cond (same_bytes (kept_at b h x.position) x.symbol) (answered repeated) (refused 12)) (answered kept)) t

        -- its position was heard
        does_heard : heard_at b h x.position ≡ true
            → Does (unchanged b s.symbols s.marks (cond (same_bytes (symbol_at b.w s.symbols x.position) x.symbol) (answered repeated) (refused 12)))
        does_heard t =
            quiet (λ i a. subst (λ (p : ℕ). heard_at b h p ≡ true) ((at_own i).0 a) t) _
            (ap (λ (y : List ℕ). cond (same_bytes y x.symbol) (answered repeated) (refused 12)) (heard-symbol x.position I.position t)
            ∙ sym (answer-by true t))

        -- it was not
        does_new : heard_at b h x.position ≡ false
            → Does (record { answer = answered kept; symbols = stored s.symbols (x.position * b.w) x.symbol; marks = set s.marks x.position 1 })
        unfolding symbol_of
        does_new t = record {
          bytes_all = length-stored (checks b).n b.w s.symbols S.bytes_all p I.position x.symbol I.size;
          marks_all = length-set s.marks p 1 ∙ S.marks_all;
          old = λ i g.
              let d : i ≡ p → ⊥ = λ q. false≢true (sym t ∙ ap (heard_at b h) (sym q) ∙ g ((at_own i).1 (sym q))) in (
                get_or-set_other s.marks p i 1 0 d,
                λ j l. stored_other (checks b).n b.w s.symbols S.bytes_all p I.position x.symbol I.size i j l d,
              );
          new = λ i a f. subst At ((at_own i).0 a) (
            get_or-set_same s.marks p 1 0 (subst (λ (n : ℕ). p < n) (sym S.marks_all) I.position),
            λ j l.
                stored_same (checks b).n b.w s.symbols S.bytes_all p I.position x.symbol I.size j l
                ∙ sym (ap (λ (a : Outcome AdmittedUnit). get_or (symbol_of a) j 0) e),
          );
          answer = sym (answer-by false t);
        }
          where
            p : ℕ
            p = x.position

            At : ℕ → Type 0
            At i =
                (get_or (set s.marks p 1) i 0 ≡ 1)
                × ((j : ℕ) → j < b.w → byte_at b.w (stored s.symbols (p * b.w) x.symbol) j i ≡ get_or (symbol_of (admission b unit)) j 0)

        does_admitted : Does (take_symbol b s.symbols s.marks x)
        does_admitted = go (heard_at b h x.position) refl
          where
            by : (a : Bool) → heard_at b h x.position ≡ a → status_of b s.marks x.position ≡ cond a heard missing
            by a t = S.statuses x.position I.position ∙ ap₂ (λ (u v : Bool). cond u idle (cond v heard missing)) I.sent t

            go : (a : Bool) → heard_at b h x.position ≡ a → Does (take_symbol b s.symbols s.marks x)
            go true t = subst Does (sym (at_right b s.symbols s.marks x (right x.position) heard (by true t))) (does_heard t)
            go false t = subst Does (sym (at_right b s.symbols s.marks x (right x.position) missing (by false t))) (does_new t)

      does : Does (take_of b s.symbols s.marks unit)
      does = go (admission b unit) refl
        where
          z : block_refusal b (length s.symbols) (length s.marks) ≡ 0
          z = not-refused b (length s.symbols) (length s.marks) r S.bytes_all S.marks_all

          go : (a : Outcome AdmittedUnit) → admission b unit ≡ a → Does (take_of b s.symbols s.marks unit)
          go (refused number) e = subst Does (sym (take_by_lem b s.symbols s.marks unit (refused number) z e)) (does_refused number e)
          go (answered x) e = subst Does (sym (take_by_lem b s.symbols s.marks unit (answered x) z e)) (does_admitted x e)

      -- a call after it sees what the list says
      take-shows : Shows b (take_unit unit ∷ h) (next b s (take_unit unit))
      unfolding next
      take-shows = record {
        bytes_all = does.bytes_all;
        marks_all = does.marks_all;
        marks-small = λ i.
            either h unit i (λ g. omega (arith, (does.old i g).0, S.marks-small i)) (λ a f. omega (arith, (does.new i a f).0));
        statuses = λ i k.
            either h unit i
            (λ g. ap (by-mark i) (does.old i g).0 ∙ S.statuses i k ∙ sym (ap (by-heard i) (stays h unit i g).0))
            (λ a f. ap (by-mark i) (does.new i a f).0 ∙ sym (ap (by-heard i) (arrives h unit i a f).0));
        heard-bytes = λ i j k l e.
            either h unit i
            (λ g.
            let q = stays h unit i g in
            (does.old i g).1 j l ∙ S.heard-bytes i j k l (sym q.0 ∙ e) ∙ sym (ap (λ (y : List ℕ). get_or y j 0) q.1))
            (λ a f. (does.new i a f).1 j l ∙ sym (ap (λ (y : List ℕ). get_or y j 0) (arrives h unit i a f).1));
      }
        where
          by-mark : ℕ → ℕ → Status
          by-mark i m = cond (idle_at b i) idle (status_by m)

          by-heard : ℕ → Bool → Status
          by-heard i a = cond (idle_at b i) idle (cond a heard missing)

  -- on the list's state it leaves the list's state
  take_next : (h : History) (unit : List ℕ) → next b (state_of b h) (take_unit unit) ≡ state_of b (take_unit unit ∷ h)
  unfolding next latest
  take_next h unit =
      let D = does h (state_of b h) (shows h) unit in
      state_is (take_unit unit ∷ h) (next b (state_of b h) (take_unit unit)) D.bytes_all D.marks_all
      (λ i k.
      either h unit i
      (λ g. (D.old i g).0 ∙ mark_is h i k ∙ sym (same i g).0)
      (λ a f. (D.new i a f).0 ∙ sym (heard_of (take_unit unit ∷ h) i (arrives h unit i a f).0).0))
      (λ i j k l.
      either h unit i
      (λ g. (D.old i g).1 j l ∙ byte_is h i j k l ∙ sym ((same i g).1 j))
      (λ a f.
      let q = arrives h unit i a f in
      (D.new i a f).1 j l ∙ sym ((heard_of (take_unit unit ∷ h) i q.0).1 j ∙ ap (λ (y : List ℕ). get_or y j 0) q.1)))
    where
      same : (i : ℕ) → (is_at (admission b unit) i ≡ true → heard_at b h i ≡ true)
          → (mark_of b (take_unit unit ∷ h) i ≡ mark_of b h i) × ((j : ℕ) → byte_of b (take_unit unit ∷ h) j i ≡ byte_of b h j i)
      same i g = same_at (take_unit unit ∷ h) h i (stays h unit i g).0 (stays h unit i g).1 refl

  -- ---- one close

  -- it is refused: nothing changes
  refused-state : (h : History) (words bytes : List ℕ) → wrong_work b (length words) (length bytes) ≡ true → state_of b h ≡ state_of b (close_with words bytes ∷ h)
  unfolding heard_at kept_at latest
  refused-state h words bytes t =
      state_is (close_with words bytes ∷ h) (state_of b h) (symbols-size h) (marks-size h)
      (λ i k. mark_is h i k ∙ sym (stays i).0) (λ i j k l. byte_is h i j k l ∙ sym ((stays i).1 j))
    where
      stays : (i : ℕ) → (mark_of b (close_with words bytes ∷ h) i ≡ mark_of b h i) × ((j : ℕ) → byte_of b (close_with words bytes ∷ h) j i ≡ byte_of b h j i)
      stays i = same_at (close_with words bytes ∷ h) h i refl refl (rw t)

  -- on every state in which it sees what the list says
  module _ (h : History) (s : State) (S : Shows b h s) where
    known_is : (i : ℕ) → i < (checks b).n → known b s.marks i ≡ known_at b h i
    unfolding known known_at
    known_is i k = ap is_known (S.statuses i k)

    -- the byte of a known position is that of the kept symbol
    known-byte : (i j : ℕ) → i < (checks b).n → j < b.w → known_at b h i ≡ true → cond (idle_at b i) 0 (byte_at b.w s.symbols j i) ≡ get_or (kept_at b h i) j 0
    unfolding known_at
    known-byte i j k l = go (idle_at b i) refl (heard_at b h i) refl
      where
        go : (u : Bool) → idle_at b i ≡ u → (a : Bool) → heard_at b h i ≡ a → is_known (cond u idle (cond a heard missing)) ≡ true
            → cond u 0 (byte_at b.w s.symbols j i) ≡ get_or (kept_at b h i) j 0
        go true q a e t = sym (kept-zero h i j q)
        go false q true e t = S.heard-bytes i j k l e
        go false q false e t = absurd (false≢true t)

    same_known : SameKnown (checks b) b.w (known b s.marks) (idle_cleared b s.symbols) (known_at b h) (kept_symbols b h)
    same_known =
        let m : (code_of b.code).k ≤ (checks b).n = omega (arith, checks-n b) in
        let room : (code_of b.code).k * b.w ≤ length s.symbols = omega (arith, S.bytes_all, mul-le-mul_right b.w m) in
        record {
          same_known = known_is;
          same_byte = λ i k t j l.
              cleared_byte b s.symbols fill-most room i j l ∙ known-byte i j k l (sym (known_is i k) ∙ t) ∙ sym (kept_byte h i j k l);
        }

    agreeing_are : agreeing_words b s.symbols s.marks ≡ agreeing_with b h
    unfolding agreeing_with agreeing_words
    agreeing_are = same-agreeing (checks b) b.w (known b s.marks) (idle_cleared b s.symbols) (known_at b h) (kept_symbols b h) same_known

    -- the block's symbols after a verdict are those by the kept ones
    symbols_are : symbols_after b s.symbols s.marks ≡ filled_symbols (checks b) b.w (known_at b h) (kept_symbols b h)
    unfolding symbols_after
    symbols_are = same-filled (checks b) b.w (known b s.marks) (idle_cleared b s.symbols) (known_at b h) (kept_symbols b h) same_known pos

    module _ (words bytes : List ℕ) where
      refusal_is : close_refusal b s.symbols s.marks words bytes ≡ cond (wrong_work b (length words) (length bytes)) 4 0
      refusal_is =
          work_decides b s.symbols s.marks words bytes
          (not-refused b (length s.symbols) (length s.marks) r S.bytes_all S.marks_all) (marks_right s.marks S.marks-small)

      -- it gives a verdict
      closed-state : wrong_work b (length words) (length bytes) ≡ false
          → ◌≡◌ {A = State}
          (record { symbols = symbols_after b s.symbols s.marks; marks = marks_after b s.symbols s.marks })
          (state_of b (close_with words bytes ∷ h))
      unfolding mark_of byte_of marks_after filled_byte agreeing_with known_at heard_at kept_at latest
      closed-state t =
          state_is (close_with words bytes ∷ h) (record { symbols = symbols_after b s.symbols s.marks; marks = marks_after b s.symbols s.marks })
          (ap length symbols_are ∙ length_symbols (checks b) b.w (known_at b h) (kept_symbols b h)) (length-tab (checks b).n _)
          (λ i k.
          get_d_tab (checks b).n (λ j. mark_after (status_of b s.marks j) (determined b.w (agreeing_words b s.symbols s.marks) j)) 0 i k
          ∙ ap₂ (λ (x : Status) (L : List (List ℕ)). mark_after x (determined b.w L i)) (S.statuses i k) agreeing_are ∙ sym (rw t))
          (λ i j k l.
          ap (λ (x : List ℕ). byte_at b.w x j i) symbols_are ∙ byte-at (checks b) b.w (known_at b h) (kept_symbols b h) i j k l
          ∙ ap (λ (v : ℕ). cond (known_at b h i) v (rest i j)) (kept_byte h i j k l) ∙ go i j (idle_at b i) refl (heard_at b h i))
        where
          rest : ℕ → ℕ → ℕ
          rest i j = cond (determined b.w (agreeing_with b h) i) (byte_at b.w (first (agreeing_with b h)) j i) 0

          go : (i j : ℕ) (u : Bool) → idle_at b i ≡ u → (a : Bool)
              → cond (is_known (cond u idle (cond a heard missing))) (get_or (kept_at b h i) j 0) (rest i j)
              ≡ byte_by b (close_with words bytes ∷ h) j i (cond u idle (cond a heard missing))
          go i j true q a = kept-zero h i j q
          go i j false q true = refl
          go i j false q false = sym (rw t)

      pub close_next : wrong_work b (length words) (length bytes) ≡ false → next b s (close_with words bytes) ≡ state_of b (close_with words bytes ∷ h)
      unfolding next close_of
      close_next t = rw (refusal_is, t) (closed-state t)

      pub close_answer : answer b s (close_with words bytes) ≡ answer_of b h (close_with words bytes)
      unfolding answer answer_of close_of
      close_answer = go (wrong_work b (length words) (length bytes)) refl
        where
          go : (a : Bool) → wrong_work b (length words) (length bytes) ≡ a → answer b s (close_with words bytes) ≡ answer_of b h (close_with words bytes)
          go true t = rw (refusal_is, t)
          go false t =
              rw (refusal_is, t)
              (ap closed (ap answered (ap₂ (report_of b) (ap verdict_of agreeing_are) (ap (λ (u : State). u.marks) (closed-state t)))))

      -- a call after it sees what the list says
      close_shows : Shows b (close_with words bytes ∷ h) (next b s (close_with words bytes))
      unfolding next close_of heard_at kept_at
      close_shows = go (wrong_work b (length words) (length bytes)) refl
        where
          stays_shown : Shows b (close_with words bytes ∷ h) s
          stays_shown = record {
            bytes_all = S.bytes_all;
            marks_all = S.marks_all;
            marks-small = S.marks-small;
            statuses = S.statuses;
            heard-bytes = S.heard-bytes;
          }

          go : (a : Bool) → wrong_work b (length words) (length bytes) ≡ a → Shows b (close_with words bytes ∷ h) (next b s (close_with words bytes))
          go true t = rw (refusal_is, t) stays_shown
          go false t = subst (Shows b (close_with words bytes ∷ h)) (sym (close_next t)) (shows (close_with words bytes ∷ h))

  -- ---- one call

  next_is : (h : History) (c : Call) → next b (state_of b h) c ≡ state_of b (c ∷ h)
  unfolding next close_of
  next_is h (take_unit unit) = take_next h unit
  next_is h (close_with words bytes) = go (wrong_work b (length words) (length bytes)) refl
    where
      go : (a : Bool) → wrong_work b (length words) (length bytes) ≡ a → next b (state_of b h) (close_with words bytes) ≡ state_of b (close_with words bytes ∷ h)
      go true t = rw (refusal_is h (state_of b h) (shows h) words bytes, t) (refused-state h words bytes t)
      go false t = close_next h (state_of b h) (shows h) words bytes t

  module _ (h : History) (s : State) (S : Shows b h s) where
    pub next-shows : (c : Call) → Shows b (c ∷ h) (next b s c)
    next-shows (take_unit unit) = take-shows h s S unit
    next-shows (close_with words bytes) = close_shows h s S words bytes

    pub answer_is : (c : Call) → answer b s c ≡ answer_of b h c
    unfolding answer answer_of
    answer_is (take_unit unit) = ap taken (does h s S unit).answer
    answer_is (close_with words bytes) = close_answer h s S words bytes

  -- ---- the list

  open_is : state_of b [] ≡ record { symbols = replicate ((checks b).n * b.w) 0; marks = replicate (checks b).n 0 }
  unfolding mark_of byte_of heard_at latest determined
  open_is =
      sym (state_is [] (record { symbols = replicate ((checks b).n * b.w) 0; marks = replicate (checks b).n 0 })
      (length-replicate ((checks b).n * b.w) 0) (length-replicate (checks b).n 0)
      (λ i k. get_or-replicate (checks b).n i 0 0 k ∙ mark (idle_at b i))
      (λ i j k l. get_or-replicate ((checks b).n * b.w) (i * b.w + j) 0 0 (digits_lt k l) ∙ byte i j (idle_at b i)))
    where
      mark : (t : Bool) → 0 ≡ mark_after (cond t idle missing) false
      mark true = refl
      mark false = refl

      byte : (i j : ℕ) (t : Bool) → 0 ≡ byte_by b [] j i (cond t idle missing)
      byte i j true = refl
      byte i j false = refl

  run_is : (s : State) → s ≡ state_of b [] → (h : History) → run b s h ≡ state_of b h
  unfolding run
  run_is s e [] = e
  run_is s e (c ∷ h) = ap (λ (u : State). next b u c) (run_is s e h) ∙ next_is h c

  follows : (s : State) → s ≡ state_of b [] → (h : History) → FollowsList b h (run b s h)
  follows s e h = record {
    state = run_is s e h;
    answers = λ c. ap (λ (u : State). answer b u c) (run_is s e h) ∙ answer_is h (state_of b h) (shows h) c;
    marks = λ i. subst (λ (u : State). wrong_mark (get_or u.marks i 0) ≡ false) (sym (run_is s e h)) (right h (state_of b h) (shows h) i);
    idle-marks = λ i q. ap (λ (u : State). get_or u.marks i 0) (run_is s e h) ∙ idle-mark h i q;
    idle-symbols = λ i q. ap (λ (u : State). symbol_at b.w u.symbols i) (run_is s e h) ∙ idle-symbol h i q;
  }

-- what an open that was not refused returned and left
pub opens : (o b : Block) (symbols marks : List ℕ) → (open_of o symbols marks).answer ≡ answered b
    → (o ≡ b) × (Right b) × (opened (open_of o symbols marks) ≡ record { symbols = replicate ((checks b).n * b.w) 0; marks = replicate (checks b).n 0 })
unfolding open_of
opens o b symbols marks = go (block_refusal o (length symbols) (length marks)) refl
  where
    go : (n : ℕ) → block_refusal o (length symbols) (length marks) ≡ n → outcome n o ≡ answered b
        → (o ≡ b) × (Right b)
        × (◌≡◌ {A = State} (record { symbols = afterwards n (replicate (length symbols) 0) symbols; marks = afterwards n (replicate (length marks) 0) marks })
        (record { symbols = replicate ((checks b).n * b.w) 0; marks = replicate (checks b).n 0 }))
    go zero z q =
        let R = block_right o (length symbols) (length marks) z in
        let e : o ≡ b = cc in (
          e,
          subst Right e R.0,
          same-state
              (ap (λ (n : ℕ). replicate n 0) (R.1 ∙ ap (λ (u : Block). (checks u).n * u.w) e))
              (ap (λ (n : ℕ). replicate n 0) (R.2 ∙ ap (λ (u : Block). (checks u).n) e)),
        )
    go (suc n) z q = let z : ◌≡◌ {A = ℕ} 0 1 = cc in absurd (omega arith)

pub from_the_list : FromTheList
from_the_list o b symbols marks q h =
    let O = opens o b symbols marks q in
    follows b O.1 (opened (open_of o symbols marks)) (O.2 ∙ sym (open_is b O.1)) h
