-- Demand 3 in its own words, and demand 2's last sentence, from the theorem about lists of calls.
-- Assumes nothing.
use mathlib.Core.Path.{◌≡◌, refl, sym, ap, ap₂, ◌∙◌, subst}
use mathlib.Core.Logic.{◌↔◌, ◌≢◌}
use mathlib.Core.Bool.{Bool, true, false, ◌||◌, cond, false≢true}
use mathlib.Core.List.{List, [], ◌∷◌, Memᴰ}
use Prim.Native.Nat.{ℕ, zero, suc, ◌*◌, ◌<◌}
use native.Mathlib.Nat.{zero-lt-suc}
use native.Mathlib.Omega.{arith}
use lib.Dec.{eqb}
use lib.ListN.{length, get_or, replicate, length-replicate, get_or-replicate}
use Rattle.algebra.specs.Codeword.{byte_at, symbol_at}
use Rattle.algebra.specs.Lists.{tab, count}
use Rattle.algebra.specs.Agreeing.{whole, ambiguous, inconsistent, verdict_of, determined, first}
use Rattle.algebra.specs.Unique.{JustOne, Two, Common}
use Rattle.algebra.proofs.Lists.{eqb_iff, get_d_tab, length-tab}
use Rattle.algebra.proofs.Codeword.{ext_byte_at}
use Rattle.algebra.proofs.Agreeing.{whole_iff, ambiguous_iff, inconsistent_iff, mem-agreeing, once_agreeing, determined-true, determined-same}
use Rattle.algebra.proofs.Words.{Once}
use Rattle.ccsds.specs.Tables.{code_of}
use Rattle.ccsds.specs.Refusals.{Outcome, refused, answered}
use Rattle.block.specs.Block.{checks, idle_at}
use Rattle.block.specs.Status.{idle, heard, missing}
use Rattle.closing.specs.Close.{is_known, mark_after}
use Rattle.block.specs.Open.{open_of}
use Rattle.block.specs.Take.{AdmittedUnit, kept, repeated, admission, same_bytes}
use Rattle.closing.specs.Close.{Report, sent_marks, report_of, wrong_work}
use Rattle.closing.specs.inner.Idle.{IdleIn}
use Rattle.history.specs.Calls.{take_unit, close_with, History, State, taken, closed, opened, is_at, symbol_of, heard_at, kept_at, kept_symbols, known_at, agreeing_with, latest, mark_of, byte_of, state_of, take_answer, answer_of}
use Rattle.history.specs.Demand3.{Agrees, Missing, Closes, Demand3, Demand2}
use Rattle.block.specs.declared.Block.{Block}
use Rattle.block.proofs.Symbols.{length-symbol, symbol-byte, symbol_is}
use Rattle.block.proofs.BlockRefusal.{checks-n, Right}
use Rattle.closing.proofs.Idle.{set_is, idle-at}
use Rattle.closing.proofs.Marks.{idle-count, sent_all}
use Rattle.block.proofs.Taking.{admitted_inside}
use Rattle.history.proofs.FromTheList.{verdict-given, pos, fill-most, idle_inside, heard_sent, kept-zero, marks-size, symbols-size, mark_is, byte_is, small, kept_byte, kept-size, shows, heard-symbol, idle-mark, idle-symbol, opens, from_the_list}

-- ---- counts of marks

count_same : (v : ℕ) (l k : List ℕ) → length l ≡ length k → ((i : ℕ) → i < length l → eqb (get_or l i 0) v ≡ eqb (get_or k i 0) v) → count v l ≡ count v k
unfolding count
count_same v [] [] e f = refl
count_same v [] (a ∷ k) e f = absurd (omega arith)
count_same v (a ∷ l) [] e f = absurd (omega arith)
count_same v (a ∷ l) (d ∷ k) e f =
    ap₂ (λ (t : Bool) (n : ℕ). cond t (suc n) n) (f zero (zero-lt-suc (length l))) (count_same v l k (omega arith) (λ i h. f (suc i) (omega arith)))

-- symbols are equal where their bytes are
module _ (n w : ℕ) (x y : List ℕ) (ex : length x ≡ n * w) (ey : length y ≡ n * w) (i : ℕ) (k : i < n) where
  symbols-same : ((j : ℕ) → j < w → byte_at w x j i ≡ byte_at w y j i) → symbol_at w x i ≡ symbol_at w y i
  symbols-same f = symbol_is n w x ex i k (symbol_at w y i) (length-symbol n w y ey i k) (λ j l. f j l ∙ sym (symbol-byte n w y ey i k j l))

  bytes_same : symbol_at w x i ≡ symbol_at w y i → (j : ℕ) → j < w → byte_at w x j i ≡ byte_at w y j i
  bytes_same e j l = sym (symbol-byte n w x ex i k j l) ∙ ap (λ (s : List ℕ). get_or s j 0) e ∙ symbol-byte n w y ey i k j l

-- a take that is admitted at a position not yet heard
module _ (b : Block) (h : History) (unit : List ℕ) (x : AdmittedUnit) (e : admission b unit ≡ answered x) where
  take-heard : heard_at b (take_unit unit ∷ h) x.position ≡ true
  unfolding heard_at is_at
  take-heard = ap (λ (a : Outcome AdmittedUnit). is_at a x.position || heard_at b h x.position) e
      ∙ ap (λ (t : Bool). t || heard_at b h x.position) ((eqb_iff x.position x.position).1 refl)

  take-kept : heard_at b h x.position ≡ false → kept_at b (take_unit unit ∷ h) x.position ≡ x.symbol
  unfolding kept_at is_at symbol_of
  take-kept f = rw (f, e, (eqb_iff x.position x.position).1 refl)

module _ (b : Block) (r : Right b) (h : History) where
  -- ---- the codewords that agree, as members of the list

  -- a heard position and an idle one are known, and no other is
  heard-known : (i : ℕ) → heard_at b h i ≡ true → known_at b h i ≡ true
  unfolding known_at
  heard-known i t = rw (heard_sent b r h i t, t)

  idle-known : (i : ℕ) → idle_at b i ≡ true → known_at b h i ≡ true
  unfolding known_at
  idle-known i t = rw t

  known-heard : (i : ℕ) → known_at b h i ≡ true → idle_at b i ≡ false → heard_at b h i ≡ true
  unfolding known_at
  known-heard i t f = go (heard_at b h i) (rw f at t)
    where
      go : (a : Bool) → is_known (cond a heard missing) ≡ true → a ≡ true
      go true e = refl
      go false e = absurd (false≢true e)

  member : (x : List ℕ) → Memᴰ x (agreeing_with b h) ↔ Agrees b h x
  unfolding agreeing_with
  member x = (
    λ m.
        let a = (mem-agreeing (checks b) b.w (known_at b h) (kept_symbols b h) x).0 m in
        record {
          size = a.size;
          bytes = a.bytes;
          rows = a.rows;
          heard = λ i k t. symbol_is (checks b).n b.w x a.size i k (kept_at b h i) (kept-size b r h i t) (λ j l.
              a.same i k (heard-known i t) j l ∙ kept_byte b r h i j k l);
          idle = λ i t.
              let k = idle_inside b r i t in
              symbol_is (checks b).n b.w x a.size i k (replicate b.w 0) (length-replicate b.w 0) (λ j l.
              a.same i k (idle-known i t) j l ∙ kept_byte b r h i j k l ∙ kept-zero b r h i j t ∙ sym (get_or-replicate b.w j 0 0 l));
        },
    λ a.
        (mem-agreeing (checks b) b.w (known_at b h) (kept_symbols b h) x).1 (record {
          size = a.size;
          bytes = a.bytes;
          rows = a.rows;
          same = λ i k t j l. sym (symbol-byte (checks b).n b.w x a.size i k j l) ∙ from a i k t j l (idle_at b i) refl ∙ sym (kept_byte b r h i j k l);
        }),
  )
    where
      from : Agrees b h x → (i : ℕ) → i < (checks b).n → known_at b h i ≡ true → (j : ℕ) → j < b.w → (u : Bool) → idle_at b i ≡ u
          → get_or (symbol_at b.w x i) j 0 ≡ get_or (kept_at b h i) j 0
      from a i k t j l true q = ap (λ (s : List ℕ). get_or s j 0) (a.idle i q) ∙ get_or-replicate b.w j 0 0 l ∙ sym (kept-zero b r h i j q)
      from a i k t j l false q = ap (λ (s : List ℕ). get_or s j 0) (a.heard i k (known-heard i t q))

  -- a position is determined where all that agree have the same symbol, and one agrees
  determined-common : (i : ℕ) → determined b.w (agreeing_with b h) i ≡ true → Agrees b h (first (agreeing_with b h)) × Common b.w (Agrees b h) i
  determined-common i e =
      let a = determined-same b.w (agreeing_with b h) i e in (
        (member (first (agreeing_with b h))).0 a.0,
        λ x y ax ay j l. sym (a.1 x ((member x).1 ax) j l) ∙ a.1 y ((member y).1 ay) j l,
      )

  common-determined : (i : ℕ) (x : List ℕ) → Agrees b h x → Common b.w (Agrees b h) i
      → (determined b.w (agreeing_with b h) i ≡ true) × ((j : ℕ) → j < b.w → byte_at b.w (first (agreeing_with b h)) j i ≡ byte_at b.w x j i)
  common-determined i x ax f =
      determined-true b.w (agreeing_with b h) i x (λ j. byte_at b.w x j i) ((member x).1 ax) (λ y m. f y x ((member y).0 m) ax)

  -- ---- a close that gives a verdict

  module _ (words bytes : List ℕ) (given : wrong_work b (length words) (length bytes) ≡ false) where
    abbrev now : State
    now = state_of b (close_with words bytes ∷ h)

    at-heard : (i : ℕ) → i < (checks b).n → heard_at b h i ≡ true → get_or now.marks i 0 ≡ 1
    unfolding mark_of heard_at
    at-heard i k e = mark_is b r (close_with words bytes ∷ h) i k ∙ rw (heard_sent b r h i e, e)

    module _ (i : ℕ) (M : Missing b h i) where
      at-determined : determined b.w (agreeing_with b h) i ≡ true
          → (get_or now.marks i 0 ≡ 2) × ((j : ℕ) → j < b.w → byte_at b.w now.symbols j i ≡ byte_at b.w (first (agreeing_with b h)) j i)
      unfolding mark_of byte_of heard_at latest
      at-determined d = (
        mark_is b r (close_with words bytes ∷ h) i M.0 ∙ rw (M.1, M.2, given, d),
        λ j l. byte_is b r (close_with words bytes ∷ h) i j M.0 l ∙ rw (M.1, M.2, given, d),
      )

      at_left : determined b.w (agreeing_with b h) i ≡ false
          → (get_or now.marks i 0 ≡ 0) × ((j : ℕ) → j < b.w → byte_at b.w now.symbols j i ≡ 0)
      unfolding mark_of byte_of heard_at latest
      at_left d = (
        mark_is b r (close_with words bytes ∷ h) i M.0 ∙ rw (M.1, M.2, given, d),
        λ j l. byte_is b r (close_with words bytes ∷ h) i j M.0 l ∙ rw (M.1, M.2, given, d),
      )

      missing-determined : get_or now.marks i 0 ≡ 2 → determined b.w (agreeing_with b h) i ≡ true
      missing-determined m = go (determined b.w (agreeing_with b h) i) refl
        where
          go : (d : Bool) → determined b.w (agreeing_with b h) i ≡ d → d ≡ true
          go true q = refl
          go false q = absurd (omega (arith, (at_left q).0))

      missing-left : get_or now.marks i 0 ≢ 2 → determined b.w (agreeing_with b h) i ≡ false
      missing-left m = go (determined b.w (agreeing_with b h) i) refl
        where
          go : (d : Bool) → determined b.w (agreeing_with b h) i ≡ d → d ≡ false
          go true q = absurd (m (at-determined q).0)
          go false q = refl

      filled_now : (x : List ℕ) → Agrees b h x → Common b.w (Agrees b h) i
          → (get_or now.marks i 0 ≡ 2) × ((j : ℕ) → j < b.w → byte_at b.w now.symbols j i ≡ byte_at b.w x j i)
      filled_now x ax f =
          let a = common-determined i x ax f in
          let d = at-determined a.0 in
          (d.0, λ j l. d.1 j l ∙ a.1 j l)

    -- a position with mark 2 is missing
    filled-missing : (i : ℕ) → i < (checks b).n → get_or now.marks i 0 ≡ 2 → Missing b h i
    filled-missing i k m = (k, sent (idle_at b i) refl, new (heard_at b h i) refl)
      where
        sent : (a : Bool) → idle_at b i ≡ a → a ≡ false
        sent true e = absurd (omega (arith, idle-mark b r (close_with words bytes ∷ h) i e))
        sent false e = refl

        new : (a : Bool) → heard_at b h i ≡ a → a ≡ false
        new true e = absurd (omega (arith, at-heard i k e))
        new false e = refl

    heard_now : (i : ℕ) → i < (checks b).n → heard_at b h i ≡ true → symbol_at b.w now.symbols i ≡ kept_at b h i
    unfolding heard_at kept_at
    heard_now i k e = heard-symbol b r (close_with words bytes ∷ h) (state_of b (close_with words bytes ∷ h)) (shows b r (close_with words bytes ∷ h)) i k e

    size : length now.symbols ≡ (checks b).n * b.w
    size = symbols-size b r (close_with words bytes ∷ h)

    -- just one agrees: all have the same symbol everywhere
    one-common : JustOne (Agrees b h) → (i : ℕ) → Common b.w (Agrees b h) i
    one-common u i x y ax ay j l = ap (λ (z : List ℕ). byte_at b.w z j i) (u.2 x ax ∙ sym (u.2 y ay))

    one_block : JustOne (Agrees b h) → (x : List ℕ) → Agrees b h x → now.symbols ≡ x
    one_block u x ax =
        ext_byte_at (checks b).n b.w now.symbols x (pos b r) size ax.size (λ i j k l.
        go i j k l (idle_at b i) refl (heard_at b h i) refl)
      where
        go : (i j : ℕ) → i < (checks b).n → j < b.w → (t : Bool) → idle_at b i ≡ t → (a : Bool) → heard_at b h i ≡ a
            → byte_at b.w now.symbols j i ≡ byte_at b.w x j i
        go i j k l true f a e =
            bytes_same (checks b).n b.w now.symbols x size ax.size i k (idle-symbol b r (close_with words bytes ∷ h) i f ∙ sym (ax.idle i f)) j l
        go i j k l false f true e =
            bytes_same (checks b).n b.w now.symbols x size ax.size i k (heard_now i k e ∙ sym (ax.heard i k e)) j l
        go i j k l false f false e = (filled_now i (k, f, e) x ax (one-common u i)).1 j l

    once : Once (agreeing_with b h)
    unfolding agreeing_with
    once = once_agreeing (checks b) b.w (known_at b h) (kept_symbols b h)

    said_whole : (verdict_of (agreeing_with b h) ≡ whole) ↔ JustOne (Agrees b h)
    said_whole = (
      λ e. let a = (whole_iff (agreeing_with b h) once).0 e in (a.0, (member a.0).0 a.1, λ y q. a.2 y ((member y).1 q)),
      λ a. (whole_iff (agreeing_with b h) once).1 (a.0, (member a.0).1 a.1, λ y q. a.2 y ((member y).0 q)),
    )

    said_ambiguous : (verdict_of (agreeing_with b h) ≡ ambiguous) ↔ Two (Agrees b h)
    said_ambiguous = (
      λ e. let a = (ambiguous_iff (agreeing_with b h) once).0 e in (a.0, a.1, (member a.0).0 a.2, (member a.1).0 a.3, a.4),
      λ a. (ambiguous_iff (agreeing_with b h) once).1 (a.0, a.1, (member a.0).1 a.2, (member a.1).1 a.3, a.4),
    )

    said_inconsistent : (verdict_of (agreeing_with b h) ≡ inconsistent) ↔ ((x : List ℕ) → ¬ Agrees b h x)
    said_inconsistent = (
      λ e x ax. (inconsistent_iff (agreeing_with b h)).0 e (x, (member x).1 ax),
      λ n. (inconsistent_iff (agreeing_with b h)).1 (λ a. n a.0 ((member a.0).0 a.1)),
    )

    -- a position is heard just where its mark is 1
    mark-heard : (i : ℕ) → i < (checks b).n → eqb (get_or now.marks i 0) 1 ≡ heard_at b h i
    unfolding mark_of heard_at
    mark-heard i k =
        ap (λ (m : ℕ). eqb m 1) (mark_is b r (close_with words bytes ∷ h) i k)
        ∙ go (idle_at b i) refl (heard_at b h i) refl (determined b.w (latest b (close_with words bytes ∷ h)) i)
      where
        go : (t : Bool) → idle_at b i ≡ t → (a : Bool) → heard_at b h i ≡ a → (d : Bool) → eqb (mark_after (cond t idle (cond a heard missing)) d) 1 ≡ a
        go true f true e d = absurd (false≢true (sym (heard_sent b r h i e) ∙ f))
        go true f false e d = refl
        go false f true e d = refl
        go false f false e true = refl
        go false f false e false = refl

    idle_in : IdleIn b (code_of b.code).k (length now.marks)
    idle_in = record { information = refl; fill = fill-most b r; within = omega (arith, marks-size b r (close_with words bytes ∷ h), checks-n b) }

    -- idle positions have mark 0, so they add nothing to the other counts
    sent_count : (v : ℕ) → eqb 0 v ≡ false → count v (sent_marks b now.marks) ≡ count v now.marks
    sent_count v e = sym (ap (count v) (set_is now.marks b.fill (code_of b.code).k 0 idle_in.fill idle_in.within (record {
      size = refl;
      each = λ i k. go i (idle_at b i) refl ∙ ap (λ (t : Bool). cond t 0 (get_or now.marks i 0)) (sym (idle-at idle_in i));
    })) ∙ idle-count now.marks idle_in v 0 e)
      where
        go : (i : ℕ) (t : Bool) → idle_at b i ≡ t → get_or now.marks i 0 ≡ cond t 0 (get_or now.marks i 0)
        go i true q = idle-mark b r (close_with words bytes ∷ h) i q
        go i false q = refl

    heard-count : count 1 now.marks ≡ count 1 (tab (checks b).n (λ i. cond (heard_at b h i) 1 0))
    heard-count =
        count_same 1 now.marks (tab (checks b).n (λ i. cond (heard_at b h i) 1 0))
        (marks-size b r (close_with words bytes ∷ h) ∙ sym (length-tab (checks b).n (λ i. cond (heard_at b h i) 1 0))) (λ i k.
        let l : i < (checks b).n = subst (λ (n : ℕ). i < n) (marks-size b r (close_with words bytes ∷ h)) k in
        mark-heard i l ∙ sym (ap (λ (m : ℕ). eqb m 1) (get_d_tab (checks b).n (λ u. cond (heard_at b h u) 1 0) 0 i l) ∙ one (heard_at b h i)))
      where
        one : (a : Bool) → eqb (cond a 1 0) 1 ≡ a
        one true = refl
        one false = refl

    closes : Closes b h (report_of b (verdict_of (agreeing_with b h)) now.marks) now
    closes = record {
      is_whole = said_whole;
      whole_fills = λ e i M. let u = said_whole.0 e in (filled_now i M u.0 u.1 (one-common u i)).0;
      whole-block = λ e. one_block (said_whole.0 e);
      is_ambiguous = said_ambiguous;
      ambiguous_fills = λ e i M. (
        λ m. (determined-common i (missing-determined i M m)).1,
        λ f. let u = said_ambiguous.0 e in (filled_now i M u.0 u.2 f).0,
      );
      is_inconsistent = said_inconsistent;
      inconsistent_fills = λ e i k m.
          said_inconsistent.0 e (first (agreeing_with b h)) (determined-common i (missing-determined i (filled-missing i k m) m)).0;
      heard_stays = λ i k e. (at-heard i k e, heard_now i k e);
      filled-missing = filled-missing;
      filled-symbol = λ i k m x ax.
          let M = filled-missing i k m in
          symbols-same (checks b).n b.w now.symbols x size ax.size i k (filled_now i M x ax (determined-common i (missing-determined i M m)).1).1;
      left-zero = λ i M m.
          let a = at_left i M (missing-left i M m) in
          (a.0, symbol_is (checks b).n b.w now.symbols size i M.0 (replicate b.w 0) (length-replicate b.w 0) (λ j l. a.1 j l ∙ sym (get_or-replicate b.w j 0 0 l)));
      idle-zero = λ i e. (idle-mark b r (close_with words bytes ∷ h) i e, idle-symbol b r (close_with words bytes ∷ h) i e);
      count-heard = sent_count 1 refl ∙ heard-count;
      count-filled = sent_count 2 refl;
      count_left = refl;
      count_all =
          sent_all now.marks idle_in (λ i k. small b r (close_with words bytes ∷ h) i)
          ∙ omega (arith, marks-size b r (close_with words bytes ∷ h), checks-n b);
    }

  reports : (words bytes : List ℕ) (q : Report) → answer_of b h (close_with words bytes) ≡ closed (answered q) → Closes b h q (state_of b (close_with words bytes ∷ h))
  reports words bytes q e =
      let g = verdict-given b h words bytes q e in
      subst (λ (u : Report). Closes b h u (state_of b (close_with words bytes ∷ h))) g.1 (closes words bytes g.0)

  -- ---- a take

  keeps : (unit : List ℕ) → (answer_of b h (take_unit unit) ≡ taken (answered kept)) ↔ ((x : AdmittedUnit) × (admission b unit ≡ answered x) × (heard_at b h x.position ≡ false))
  unfolding answer_of
  keeps unit = (λ e. to (admission b unit) refl e, λ a. rw (a.1, a.2))
    where
      new : (x : AdmittedUnit) (a : Bool) → heard_at b h x.position ≡ a
          → taken (cond a (cond (same_bytes (kept_at b h x.position) x.symbol) (answered repeated) (refused 12)) (answered kept)) ≡ taken (answered kept) → a ≡ false
      new x true t e = clash (same_bytes (kept_at b h x.position) x.symbol) e
        where
          clash : (d : Bool) → taken (cond d (answered repeated) (refused 12)) ≡ taken (answered kept) → true ≡ false
          clash true q = let z : ◌≡◌ {A = ℕ} 0 1 = cc in absurd (omega arith)
          clash false q = let z : ◌≡◌ {A = ℕ} 0 1 = cc in absurd (omega arith)
      new x false t e = refl

      to : (a : Outcome AdmittedUnit) → admission b unit ≡ a → taken (take_answer b h a) ≡ taken (answered kept)
          → (x : AdmittedUnit) × (admission b unit ≡ answered x) × (heard_at b h x.position ≡ false)
      to (refused n) q e = let z : ◌≡◌ {A = ℕ} 0 1 = cc in absurd (omega arith)
      to (answered x) q e = (x, q, new x (heard_at b h x.position) refl e)

  stores : (unit : List ℕ) (x : AdmittedUnit) → admission b unit ≡ answered x → heard_at b h x.position ≡ false
      → (get_or (state_of b (take_unit unit ∷ h)).marks x.position 0 ≡ 1) × (symbol_at b.w (state_of b (take_unit unit ∷ h)).symbols x.position ≡ x.symbol)
  unfolding mark_of
  stores unit x e f = (
    mark_is b r (take_unit unit ∷ h) x.position inside ∙ rw ((admitted_inside b unit x e).sent, hears),
    heard-symbol b r (take_unit unit ∷ h) (state_of b (take_unit unit ∷ h)) (shows b r (take_unit unit ∷ h)) x.position inside hears ∙ holds,
  )
    where
      inside : x.position < (checks b).n
      inside = (admitted_inside b unit x e).position

      hears : heard_at b (take_unit unit ∷ h) x.position ≡ true
      hears = take-heard b h unit x e

      holds : kept_at b (take_unit unit ∷ h) x.position ≡ x.symbol
      holds = take-kept b h unit x e f

pub demand_3 : Demand3
demand_3 o b symbols marks q h words bytes p e =
    let s = opened (open_of o symbols marks) in
    let R = (opens o b symbols marks q).1 in
    subst (Closes b h p) (sym (from_the_list o b symbols marks q (close_with words bytes ∷ h)).state)
    (reports b R h words bytes p (sym ((from_the_list o b symbols marks q h).answers (close_with words bytes)) ∙ e))

pub demand_2 : Demand2
demand_2 o b symbols marks q h unit =
    let R = (opens o b symbols marks q).1 in
    let a = (from_the_list o b symbols marks q h).answers (take_unit unit) in
    let k = keeps b R h unit in
    record {
      keeps = (λ e. k.0 (sym a ∙ e), λ t. a ∙ k.1 t);
      stores = λ x e f.
          subst (λ (t : State). (get_or t.marks x.position 0 ≡ 1) × (symbol_at b.w t.symbols x.position ≡ x.symbol))
          (sym (from_the_list o b symbols marks q (take_unit unit ∷ h)).state) (stores b R h unit x e f);
    }
