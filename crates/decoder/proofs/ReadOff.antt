-- What is read off the reduced rows of the check rows that no step used: whether a codeword agrees, one that does, and that all that agree are the
-- same where every pivot is solved. lr' are the reduced rows and d' their right-hand sides; lw has the reduced rows behind those of the steps.
-- Assumes nothing.
use mathlib.Core.Path.{◌≡◌, refl, sym, ap, ◌∙◌, subst}
use mathlib.Core.Logic.{◌⊎◌, ◌≢◌, ◌↔◌, inl, inr}
use mathlib.Core.Bool.{cond, Bool, true, false, false≢true}
use mathlib.Core.List.{List}
use Prim.Native.Nat.{ℕ, zero, suc, ◌+◌, ◌-◌, ◌*◌, ◌<◌, ◌≤◌, zero-le}
use native.Mathlib.Numerals.{add-one}
use native.Mathlib.Omega.{arith}
use lib.ListN.{get_or}
use Rattle.algebra.specs.Sums.{◌⊕◌, sum}
use Rattle.algebra.specs.Codeword.{Checks, byte_at}
use Rattle.peeling.specs.States.{is_known}
use Rattle.algebra.specs.Unique.{Some, Common}
use Rattle.decoder.specs.Outcome.{AgreesWith}
use Rattle.algebra.proofs.Sums.{unit, sum_cong, sum-none, sum_zeros}
use Rattle.elimination.specs.Bits.{row_bit}
use Rattle.elimination.specs.System.{Solves, SameSolutions}
use Rattle.elimination.specs.Reduced.{pivot_word, RowReduced, Reduced}
use Rattle.elimination.specs.Consistency.{Consistent, Fails}
use Rattle.elimination.proofs.ConsistencyLaws.{word-pivot}
use Rattle.elimination.proofs.Order.{lt_or_le, eq_or_ne}
use Rattle.peeling.specs.declared.plan.Step as Entry
use Rattle.peeling.specs.Plan.{no_step, Arrays, kind_of, row_of, position_of, pivot_of, used_by, Before, Step, Sort, Plan, Closed, Unsolved}
use Rattle.peeling.specs.Values.{StepsHold, Values, StepsRestored}
use Rattle.pivot_equations.specs.Express.{Places, StepsExpressed}
use Rattle.decoder.specs.Pivots.{Solved, Free, Put, AllSolvedIs}
use Rattle.decoder.proofs.Triangle.{sum_single, expressed, plan_triangular}
use Rattle.peeling.proofs.StepLaws.{few-steps, IsPivot, kind_cases}
use Rattle.peeling.proofs.UnusedRows.{unused-same}
use Rattle.decoder.proofs.Solutions.{System, Along, agreeing_along, agrees_iff, high_absent}

pub clash : {b : Bool} → b ≡ true → b ≡ false → ⊥
clash t f = false≢true (sym f ∙ t)

-- ---- reduced rows

module _ (l : List ℕ) (m words : ℕ) (red : Reduced l m words m) where
  -- another row has not the pivot of row r
  pub row-others : (r i u : ℕ) → r < m → i < m → i ≢ r → pivot_word l words r ≡ u + 1 → row_bit l (i * (words + 1)) u ≡ false
  row-others r i u hr hi ne e = go (red r hr)
    where
      go : RowReduced l m words r → row_bit l (i * (words + 1)) u ≡ false
      go (inl z) = absurd (omega (arith, z.word))
      go (inr v) = let same : v.at ≡ u = omega (arith, v.word) in ap (row_bit l (i * (words + 1))) (sym same) ∙ v.others i hi ne

  pub row_here : (r u : ℕ) → r < m → pivot_word l words r ≡ u + 1 → row_bit l (r * (words + 1)) u ≡ true
  row_here r u hr e = (word-pivot l m words r u (red r hr) e).1

  -- two rows have two pivots
  same_row : (i k u : ℕ) → i < m → k < m → pivot_word l words i ≡ u + 1 → pivot_word l words k ≡ u + 1 → i ≡ k
  same_row i k u hi hk ei ek = go (eq_or_ne i k)
    where
      go : (i ≡ k) ⊎ (i ≢ k) → i ≡ k
      go (inl e) = e
      go (inr ne) = absurd (clash (row_here i u hi ei) (row-others k i u hk hi ne ek))

-- ---- the kinds of a plan in which no position is open

-- a pivot's place in a row, as Places asks
abbrev Place : Checks → Arrays → List ℕ → ℕ → ℕ → ℕ → Type 0
Place c plan l words steps p = (kind_of plan p ≤ 4096 → kind_of plan p - 1025 < 64 * words)
    × (4096 < kind_of plan p → (steps ≤ kind_of plan p - 4097)
    × ((kind_of plan p - 4097 < c.m) × ((0 < pivot_word l words (kind_of plan p - 4097)) × (pivot_word l words (kind_of plan p - 4097) ≤ 64 * words))))

-- ---- the setting: the symbols along a plan that is made, and the reduced rows

pub record Setting (c : Checks) (w : ℕ) (block states : List ℕ) (plan : Arrays) (y l lr d lr' d' : List ℕ) (words early steps pivots rest : ℕ) : Type 0 where
  pub made : Plan c states plan early steps pivots
  pub closed : Closed c plan
  pub unsolved : Unsolved plan pivots
  pub values : Values c w block states plan y steps pivots
  pub step-rows : StepsExpressed c plan l words early steps
  pub system : System c w plan y l words early rest lr d
  pub room : pivots ≤ 64 * words
  pub same : SameSolutions lr d lr' d' rest words w
  pub reduced : Reduced lr' rest words rest
  pub some : 0 < w

-- byte b of the symbol at pivot u
abbrev pub pivot_byte : ℕ → Arrays → List ℕ → ℕ → ℕ → ℕ
pivot_byte w plan x u b = byte_at w x b (pivot_of plan u)

-- the reduced rows stand in lw behind those of the steps
pub record Behind (lr' lw : List ℕ) (words steps rest : ℕ) : Type 0 where
  pub rows : (i k : ℕ) → i < rest → k < words + 1 → get_or lw ((steps + i) * (words + 1) + k) 0 ≡ get_or lr' (i * (words + 1) + k) 0

module _ {c : Checks} {w : ℕ} {block states : List ℕ} {plan : Arrays} {y l lr d lr' d' : List ℕ} {words early steps pivots rest : ℕ}
    (G : Setting c w block states plan y l lr d lr' d' words early steps pivots rest) where
  -- a word along the plan agrees just when its pivots solve the reduced rows
  pub agrees-reduced : {x : List ℕ} → Along c w block states plan x steps → AgreesWith c w block states x ↔ Solves lr' d' rest words w pivots (pivot_byte w plan x)
  agrees-reduced {x} a =
      let f = agrees_iff G.made G.closed G.unsolved G.values G.step-rows G.system G.room a in
      let g = G.same.solves pivots (pivot_byte w plan x) G.room in
      (λ s. g.0 (f.0 s), λ s. f.1 (g.1 s))

  pub solves-reduced : {x : List ℕ} → AgreesWith c w block states x → Solves lr' d' rest words w pivots (pivot_byte w plan x)
  solves-reduced a = (agrees-reduced (agreeing_along G.made a)).0 a

  pub refuted : Fails lr' d' rest words w → ¬ Some (AgreesWith c w block states)
  refuted f (x, a) =
      f.there (sym (solves-reduced a f.row f.byte f.below f.within)
      ∙ sum-none (row_bit lr' (f.row * (words + 1))) (λ q. pivot_byte w plan x q f.byte) pivots (λ q h. f.empty.clear q (omega (arith, G.room))))

  -- a row's pivot is one of the plan's
  pub pivot-below : (i u : ℕ) → i < rest → pivot_word lr' words i ≡ u + 1 → u < pivots
  pivot-below i u hi e = go (lt_or_le u pivots)
    where
      go : (u < pivots) ⊎ (pivots ≤ u) → u < pivots
      go (inl h) = h
      go (inr h) =
          let p = word-pivot lr' rest words i u (G.reduced i hi) e in
          absurd (clash p.1 (G.same.absent u p.0
          (high_absent G.made G.closed G.unsolved G.values G.step-rows G.system G.room u h p.0) i hi))

  words-below : (i : ℕ) → i < rest → pivot_word lr' words i ≤ pivots
  words-below i hi = go (pivot_word lr' words i) refl
    where
      go : (k : ℕ) → pivot_word lr' words i ≡ k → k ≤ pivots
      go zero e = zero-le
      go (suc u) e = pivot-below i u hi (e ∙ sym (add-one u))

  -- the same of the rows in lw, as `put` asks
  module _ {lw : List ℕ} (behind : Behind lr' lw words steps rest) where
    pub word-behind : (r : ℕ) → r < rest → pivot_word lw words (steps + r) ≡ pivot_word lr' words r
    word-behind r h = behind.rows r words h (omega arith)

    pub behind-below : (i : ℕ) → i < rest → pivot_word lw words (steps + i) ≤ pivots
    behind-below i h = rw (word-behind i h) (words-below i h)

    -- ---- the plan after Put: only kinds of pivots changed

    module _ {plan' : Arrays} {y' : List ℕ} (Q : Put c w words steps rest pivots lw d' plan y plan' y') where
      -- pivot u is solved, or free
      abbrev IsSolved : ℕ → Type 0
      IsSolved u = Solved w words steps rest lw d' plan' y' u (pivot_of plan u)

      abbrev IsFree : ℕ → Type 0
      IsFree u = Free w words steps rest lw plan y plan' y' u (pivot_of plan u)

      P : Plan c states plan early steps pivots
      P = G.made

      row-few : (r : ℕ) → r < rest → steps + r < c.m
      row-few r h = omega (arith, P.steps-unused, G.system.count)

      pub pivot-few : (u : ℕ) → u < pivots → u < 3072
      pivot-few u h = omega (arith, P.positions, P.pivots_few)

      -- a known position, or one that a step settles, is no pivot
      not-pivot : (p : ℕ) → kind_of plan p ≤ steps → (u : ℕ) → u < pivots → p ≢ pivot_of plan u
      not-pivot p h u hu e = let k : kind_of plan p ≡ 1025 + u = ap (kind_of plan) e ∙ G.unsolved u hu in omega (arith, few-steps P)

      -- so its kind stays
      pub kind-same : (p : ℕ) → kind_of plan p ≤ steps → kind_of plan' p ≡ kind_of plan p
      kind-same p h = Q.others p (not-pivot p h)

      -- a pivot stays one
      pivot-kind : (u : ℕ) → u < pivots → (1024 < kind_of plan' (pivot_of plan u)) × (kind_of plan' (pivot_of plan u) < 65535)
      pivot-kind u hu = go (Q.pivot u hu)
        where
          go : IsSolved u ⊎ IsFree u → (1024 < kind_of plan' (pivot_of plan u)) × (kind_of plan' (pivot_of plan u) < 65535)
          go (inl s) = (omega (arith, s.kind), omega (arith, s.kind, row-few s.row s.below, P.rows))
          go (inr f) = let k : kind_of plan' (pivot_of plan u) ≡ 1025 + u = f.kind ∙ G.unsolved u hu in (omega arith, omega (arith, pivot-few u hu))

      before-put : (t p : ℕ) → t < steps → p < c.n → Before plan early t p → Before plan' early t p
      before-put t p ht hp b = go (kind_cases P G.closed p hp) b
        where
          few : steps ≤ 1024
          few = (few-steps P).1

          go : (kind_of plan p ≤ steps) ⊎ IsPivot plan pivots p → Before plan early t p → Before plan' early t p
          go (inl k) (inl h) = inl (omega (arith, kind-same p k))
          go (inl k) (inr h) = absurd (omega (arith, few, h.1.0))
          go (inr (u, (hu, q))) (inl h) = let k : kind_of plan p ≡ 1025 + u = ap (kind_of plan) (sym q) ∙ G.unsolved u hu in absurd (omega (arith, few))
          go (inr (u, (hu, q))) (inr h) = inr (h.0, subst (λ (x : ℕ). (1024 < kind_of plan' x) × (kind_of plan' x < 65535)) q (pivot-kind u hu))

      pub row_same : (t : ℕ) → row_of plan' t ≡ row_of plan t
      row_same t = ap (λ (l : List Entry.Step). (get_or l t no_step).row) Q.same.steps

      position-same : (t : ℕ) → position_of plan' t ≡ position_of plan t
      position-same t = ap (λ (l : List Entry.Step). (get_or l t no_step).position) Q.same.steps

      pivot-same : (u : ℕ) → pivot_of plan' u ≡ pivot_of plan u
      pivot-same u = ap (λ (l : List ℕ). get_or l u 0) Q.same.pivots

      used-same : (j : ℕ) → used_by plan' j ≡ used_by plan j
      used-same j = ap (λ (l : List Bool). cond (get_or l j false) 1 0) Q.same.used

      step-put : (t : ℕ) → t < steps → Step c states plan' early t
      step-put t ht =
          let s = P.step t ht in
          record {
            row = rw (row_same t) s.row;
            position = rw (position-same t) s.position;
            missing = rw (position-same t) s.missing;
            kind = rw (position-same t) (kind-same (position_of plan t) (omega (arith, s.kind)) ∙ s.kind);
            has = rw (row_same t, position-same t) s.has;
            others = λ p hp h ne. before-put t p ht hp (s.others p hp (rw (row_same t) at h) (rw (position-same t) at ne));
          }

      pub plan_put : Plan c states plan' early steps pivots × Closed c plan'
      plan_put = (
        record {
          positions = P.positions;
          rows = P.rows;
          early_steps = P.early_steps;
          pivots_few = P.pivots_few;
          steps-unused = ap (λ (x : ℕ). steps + x) (unused-same plan plan' c.m (λ j h. used-same j)) ∙ P.steps-unused;
          known = λ p hp e. kind-same p (omega (arith, P.known p hp e)) ∙ P.known p hp e;
          sort = λ p hp e. sorted p hp (P.sort p hp e);
          step = step-put;
          pivot = λ u hu. record {
            position = rw (pivot-same u) (P.pivot u hu).position;
            missing = rw (pivot-same u) (P.pivot u hu).missing;
            kind = rw (pivot-same u) (pivot-kind u hu);
          };
          used = λ j hj. used-put j (P.used j hj);
        },
        λ p hp e. shut p e (kind_cases P G.closed p hp),
      )
        where
          sorted : (p : ℕ) → p < c.n → Sort plan steps pivots p → Sort plan' steps pivots p
          sorted p hp (inl e) = absurd (G.closed p hp e)
          sorted p hp (inr (inl (t, (ht, e)))) = inr (inl (t, (ht, position-same t ∙ e)))
          sorted p hp (inr (inr (u, (hu, e)))) = inr (inr (u, (hu, pivot-same u ∙ e)))

          used-put : (j : ℕ) → (used_by plan j ≡ 0) ⊎ ((t : ℕ) × ((t < steps) × (row_of plan t ≡ j))) → (used_by plan' j ≡ 0) ⊎ ((t : ℕ) × ((t < steps) × (row_of plan' t ≡ j)))
          used-put j (inl e) = inl (used-same j ∙ e)
          used-put j (inr (t, (ht, e))) = inr (t, (ht, row_same t ∙ e))

          shut : (p : ℕ) → kind_of plan' p ≡ 65535 → (kind_of plan p ≤ steps) ⊎ IsPivot plan pivots p → ⊥
          shut p e (inl k) = omega (arith, kind-same p k, few-steps P)
          shut p e (inr (u, (hu, q))) = let k : kind_of plan' (pivot_of plan u) ≡ 65535 = ap (kind_of plan') q ∙ e in omega (arith, pivot-kind u hu)

      -- what `peel::again` asks: the steps before `early` have no pivot in their rows, so these still hold
      pub early_holds : StepsHold c w plan' y' early
      early_holds t b ht hb = rw (row_same t) (
          sum_cong (c.has (row_of plan t)) (c.has (row_of plan t)) (byte_at w y' b) (byte_at w y b) c.n (λ p hp. refl)
          (λ p hp h. Q.other_bytes p b (not-pivot p (low p hp h (eq_or_ne p (position_of plan t)))) hp hb)
          ∙ G.values.holds t b below hb)
        where
          below : t < steps
          below = omega (arith, P.early_steps)

          closed-before : (p : ℕ) → Before plan early t p → kind_of plan p ≤ steps
          closed-before p (inl h) = omega arith
          closed-before p (inr h) = absurd (omega (arith, h.0))

          low : (p : ℕ) → p < c.n → c.has (row_of plan t) p ≡ true → (p ≡ position_of plan t) ⊎ (p ≢ position_of plan t) → kind_of plan p ≤ steps
          low p hp h (inl e) = let k : kind_of plan p ≡ t + 1 = ap (kind_of plan) e ∙ (P.step t below).kind in omega (arith, below)
          low p hp h (inr ne) = closed-before p ((P.step t below).others p hp h ne)

      -- what `express::steps` asks
      pub places : Places c plan' lw words steps c.m
      places p hp h = go (kind_cases P G.closed p hp)
        where
          pivot : (u : ℕ) → u < pivots → pivot_of plan u ≡ p → IsSolved u ⊎ IsFree u → Place c plan' lw words steps p
          pivot u hu e (inl s) =
              let k : kind_of plan' p ≡ 4097 + (steps + s.row) = ap (kind_of plan') (sym e) ∙ s.kind in
              let j : steps + s.row ≡ kind_of plan' p - 4097 = omega arith in
              let v : pivot_word lw words (kind_of plan' p - 4097) ≡ u + 1 = ap (pivot_word lw words) (sym j) ∙ s.word in
              (λ q. absurd (omega arith), λ q. (omega arith, (omega (arith, row-few s.row s.below), (omega arith, omega (arith, G.room)))))
          pivot u hu e (inr f) =
              let k : kind_of plan' p ≡ 1025 + u = ap (kind_of plan') (sym e) ∙ f.kind ∙ G.unsolved u hu in
              (λ q. omega (arith, G.room), λ q. absurd (omega (arith, pivot-few u hu)))

          go : (kind_of plan p ≤ steps) ⊎ IsPivot plan pivots p → Place c plan' lw words steps p
          go (inl k) = absurd (omega (arith, kind-same p k, few-steps P))
          go (inr (u, (hu, e))) = pivot u hu e (Q.pivot u hu)

      -- ---- pivots that are solved, and free ones

      -- a solved pivot's row
      pub solved-word : {u : ℕ} (s : IsSolved u) → pivot_word lr' words s.row ≡ u + 1
      solved-word s = sym (word-behind s.row s.below) ∙ s.word

      -- a row's pivot is not free
      pub row-solved : (r u : ℕ) → r < rest → pivot_word lr' words r ≡ u + 1 → (s : IsSolved u) × (s.row ≡ r)
      row-solved r u hr e = go (Q.pivot u (pivot-below r u hr e))
        where
          go : IsSolved u ⊎ IsFree u → (s : IsSolved u) × (s.row ≡ r)
          go (inl s) = (s, same_row lr' rest words G.reduced s.row r u s.below hr (solved-word s) e)
          go (inr f) = absurd (f.none r hr (word-behind r hr ∙ e))

      -- the other unknowns of a row with a pivot are free
      pub other_free : (r u q : ℕ) → r < rest → pivot_word lr' words r ≡ u + 1 → q < pivots → q ≢ u → row_bit lr' (r * (words + 1)) q ≡ true → IsFree q
      other_free r u q hr e hq ne t = go (Q.pivot q hq)
        where
          away : (s : IsSolved q) → r ≢ s.row
          away s h = let k : pivot_word lr' words r ≡ q + 1 = ap (pivot_word lr' words) h ∙ solved-word s in ne (omega arith)

          go : IsSolved q ⊎ IsFree q → IsFree q
          go (inl s) = absurd (clash t (row-others lr' rest words G.reduced s.row r q s.below hr (away s) (solved-word s)))
          go (inr f) = f

      -- ---- all pivots are solved

      module _ (all : AllSolvedIs plan' pivots true) where
        not_free : (u : ℕ) → u < pivots → ¬ IsFree u
        not_free u hu f =
            let k : 4096 < kind_of plan' (pivot_of plan u) = rw (pivot-same u) at (all u hu) in
            omega (arith, f.kind, G.unsolved u hu, G.made.pivots_few, G.made.positions)

        -- the pivots of a word that agrees
        pivot_fixed : (z : List ℕ) → AgreesWith c w block states z → (u b : ℕ) (s : IsSolved u) → b < w → u < pivots → byte_at w z b (pivot_of plan u) ≡ get_or d' (s.row * w + b) 0
        pivot_fixed z a u b s hb hu =
            sym (sum_single (row_bit lr' (s.row * (words + 1))) (λ q. pivot_byte w plan z q b) u pivots hu (row_here lr' rest words G.reduced s.row u s.below (solved-word s))
            (λ q hq t ne. absurd (not_free q hq (other_free s.row u q s.below (solved-word s) hq ne t))))
            ∙ solves-reduced a s.row b s.below hb

        pub all_common : (i : ℕ) → i < c.n → Common w (AgreesWith c w block states) i
        all_common i hi z z' a a' b hb =
            expressed (plan_triangular G.made G.closed) (byte_at w z b) (byte_at w z' b) (λ p q. false) (λ q. 0) 0
            (λ p hp e. a.same p hp e b hb ∙ sym (a'.same p hp e b hb) ∙ none (byte_at w z' b p))
            (λ u hu. go u hu (Q.pivot u hu) ∙ none (byte_at w z' b (pivot_of plan u)))
            (λ t ht. (agreeing_along G.made a).holds t b ht hb) (λ t ht. (agreeing_along G.made a').holds t b ht hb)
            (λ t q ht hq. absurd (omega arith)) i hi
            ∙ sym (none (byte_at w z' b i))
          where
            none : (v : ℕ) → v ≡ v ⊕ sum (λ q. false) (λ q. 0) 0
            none v = sym (ap (◌⊕◌ v) (sum_zeros (λ q. false) 0) ∙ unit v)

            go : (u : ℕ) → u < pivots → IsSolved u ⊎ IsFree u → byte_at w z b (pivot_of plan u) ≡ byte_at w z' b (pivot_of plan u)
            go u hu (inl s) = pivot_fixed z a u b s hb hu ∙ sym (pivot_fixed z' a' u b s hb hu)
            go u hu (inr f) = absurd (not_free u hu f)

      -- ---- x, with the steps restored, agrees

      module _ {x : List ℕ} (A : StepsRestored c w plan' y' x early steps) where
        x_pivot : (u b : ℕ) → u < pivots → b < w → byte_at w x b (pivot_of plan u) ≡ byte_at w y' b (pivot_of plan u)
        x_pivot u b hu hb = A.same (pivot_of plan u) b (P.pivot u hu).position hb (inr (pivot-kind u hu).0)

        -- a solved pivot has its row's right-hand side, and a free one is zero
        pub x_row : (r u b : ℕ) → r < rest → pivot_word lr' words r ≡ u + 1 → b < w → byte_at w x b (pivot_of plan u) ≡ get_or d' (r * w + b) 0
        x_row r u b hr e hb =
            let s = row-solved r u hr e in
            x_pivot u b (pivot-below r u hr e) hb ∙ s.0.bytes b hb ∙ ap (λ (i : ℕ). get_or d' (i * w + b) 0) s.1

        pub x_free : (u b : ℕ) → u < pivots → b < w → IsFree u → byte_at w x b (pivot_of plan u) ≡ 0
        x_free u b hu hb f = x_pivot u b hu hb ∙ f.bytes b hb ∙ G.values.pivot-byte u b hu hb

        pub x_known : (p b : ℕ) → p < c.n → b < w → is_known states p ≡ true → byte_at w x b p ≡ byte_at w block b p
        x_known p b hp hb e =
            let k : kind_of plan p ≤ steps = omega (arith, P.known p hp e) in
            A.same p b hp hb (inl (omega (arith, kind-same p k, P.known p hp e))) ∙ Q.other_bytes p b (not-pivot p k) hp hb ∙ G.values.known-byte p b hp hb e

        pub x_holds : StepsHold c w plan x steps
        x_holds t b ht hb = rw (row_same t) at (A.holds t b ht hb)

        pub x_solves : Consistent lr' d' rest words w → Solves lr' d' rest words w pivots (pivot_byte w plan x)
        x_solves consistent r b hr hb = go (G.reduced r hr)
          where
            go : RowReduced lr' rest words r → sum (row_bit lr' (r * (words + 1))) (λ q. pivot_byte w plan x q b) pivots ≡ get_or d' (r * w + b) 0
            go (inl e) =
                sum-none (row_bit lr' (r * (words + 1))) (λ q. pivot_byte w plan x q b) pivots (λ q h. e.clear q (omega (arith, G.room)))
                ∙ sym (consistent r b hr hb e)
            go (inr v) =
                sum_single (row_bit lr' (r * (words + 1))) (λ q. pivot_byte w plan x q b) v.at pivots (pivot-below r v.at hr v.word) v.here
                (λ q hq t ne. x_free q b hq hb (other_free r v.at q hr v.word hq ne t))
                ∙ x_row r v.at b hr v.word hb

        pub confirmed : ((t : ℕ) → get_or x t 0 < 256) → Consistent lr' d' rest words w → AgreesWith c w block states x
        confirmed bytes consistent = (agrees-reduced along).1 (x_solves consistent)
          where
            along : Along c w block states plan x steps
            along = record { size = A.size ∙ Q.symbols-size ∙ G.values.size; bytes = bytes; known-byte = x_known; holds = x_holds }
