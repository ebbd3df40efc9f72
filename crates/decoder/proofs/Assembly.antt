-- What the decoder's functions leave, put together: the outcome of a block.
-- Assumes nothing.
use mathlib.Core.Path.{◌≡◌, refl, sym, ap, ◌∙◌, subst}
use mathlib.Core.Logic.{◌⊎◌, inl, inr}
use mathlib.Core.Bool.{Bool, true, false, not}
use mathlib.Core.List.{List}
use Prim.Native.Nat.{ℕ, ◌+◌, ◌*◌, ◌/◌, ◌<◌, ◌≤◌}
use native.Mathlib.Nat.{add-mul, mul-le-mul_left, mul-le-mul_right}
use native.Mathlib.Omega.{arith}
use lib.ListN.{length, get_or}
use borrow.Author.Tests.{lt-ltb, eqb-true}
use Rattle.algebra.specs.Sums.{pick}
use Rattle.algebra.specs.Codeword.{Checks, byte_at}
use Rattle.algebra.specs.Staircase.{staircase}
use Rattle.peeling.specs.States.{is_known}
use Rattle.ccsds.specs.Codes.{n_of}
use Rattle.ccsds.specs.Tables.{code_of}
use Rattle.ccsds.proofs.Valid.{valid_of}
use Rattle.algebra.specs.Unique.{Some, Common}
use Rattle.decoder.specs.Outcome.{AgreesWith}
use Rattle.elimination.specs.Consistency.{Consistent, ConsistentIs}
use Rattle.elimination.specs.Reduced.{pivot_word}
use Rattle.encoder.specs.inner.Positions.{checks, Table}
use Rattle.peeling.proofs.CodeSizes.{layout-rows}
use Rattle.peeling.specs.Plan.{Arrays, kind_of, unused_below, Unsolved}
use Rattle.peeling.specs.Values.{Peeled, HoldIs, StepsHold}
use Rattle.encoder.specs.declared.positions.Shape.{Shape}
use Rattle.encoder.specs.declared.positions.ClassTable.{ClassTable}
use Rattle.decoder.specs.Pivots.{Put, AllSolvedIs, DeterminedIs, Readable}
use Rattle.pivot_equations.specs.Express.{Planned, Reads, Room, Places, StepsExpressed, SameFrom}
use Rattle.pivot_equations.specs.declared.rows.Rows.{Rows}
use Rattle.decoder.specs.Equations.{behind, RowsRoom, Solvable, PutIn}
use Rattle.decoder.specs.MissingPositions.{missing, Cleared, FilledMissing, FillRoom, FilledDetermined, DeterminedAt, DependsOnPivot}
use Rattle.decoder.specs.Outcome.{Stays, Fills, Leaves, Differs, Outcome}
use Rattle.decoder.proofs.StepsOnly.{steps-only-common, steps-only-agrees, steps-only_refuted}
use Rattle.decoder.proofs.RowsBehindSteps.{behind-at, behind_bit}
use Rattle.decoder.proofs.ReadOff.{Setting, Behind, refuted, behind-below, plan_put, early_holds, places, all_common, confirmed}
use Rattle.decoder.proofs.CommonSymbols.{reads, reads_here, determined, undetermined}

known-state : (states : List ℕ) (i : ℕ) → is_known states i ≡ true → get_or states i 0 ≡ 1
unfolding is_known
known-state states i e = eqb-true (get_or states i 0) 1 e

-- ---- two blocks with the same known symbols have one outcome

module _ (c : Checks) (w : ℕ) (block y states : List ℕ) (same : (p b : ℕ) → p < c.n → b < w → is_known states p ≡ true → byte_at w y b p ≡ byte_at w block b p) where
  to : {x : List ℕ} → AgreesWith c w y states x → AgreesWith c w block states x
  to A = record { size = A.size; bytes = A.bytes; rows = A.rows; same = λ i h e b k. A.same i h e b k ∙ same i b h k e }

  from : {x : List ℕ} → AgreesWith c w block states x → AgreesWith c w y states x
  from A = record { size = A.size; bytes = A.bytes; rows = A.rows; same = λ i h e b k. A.same i h e b k ∙ sym (same i b h k e) }

  common : (i : ℕ) → Common w (AgreesWith c w y states) i → Common w (AgreesWith c w block states) i
  common i f x z ax az = f x z (from ax) (from az)

  module _ (s' m' : List ℕ) where
    stays : (i : ℕ) → i < c.n → is_known states i ≡ true → Stays w y s' m' i → Stays w block s' m' i
    stays i h e S = record { state = S.state; bytes = λ b k. S.bytes b k ∙ same i b h k e }

    pub outcome-same : (ok : Bool) → Outcome c w y states s' m' ok → Outcome c w block states s' m' ok
    outcome-same false R = record {
      symbols-size = R.symbols-size;
      states-size = R.states-size;
      none = λ s. R.none (s.0, from s.1);
      known = λ i h e. stays i h e (R.known i h e);
      missing = R.missing;
    }
    outcome-same true (x, K) = (
      x,
      record {
        symbols-size = K.symbols-size;
        states-size = K.states-size;
        agrees = to K.agrees;
        known = λ i h e. stays i h e (K.known i h e);
        missing = λ i h e. go i (K.missing i h e);
      },
    )
      where
        go : (i : ℕ) → Fills c w y states x s' m' i ⊎ (Leaves w s' m' i × Differs c w y states x i) → Fills c w block states x s' m' i ⊎ (Leaves w s' m' i × Differs c w block states x i)
        go i (inl F) = inl (record { state = F.state; bytes = F.bytes; common = common i F.common })
        go i (inr (L, D)) = inr (L, (D.0, (to D.1.0, D.1.1)))

-- ---- the cases

module _ (c : Checks) (w : ℕ) (y states s' m' : List ℕ) (sy : length y ≡ c.n * w) (sm : length states ≡ c.n) where
  -- no codeword agrees, and the missing positions were cleared
  pub outcome_no : ¬ Some (AgreesWith c w y states) → Cleared w y states s' m' (length states) → length s' ≡ length y → length m' ≡ length states → Outcome c w y states s' m' false
  outcome_no none C es em = record {
    symbols-size = es ∙ sy;
    states-size = em ∙ sm;
    none = none;
    known = λ i h e. let o = test i h true e in record { state = C.state i ∙ rw o (known-state states i e); bytes = λ b k. C.byte i b k ∙ rw o };
    missing = λ i h e. let o = test i h false e in record { state = C.state i ∙ rw o; bytes = λ b k. C.byte i b k ∙ rw o };
  }
    where
      test : (i : ℕ) → i < c.n → (t : Bool) → is_known states i ≡ t → missing states (length states) i ≡ not t
      test i h t e = rw (lt-ltb i (length states) (subst (λ (n : ℕ). i < n) (sym sm) h), e)

  -- x agrees, all that agree are the same, and everything missing was filled
  pub outcome_all : (x : List ℕ) → AgreesWith c w y states x → ((i : ℕ) → i < c.n → Common w (AgreesWith c w y states) i) → length x ≡ c.n * w → FilledMissing states m' → Outcome c w y states x m' true
  outcome_all x A f sx F = (
    x,
    record {
      symbols-size = sx;
      states-size = F.size ∙ sm;
      agrees = A;
      known = λ i h e. record { state = F.state i (below i h) ∙ rw e; bytes = λ b k. A.same i h e b k };
      missing = λ i h e. inl (record { state = F.state i (below i h) ∙ rw e; bytes = λ b k. refl; common = f i h });
    },
  )
    where
      below : (i : ℕ) → i < c.n → i < length states
      below i h = subst (λ (n : ℕ). i < n) (sym sm) h

  -- x agrees, and what depends on no pivot was filled
  pub outcome-some : (x : List ℕ) → AgreesWith c w y states x → (r : Rows) (l : List ℕ) (plan : Arrays) → length x ≡ c.n * w
      → ((p : ℕ) → p < c.n → is_known states p ≡ false → DeterminedIs l r.packed r.early (kind_of plan p) true → Common w (AgreesWith c w y states) p)
      → ((p : ℕ) → p < c.n → is_known states p ≡ false → DeterminedIs l r.packed r.early (kind_of plan p) false → Differs c w y states x p)
      → FilledDetermined w r l plan x states s' m' → Outcome c w y states s' m' true
  outcome-some x A r l plan sx f g F = (
    x,
    record {
      symbols-size = F.symbols-size ∙ sx;
      states-size = F.states-size ∙ sm;
      agrees = A;
      known = λ i h e. let U = (F.each i (below i h)).known e in record { state = U.state ∙ known-state states i e; bytes = λ b k. U.bytes b k ∙ A.same i h e b k };
      missing = λ i h e. go i h e ((F.each i (below i h)).missing e);
    },
  )
    where
      below : (i : ℕ) → i < c.n → i < length states
      below i h = subst (λ (n : ℕ). i < n) (sym sm) h

      go : (i : ℕ) → i < c.n → is_known states i ≡ false → DeterminedAt w r.early r.packed l plan x s' m' i ⊎ DependsOnPivot w r.early r.packed l plan s' m' i
          → Fills c w y states x s' m' i ⊎ (Leaves w s' m' i × Differs c w y states x i)
      go i h e (inl S) = inl (record { state = S.state; bytes = S.bytes; common = f i h e S.determined })
      go i h e (inr H) = inr (H.leaves, g i h e H.determined)

-- ---- without pivots

module _ {c : Checks} {w : ℕ} {states : List ℕ} {plan : Arrays} {y : List ℕ} {early steps pivots : ℕ} (none : pivots ≡ 0) (L : Peeled c w y states plan y early steps pivots) (sm : length states ≡ c.n) where
  pub by-steps_no : (r : Bool) → HoldIs c w plan y r → r ≡ false → (s' m' : List ℕ) → Cleared w y states s' m' (length states) → length s' ≡ length y → length m' ≡ length states → Outcome c w y states s' m' false
  by-steps_no r H e s' m' C es em =
      outcome_no c w y states s' m' L.values.size sm
      (steps-only_refuted c w y states plan y early steps pivots none L.made L.closed L.values (subst (HoldIs c w plan y) e H)) C es em

  pub by-steps-yes : (r : Bool) → HoldIs c w plan y r → r ≡ true → ((t : ℕ) → get_or y t 0 < 256) → (m' : List ℕ) → FilledMissing states m' → Outcome c w y states y m' true
  by-steps-yes r H e bytes m' F =
      outcome_all c w y states m' m' L.values.size sm y
      (steps-only-agrees c w y states plan y early steps pivots none L.made L.closed L.values bytes (subst (HoldIs c w plan y) e H))
      (steps-only-common c w y states plan y early steps pivots none L.made L.closed L.values) L.values.size F

-- ---- with pivots: where the rows stand

-- what peeling left, by the numbers of the rows, which fit into as many words as the caller lends
pub record Ready (s : Shape) (block states : List ℕ) (plan : Arrays) (y : List ℕ) (r : Rows) : Type 0 where
  pub peeled : Peeled (checks s) s.w block states plan y r.early r.steps r.pivots
  pub all : r.steps + r.rest ≡ (checks s).m
  pub room : Room (checks s) r ((checks s).m * ((checks s).n / 64 + 1))

pub ready : {s : Shape} {t : ClassTable} {block states : List ℕ} {plan : Arrays} {y : List ℕ} {early steps pivots : ℕ} → Table s t → Peeled (checks s) s.w block states plan y early steps pivots
    → (r : Rows) → (r.early ≡ early) × (r.steps ≡ steps) × (r.pivots ≡ pivots) → r.steps + r.rest ≡ s.layout.m → r.packed ≡ (pivots + 63) / 64
    → Ready s block states plan y r
unfolding staircase
ready {s} {pivots = pivots} T L r e all packed =
    let v = valid_of s.number T.shaped.known in
    let n : n_of (code_of s.number) ≡ 64 * (n_of (code_of s.number) / 64) = sym v.packed in
    let p : pivots ≤ n_of (code_of s.number) = L.made.pivots_few in
    let h : r.packed + 1 ≤ n_of (code_of s.number) / 64 + 1 = omega arith in
    record {
      peeled = rw (e.0, e.1, e.2) L;
      all = all ∙ layout-rows T;
      room = record { fit = mul-le-mul_left (code_of s.number).m h };
    }

pub room_at : {c : Checks} {r : Rows} {size size' : ℕ} → size' ≡ size → Room c r size → Room c r size'
room_at e R = record { fit = omega (arith, R.fit) }

pub rows-room : {c : Checks} {w size bytes : ℕ} {r : Rows} → r.steps + r.rest ≡ c.m → Room c r size → bytes ≡ c.m * w → RowsRoom r w size bytes
rows-room {c} {w} {size} {bytes} {r} all room e =
    let f : (r.steps + r.rest) * (r.packed + 1) ≤ size = subst (λ (k : ℕ). k * (r.packed + 1) ≤ size) (sym all) room.fit in
    let h : r.rest * w ≤ c.m * w = mul-le-mul_right w (omega arith) in
    record { fit = omega (arith, add-mul r.steps r.rest (r.packed + 1)); sides = omega arith }

-- ---- with pivots: what each function asks, and the outcome

module _ {c : Checks} {w : ℕ} {states : List ℕ} {plan : Arrays} {y : List ℕ} {r : Rows} {l d : List ℕ} (G : Solvable c w states plan y r l d) where
  setting : Setting c w y states plan y G.equations.rows (behind r.packed r.steps G.equations.rows) G.equations.sides (behind r.packed r.steps l) d
      r.packed r.early r.steps r.pivots r.rest
  setting =
      let E = G.equations in
      record {
        made = G.peeled.made;
        closed = G.peeled.closed;
        unsolved = G.peeled.unsolved;
        values = G.peeled.values;
        step-rows = E.step-rows;
        system =
            record {
              count = E.count;
              bits = λ j i h u g. ap (λ (b : Bool). pick b 1) (behind_bit E.rows r.packed r.steps (unused_below plan j) i) ∙ E.rest-rows j i h u g;
              sides = E.sums;
            };
        room = r.enough;
        same = E.same;
        reduced = E.reduced;
        some = G.some;
      }

  -- the reduced rows stand behind the steps
  back : Behind (behind r.packed r.steps l) l r.packed r.steps r.rest
  back = record { rows = λ i k h g. sym (behind-at l r.packed r.steps i k) }

  all_rows : r.steps + r.rest ≡ c.m
  all_rows = omega (arith, G.peeled.made.steps-unused, G.equations.count)

  pub put_asks : (Planned c plan r × Unsolved plan r.pivots)
      × (((r.steps + r.rest) * (r.packed + 1) ≤ length l)
      × (((length y ≡ c.n * w) × (r.rest * w ≤ length d)) × ((i : ℕ) → i < r.rest → pivot_word l r.packed (r.steps + i) ≤ r.pivots)))
  put_asks =
      let L = G.peeled in
      let R = rows-room {w = w} {r = r} all_rows G.room G.sides in (
        (record { states = states; made = L.made; closed = L.closed }, L.unsolved),
        (
          omega (arith, R.fit, add-mul r.steps r.rest (r.packed + 1)),
          ((L.values.size, R.sides), behind-below setting back),
        ),
      )

  module _ {plan' : Arrays} {between : List ℕ} (Q : Put c w r.packed r.steps r.rest r.pivots l d plan y plan' between) where
    planned : Planned c plan' r
    planned = record { states = states; made = (plan_put setting back Q).0; closed = (plan_put setting back Q).1 }

    pub restore_asks : Planned c plan' r × ((length between ≡ c.n * w) × StepsHold c w plan' between r.early)
    restore_asks = (planned, (Q.symbols-size ∙ G.peeled.values.size, early_holds setting back Q))

  module _ (sm : length states ≡ c.n) where
    -- no codeword agrees
    pub by-rows_no : (h : Bool) → ConsistentIs (behind r.packed r.steps l) d r.rest r.packed w h → h ≡ false → (s' m' : List ℕ) → Cleared w y states s' m' (length states)
        → length s' ≡ length y → length m' ≡ length states → Outcome c w y states s' m' false
    by-rows_no h A e s' m' C es em =
        outcome_no c w y states s' m' G.peeled.values.size sm (refuted setting (subst (ConsistentIs (behind r.packed r.steps l) d r.rest r.packed w) e A)) C es em

    module _ {plan' : Arrays} {x : List ℕ} (I : PutIn c w r l d plan y plan' x) where
      pub steps_asks : Planned c plan' r × (Room c r (length l) × Places c plan' l r.packed r.steps c.m)
      steps_asks = (planned I.put, (G.room, places setting back I.put))

      module _ {l'' : List ℕ} (X : StepsExpressed c plan' l'' r.packed r.early r.steps) (F : SameFrom l l'' r.packed r.steps) where
        pub fill_asks : FillRoom r (length l'') (length states)
            × ((length x ≡ length states * w) × ((p : ℕ) → p < length states → is_known states p ≡ false → Readable r l'' plan' p))
        fill_asks =
            let p = (plan_put setting back I.put).0 in (
              record {
                fit = subst (λ (k : ℕ). k * (r.packed + 1) ≤ length l'') (sym all_rows) (omega (arith, G.room.fit, F.size));
                positions = omega (arith, sm, p.positions);
              },
              (
                I.restored.size ∙ I.put.symbols-size ∙ G.peeled.values.size ∙ ap (λ (n : ℕ). n * w) (sym sm),
                λ q h e.
                    let k : q < c.n = subst (λ (n : ℕ). q < n) sm h in
                    (record { reads = subst (λ (n : ℕ). Reads l'' r.packed r.early n n (kind_of plan' q)) (sym all_rows) (reads setting back I.put I.restored X F q k); here = reads_here setting back I.put I.restored X F q k }),
              ),
            )

      module _ (K : Consistent (behind r.packed r.steps l) d r.rest r.packed w) (bytes : (t : ℕ) → get_or x t 0 < 256) where
        agrees : AgreesWith c w y states x
        agrees = confirmed setting back I.put I.restored bytes K

        -- every pivot is solved
        pub by-rows_all : (h : Bool) → AllSolvedIs plan' r.pivots h → h ≡ true → (m' : List ℕ) → FilledMissing states m' → Outcome c w y states x m' true
        by-rows_all h A e m' F =
            outcome_all c w y states m' m' G.peeled.values.size sm x agrees (all_common setting back I.put (subst (AllSolvedIs plan' r.pivots) e A)) agrees.size F

        -- some are free: l'' says what depends on them
        pub by-rows-some : {l'' : List ℕ} → StepsExpressed c plan' l'' r.packed r.early r.steps → SameFrom l l'' r.packed r.steps → (s' m' : List ℕ)
            → FilledDetermined w r l'' plan' x states s' m' → Outcome c w y states s' m' true
        by-rows-some {l''} X F s' m' D =
            outcome-some c w y states s' m' G.peeled.values.size sm x agrees r l'' plan' agrees.size
            (λ p h e. determined setting back I.put I.restored X F p h) (λ p h e. undetermined setting back I.put I.restored X F bytes K p h) D
