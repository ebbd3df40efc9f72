-- What a position depends on once the pivots are put in: a symbol that depends on no free pivot is common to all words that agree, and one that depends
-- on a free pivot is not. The names are those of ReadOff.antt; l'' has the steps' rows of the plan after Put.
-- Assumes nothing.
use mathlib.Core.Path.{◌≡◌, refl, sym, ap, ap₂, ◌∙◌, subst}
use mathlib.Core.Logic.{◌⊎◌, ◌≢◌, inl, inr}
use mathlib.Core.Bool.{Bool, true, false, xor}
use mathlib.Core.List.{List}
use Prim.Native.Nat.{ℕ, ◌+◌, ◌-◌, ◌*◌, ◌/◌, ◌%◌, ◌<◌, ◌≤◌}
use native.Mathlib.Nat.{mul-le-mul_right}
use native.Mathlib.Omega.{arith}
use lib.Arith.{digits_div, digits_mod, digits_lt}
use lib.Dec.{eqb, lit<}
use lib.ListN.{get_or, get_or-eq_default}
use borrow.Author.Tests.{eq-eqb, ne_eqb, eqb-true}
use Rattle.algebra.specs.Sums.{◌⊕◌, pick, sum}
use Rattle.algebra.specs.Lists.{tab}
use Rattle.algebra.specs.Codeword.{Checks, byte_at}
use Rattle.peeling.specs.States.{is_known}
use Rattle.algebra.specs.Unique.{Common}
use Rattle.decoder.specs.Outcome.{AgreesWith}
use Rattle.algebra.proofs.Sums.{unit, unit_l, cancel_l, self, add_byte, add_ne, sum_ext, sum-none, sum-only, sum_tests, sum_terms, sum-xor, sum_zeros}
use Rattle.algebra.proofs.Lists.{length-tab, get_d_tab}
use Rattle.elimination.specs.Bits.{test_bit, row_bit}
use Rattle.elimination.specs.Reduced.{pivot_word, Pivot, RowReduced}
use Rattle.elimination.specs.Consistency.{Consistent}
use Rattle.elimination.proofs.Order.{lt_or_le, eq_or_ne}
use Rattle.peeling.specs.Plan.{Arrays, kind_of, row_of, pivot_of, Plan, Closed}
use Rattle.peeling.specs.Values.{StepsRestored}
use Rattle.pivot_equations.specs.Express.{depends_on, Reads, StepsExpressed, SameFrom}
use Rattle.decoder.specs.Pivots.{Solved, Free, Put, DeterminedIs}
use Rattle.decoder.specs.Outcome.{Differs}
use Rattle.decoder.proofs.Triangle.{sum_add, pick-one, vanishes, expressed, plan_triangular}
use Rattle.peeling.proofs.StepLaws.{few-steps, IsPivot, kind_cases}
use Rattle.pivot_equations.proofs.Dependence.{depends_none, depends_pivot, depends_solved}
use Rattle.pivot_equations.proofs.RowChanges.{xor-false}
use Rattle.decoder.proofs.Solutions.{Along, agreeing_along, high_absent}
use Rattle.decoder.proofs.ReadOff.{clash, row_here, row-others, Setting, pivot_byte, Behind, agrees-reduced, solves-reduced, pivot-below}
use Rattle.decoder.proofs.ReadOff.{word-behind, pivot-few, kind-same, row_same, plan_put, places, solved-word, row-solved, other_free}
use Rattle.decoder.proofs.ReadOff.{x_row, x_free, x_known, x_holds, x_solves}

-- ---- sums and tests

-- numbers that share a test
sum_picks : (t : Bool) (a : ℕ → Bool) (x : ℕ → ℕ) (n : ℕ) → sum a (λ p. pick t (x p)) n ≡ pick t (sum a x n)
sum_picks true a x n = refl
sum_picks false a x n = sum_zeros a n

pick-none : (b : Bool) → pick b 0 ≡ 0
pick-none true = refl
pick-none false = refl

xor_on : (a : Bool) → xor false a ≡ a
unfolding xor
xor_on true = refl
xor_on false = refl

xor_self : (a : Bool) → xor a a ≡ false
unfolding xor
xor_self true = refl
xor_self false = refl

-- ---- the setting, after Put, with the steps restored and their expressions made again

module _ {c : Checks} {w : ℕ} {block states : List ℕ} {plan : Arrays} {y l lr d lr' d' : List ℕ} {words early steps pivots rest : ℕ}
    (G : Setting c w block states plan y l lr d lr' d' words early steps pivots rest) {lw : List ℕ} {plan' : Arrays} {y' x l'' : List ℕ}
    (B : Behind lr' lw words steps rest) (Q : Put c w words steps rest pivots lw d' plan y plan' y') (A : StepsRestored c w plan' y' x early steps)
    (X : StepsExpressed c plan' l'' words early steps) (F : SameFrom lw l'' words steps) where
  abbrev IsSolved : ℕ → Type 0
  IsSolved u = Solved w words steps rest lw d' plan' y' u (pivot_of plan u)

  abbrev IsFree : ℕ → Type 0
  IsFree u = Free w words steps rest lw plan y plan' y' u (pivot_of plan u)

  -- position p depends on pivot i
  abbrev D : ℕ → ℕ → Bool
  D p i = depends_on l'' words early (kind_of plan' p) i

  few_early : early ≤ 1024
  few_early = omega (arith, G.made.early_steps, few-steps G.made)

  -- the rows behind the steps are the reduced rows still
  kept : (r k : ℕ) → steps ≤ r → get_or l'' (r * (words + 1) + k) 0 ≡ get_or lw (r * (words + 1) + k) 0
  kept r k h = F.behind (r * (words + 1) + k) (let j : steps * (words + 1) ≤ r * (words + 1) = mul-le-mul_right (words + 1) h in omega arith)

  row_kept : (r k : ℕ) → r < rest → k < words + 1 → get_or l'' ((steps + r) * (words + 1) + k) 0 ≡ get_or lr' (r * (words + 1) + k) 0
  row_kept r k hr hk = kept (steps + r) k (omega arith) ∙ B.rows r k hr hk

  word-solved : {u : ℕ} (s : IsSolved u) → pivot_word l'' words (steps + s.row) ≡ u + 1
  word-solved s = kept (steps + s.row) words (omega arith) ∙ s.word

  bit_kept : (r i : ℕ) → r < rest → i < 64 * words → row_bit l'' ((steps + r) * (words + 1)) i ≡ row_bit lr' (r * (words + 1)) i
  unfolding row_bit
  bit_kept r i hr hi = ap (λ (x : ℕ). test_bit x (i % 64)) (row_kept r (i / 64) hr (omega arith))

  -- what `dependence::determined` asks: where position p's expression stands, and that a solved pivot's row has it
  pub reads : (p : ℕ) → p < c.n → Reads l'' words early c.m c.m (kind_of plan' p)
  reads p hp = record {
    step = λ h k. step h k (kind_cases P'.0 P'.1 p hp);
    pivot = λ h k. (places G B Q p hp h).0 k;
    solved = λ h.
        let s = (places G B Q p hp (omega arith)).1 h in
        let e : pivot_word l'' words (kind_of plan' p - 4097) ≡ pivot_word lw words (kind_of plan' p - 4097) = kept (kind_of plan' p - 4097) words s.0 in
        (λ q. omega (arith, s.1.0), (s.1.0, (omega (arith, s.1.1.0), omega (arith, s.1.1.1))));
  }
    where
      P' : Plan c states plan' early steps pivots × Closed c plan'
      P' = plan_put G B Q

      step : early < kind_of plan' p → kind_of plan' p ≤ 1024 → (kind_of plan' p ≤ steps) ⊎ IsPivot plan' pivots p → (kind_of plan' p - 1 ≢ c.m) × (kind_of plan' p - 1 < c.m)
      step h k (inl e) = (λ q. omega (arith, G.made.steps-unused), omega (arith, G.made.steps-unused))
      step h k (inr (u, (hu, e))) = let f : 1024 < kind_of plan' p = subst (λ (q : ℕ). 1024 < kind_of plan' q) e (P'.0.pivot u hu).kind.0 in absurd (omega arith)

  pub reads_here : (p : ℕ) → p < c.n → 4096 < kind_of plan' p
      → row_bit l'' ((kind_of plan' p - 4097) * (words + 1)) (pivot_word l'' words (kind_of plan' p - 4097) - 1) ≡ true
  reads_here p hp h = go (kind_cases G.made G.closed p hp)
    where
      Here : Type 0
      Here = row_bit l'' ((kind_of plan' p - 4097) * (words + 1)) (pivot_word l'' words (kind_of plan' p - 4097) - 1) ≡ true

      pivot : (u : ℕ) → u < pivots → pivot_of plan u ≡ p → IsSolved u ⊎ IsFree u → Here
      pivot u hu e (inl s) =
          let k : kind_of plan' p ≡ 4097 + (steps + s.row) = ap (kind_of plan') (sym e) ∙ s.kind in
          let j : kind_of plan' p - 4097 ≡ steps + s.row = omega arith in
          let v : pivot_word l'' words (kind_of plan' p - 4097) - 1 ≡ u = omega (arith, ap (pivot_word l'' words) j, word-solved s) in
          ap₂ (λ (r q : ℕ). row_bit l'' (r * (words + 1)) q) j v
          ∙ bit_kept s.row u s.below (omega (arith, G.room)) ∙ row_here lr' rest words G.reduced s.row u s.below (solved-word G B Q s)
      pivot u hu e (inr f) = let k : kind_of plan' p ≡ 1025 + u = ap (kind_of plan') (sym e) ∙ f.kind ∙ G.unsolved u hu in absurd (omega (arith, pivot-few G B Q u hu))

      go : (kind_of plan p ≤ steps) ⊎ IsPivot plan pivots p → Here
      go (inl k) = absurd (omega (arith, kind-same G B Q p k, few-steps G.made))
      go (inr (u, (hu, e))) = pivot u hu e (Q.pivot u hu)

  known_depends : (p i : ℕ) → p < c.n → is_known states p ≡ true → D p i ≡ false
  known_depends p i hp e = depends_none l'' words early (kind_of plan' p) i (omega (arith, (plan_put G B Q).0.known p hp e))

  free_depends : (u i : ℕ) → u < pivots → IsFree u → D (pivot_of plan u) i ≡ eqb i u
  free_depends u i hu f =
      let k : kind_of plan' (pivot_of plan u) ≡ 1025 + u = f.kind ∙ G.unsolved u hu in
      depends_pivot l'' words early (kind_of plan' (pivot_of plan u)) i u (omega (arith, few_early)) k (pivot-few G B Q u hu)

  solved_depends : (u i : ℕ) (s : IsSolved u) → i < 64 * words → D (pivot_of plan u) i ≡ xor (row_bit lr' (s.row * (words + 1)) i) (eqb i u)
  solved_depends u i s hi =
      depends_solved l'' words early (kind_of plan' (pivot_of plan u)) i (steps + s.row) u (omega (arith, few_early, s.kind)) s.kind (omega (arith, word-solved s))
      ∙ ap (λ (b : Bool). xor b (eqb i u)) (bit_kept s.row i s.below hi)

  -- a word that agrees is x plus the pivots that each position depends on
  spread : (z : List ℕ) → AgreesWith c w block states z → (p b : ℕ) → p < c.n → b < w
      → byte_at w z b p ≡ byte_at w x b p ⊕ sum (D p) (λ u. pivot_byte w plan z u b) pivots
  spread z a p b hp hb =
      expressed (plan_triangular G.made G.closed) (byte_at w z b) (byte_at w x b) D v pivots
      (λ q hq e. a.same q hq e b hb ∙ sym (x_known G B Q A q b hq hb e) ∙ sym (unit (byte_at w x b q))
      ∙ ap (◌⊕◌ (byte_at w x b q)) (sym (sum-none (D q) v pivots (λ i h. known_depends q i hq e))))
      (λ u hu. at-pivot u hu (Q.pivot u hu))
      (λ t ht. (agreeing_along G.made a).holds t b ht hb) (λ t ht. x_holds G B Q A t b ht hb)
      (λ t i ht hi. rw (row_same G B Q t) at (X t i ht (omega (arith, G.room)))) p hp
    where
      v : ℕ → ℕ
      v u = pivot_byte w plan z u b

      alone : (u : ℕ) → u < pivots → sum (λ i. eqb i u) v pivots ≡ v u
      alone u hu = sum-only (λ i. eqb i u) v u pivots hu (eq-eqb u u refl) (λ i h e. eqb-true i u e)

      at-pivot : (u : ℕ) → u < pivots → IsSolved u ⊎ IsFree u → v u ≡ byte_at w x b (pivot_of plan u) ⊕ sum (D (pivot_of plan u)) v pivots
      at-pivot u hu (inl s) =
          let row : ℕ → Bool = row_bit lr' (s.row * (words + 1)) in
          let e : byte_at w x b (pivot_of plan u) ≡ sum row v pivots = x_row G B Q A s.row u b s.below (solved-word G B Q s) hb ∙ sym (solves-reduced G a s.row b s.below hb) in
          sym (ap₂ ◌⊕◌ e (sum_tests (D (pivot_of plan u)) (λ i. xor (row i) (eqb i u)) v pivots (λ i h. solved_depends u i s (omega (arith, G.room)))
          ∙ sum-xor row (λ i. eqb i u) v pivots ∙ ap (◌⊕◌ (sum row v pivots)) (alone u hu))
          ∙ cancel_l (sum row v pivots) (v u))
      at-pivot u hu (inr f) =
          sym (ap₂ ◌⊕◌ (x_free G B Q A u b hu hb f) (sum_tests (D (pivot_of plan u)) (λ i. eqb i u) v pivots (λ i h. free_depends u i hu f) ∙ alone u hu) ∙ unit_l (v u))

  -- a position that depends on no pivot
  pub determined : (p : ℕ) → p < c.n → DeterminedIs l'' words early (kind_of plan' p) true → Common w (AgreesWith c w block states) p
  determined p hp none z z' a a' b hb = same z a ∙ sym (same z' a')
    where
      same : (z : List ℕ) → AgreesWith c w block states z → byte_at w z b p ≡ byte_at w x b p
      same z a =
          spread z a p b hp hb
          ∙ ap (◌⊕◌ (byte_at w x b p)) (sum-none (D p) (λ u. pivot_byte w plan z u b) pivots (λ i h. none i (omega (arith, G.room))))
          ∙ unit (byte_at w x b p)

  -- on a pivot on which no pivot depends, nothing does
  absent : (i : ℕ) → i < 64 * words → ((u : ℕ) → u < pivots → D (pivot_of plan u) i ≡ false) → (p : ℕ) → p < c.n → D p i ≡ false
  absent i hi none p hp =
      pick-one (D p i) false (vanishes (plan_triangular G.made G.closed) (λ q. pick (D q i) 1)
      (λ q hq e. ap (λ (b : Bool). pick b 1) (known_depends q i hq e)) (λ u hu. ap (λ (b : Bool). pick b 1) (none u hu))
      (λ t ht. rw (row_same G B Q t) at (X t i ht hi)) p hp)

  -- so a position depends on free pivots only
  loose : (p i : ℕ) → p < c.n → i < 64 * words → D p i ≡ true → (i < pivots) × IsFree i
  loose p i hp hi t = go (lt_or_le i pivots)
    where
      high : pivots ≤ i → (u : ℕ) → u < pivots → IsSolved u ⊎ IsFree u → D (pivot_of plan u) i ≡ false
      high h u hu (inl s) =
          solved_depends u i s hi
          ∙ ap₂ xor (G.same.absent i hi (high_absent G.made G.closed G.unsolved G.values G.step-rows G.system G.room i h hi) s.row s.below)
          (ne_eqb i u (λ e. omega arith)) ∙ xor-false false
      high h u hu (inr f) = free_depends u i hu f ∙ ne_eqb i u (λ e. omega arith)

      rows : (s : IsSolved i) (u : ℕ) → (q : IsSolved u) → (u ≡ i) ⊎ (u ≢ i) → D (pivot_of plan u) i ≡ false
      rows s u q (inl e) =
          solved_depends u i q hi
          ∙ ap₂ xor (row_here lr' rest words G.reduced q.row i q.below (solved-word G B Q q ∙ ap (λ (v : ℕ). v + 1) e)) (eq-eqb i u (sym e)) ∙ xor_self true
      rows s u q (inr ne) =
          let away : q.row ≢ s.row = λ e. let k : u + 1 ≡ i + 1 = sym (solved-word G B Q q) ∙ ap (pivot_word lr' words) e ∙ solved-word G B Q s in ne (omega arith) in
          solved_depends u i q hi
          ∙ ap₂ xor (row-others lr' rest words G.reduced s.row q.row i s.below q.below away (solved-word G B Q s)) (ne_eqb i u (λ e. ne (sym e))) ∙ xor-false false

      low : IsSolved i → (u : ℕ) → u < pivots → IsSolved u ⊎ IsFree u → D (pivot_of plan u) i ≡ false
      low s u hu (inl q) = rows s u q (eq_or_ne u i)
      low s u hu (inr f) = free_depends u i hu f ∙ ne_eqb i u (λ e. f.none s.row s.below (s.word ∙ ap (λ (v : ℕ). v + 1) e))

      its : i < pivots → IsSolved i ⊎ IsFree i → (i < pivots) × IsFree i
      its h (inl s) = absurd (clash t (absent i hi (λ u hu. low s u hu (Q.pivot u hu)) p hp))
      its h (inr f) = (h, f)

      go : (i < pivots) ⊎ (pivots ≤ i) → (i < pivots) × IsFree i
      go (inl h) = its h (Q.pivot i h)
      go (inr h) = absurd (clash t (absent i hi (λ u hu. high h u hu (Q.pivot u hu)) p hp))

  -- ---- x with 1 added to the first byte of each symbol that depends on free pivot i

  module _ (bytes : (t : ℕ) → get_or x t 0 < 256) (consistent : Consistent lr' d' rest words w) (i : ℕ) (hi : i < pivots) (f : IsFree i) where
    abbrev change : ℕ → ℕ → ℕ
    change b p = pick (eqb b 0) (pick (D p i) 1)

    abbrev moved : List ℕ
    moved = tab (c.n * w) (λ t. get_or x t 0 ⊕ change (t % w) (t / w))

    moved_byte : (p b : ℕ) → p < c.n → b < w → byte_at w moved b p ≡ byte_at w x b p ⊕ change b p
    moved_byte p b hp hb =
        get_d_tab (c.n * w) (λ t. get_or x t 0 ⊕ change (t % w) (t / w)) 0 (p * w + b) (digits_lt hp hb)
        ∙ ap₂ (λ (e q : ℕ). byte_at w x b p ⊕ change e q) (digits_mod p hb) (digits_div p hb)

    moved_bytes : (t : ℕ) → get_or moved t 0 < 256
    moved_bytes t = go (lt_or_le t (c.n * w))
      where
        small : (a b : Bool) → pick a (pick b 1) < 256
        small true true = lit< tt
        small true false = lit< tt
        small false b = lit< tt

        go : (t < c.n * w) ⊎ (c.n * w ≤ t) → get_or moved t 0 < 256
        go (inl h) =
            subst (λ (v : ℕ). v < 256) (sym (get_d_tab (c.n * w) (λ s. get_or x s 0 ⊕ change (s % w) (s / w)) 0 t h))
            (add_byte (get_or x t 0) (change (t % w) (t / w)) (bytes t) (small (eqb (t % w) 0) (D (t / w) i)))
        go (inr h) =
            subst (λ (v : ℕ). v < 256)
            (sym (get_or-eq_default moved 0 {n = t} (subst (λ (v : ℕ). v ≤ t) (sym (length-tab (c.n * w) (λ s. get_or x s 0 ⊕ change (s % w) (s / w)))) h))) (lit< tt)

    -- a sum to which the change adds nothing
    moved_sum : (a : ℕ → Bool) (at : ℕ → ℕ) (b n : ℕ) → b < w → ((q : ℕ) → q < n → at q < c.n) → sum a (λ q. pick (D (at q) i) 1) n ≡ 0
        → sum a (λ q. byte_at w moved b (at q)) n ≡ sum a (λ q. byte_at w x b (at q)) n
    moved_sum a at b n hb inside e =
        sum_ext a (λ q. byte_at w moved b (at q)) (λ q. byte_at w x b (at q) ⊕ change b (at q)) n (λ q h. moved_byte (at q) b (inside q h) hb)
        ∙ sum_add a (λ q. byte_at w x b (at q)) (λ q. change b (at q)) n
        ∙ ap (◌⊕◌ (sum a (λ q. byte_at w x b (at q)) n)) (sum_picks (eqb b 0) a (λ q. pick (D (at q) i) 1) n ∙ ap (pick (eqb b 0)) e ∙ pick-none (eqb b 0))
        ∙ unit (sum a (λ q. byte_at w x b (at q)) n)

    moved_along : Along c w block states plan moved steps
    moved_along = record {
      size = length-tab (c.n * w) (λ t. get_or x t 0 ⊕ change (t % w) (t / w));
      bytes = moved_bytes;
      known-byte = λ p b hp hb e.
          moved_byte p b hp hb
          ∙ ap₂ ◌⊕◌ (x_known G B Q A p b hp hb e) (ap (λ (k : Bool). pick (eqb b 0) (pick k 1)) (known_depends p i hp e) ∙ pick-none (eqb b 0)) ∙ unit (byte_at w block b p);
      holds = λ t b ht hb.
          moved_sum (c.has (row_of plan t)) (λ q. q) b c.n hb (λ q h. h) (rw (row_same G B Q t) at (X t i ht (omega (arith, G.room)))) ∙ x_holds G B Q A t b ht hb;
    }

    -- a reduced row has its pivot and i, or neither
    row_moved : (r : ℕ) → r < rest → sum (row_bit lr' (r * (words + 1))) (λ q. pick (D (pivot_of plan q) i) 1) pivots ≡ 0
    row_moved r hr = go (G.reduced r hr)
      where
        row : ℕ → Bool
        row = row_bit lr' (r * (words + 1))

        pivot-row : Pivot lr' rest words r → sum row (λ q. pick (D (pivot_of plan q) i) 1) pivots ≡ 0
        pivot-row v =
            sum_terms row (λ q. xor (eqb q at) (eqb q i)) (λ q. pick (D (pivot_of plan q) i) 1) (λ q. pick (row i) 1) pivots (λ q hq. term q hq (eq_or_ne q at) (eq_or_ne q i) (row q) refl)
            ∙ sum-xor (λ q. eqb q at) (λ q. eqb q i) (λ q. pick (row i) 1) pivots
            ∙ ap₂ ◌⊕◌ (one at (pivot-below G r at hr v.word)) (one i hi) ∙ self (pick (row i) 1)
          where
            at : ℕ
            at = v.at

            apart : at ≢ i
            apart e = f.none r hr (word-behind G B r hr ∙ v.word ∙ ap (λ (u : ℕ). u + 1) e)

            one : (u : ℕ) → u < pivots → sum (λ q. eqb q u) (λ q. pick (row i) 1) pivots ≡ pick (row i) 1
            one u hu = sum-only (λ q. eqb q u) (λ q. pick (row i) 1) u pivots hu (eq-eqb u u refl) (λ q h e. eqb-true q u e)

            at_depends : D (pivot_of plan at) i ≡ row i
            at_depends =
                let s = row-solved G B Q r at hr v.word in
                solved_depends at i s.0 (omega (arith, G.room))
                ∙ ap₂ (λ (j : ℕ) (b : Bool). xor (row_bit lr' (j * (words + 1)) i) b) s.1 (ne_eqb i at (λ e. apart (sym e))) ∙ xor-false (row i)

            term : (q : ℕ) → q < pivots → (q ≡ at) ⊎ (q ≢ at) → (q ≡ i) ⊎ (q ≢ i) → (b : Bool) → row q ≡ b
                → pick (row q) (pick (D (pivot_of plan q) i) 1) ≡ pick (xor (eqb q at) (eqb q i)) (pick (row i) 1)
            term q hq (inl e) (inl k) b t = absurd (apart (sym e ∙ k))
            term q hq (inl e) (inr k) b t =
                ap₂ (λ (a h : Bool). pick a (pick h 1)) (ap row e ∙ v.here) (ap (λ (u : ℕ). D (pivot_of plan u) i) e ∙ at_depends)
                ∙ sym (ap (λ (a : Bool). pick a (pick (row i) 1)) (ap₂ xor (eq-eqb q at e) (ne_eqb q i k) ∙ xor-false true))
            term q hq (inr e) (inl k) b t =
                ap₂ (λ (a h : Bool). pick a (pick h 1)) (ap row k) (ap (λ (u : ℕ). D (pivot_of plan u) i) k ∙ free_depends i i hi f ∙ eq-eqb i i refl)
                ∙ sym (ap (λ (a : Bool). pick a (pick (row i) 1)) (ap₂ xor (ne_eqb q at e) (eq-eqb q i k) ∙ xor_on true))
            term q hq (inr e) (inr k) true t =
                ap (λ (h : Bool). pick (row q) (pick h 1)) (free_depends q i hq (other_free G B Q r at q hr v.word hq e t) ∙ ne_eqb i q (λ j. k (sym j))) ∙ pick-none (row q)
                ∙ sym (ap (λ (a : Bool). pick a (pick (row i) 1)) (ap₂ xor (ne_eqb q at e) (ne_eqb q i k) ∙ xor-false false))
            term q hq (inr e) (inr k) false t =
                ap (λ (a : Bool). pick a (pick (D (pivot_of plan q) i) 1)) t
                ∙ sym (ap (λ (a : Bool). pick a (pick (row i) 1)) (ap₂ xor (ne_eqb q at e) (ne_eqb q i k) ∙ xor-false false))

        go : RowReduced lr' rest words r → sum row (λ q. pick (D (pivot_of plan q) i) 1) pivots ≡ 0
        go (inl e) = sum-none row (λ q. pick (D (pivot_of plan q) i) 1) pivots (λ q h. e.clear q (omega (arith, G.room)))
        go (inr v) = pivot-row v

    moved_agrees : AgreesWith c w block states moved
    moved_agrees = (agrees-reduced G moved_along).1 (λ r b hr hb.
        moved_sum (row_bit lr' (r * (words + 1))) (pivot_of plan) b pivots hb (λ q h. (G.made.pivot q h).position) (row_moved r hr) ∙ x_solves G B Q A consistent r b hr hb)

    moved_differs : (p : ℕ) → p < c.n → D p i ≡ true → Differs c w block states x p
    moved_differs p hp t = (
      moved,
      (
        moved_agrees,
        (
          0,
          (
            G.some,
            λ e.
                add_ne 1 (λ k. omega arith) (byte_at w x 0 p) (sym e ∙ moved_byte p 0 hp G.some ∙ ap (λ (k : Bool). byte_at w x 0 p ⊕ pick (eqb 0 0) (pick k 1)) t),
          ),
        ),
      ),
    )

  -- a position that depends on a pivot
  pub undetermined : ((t : ℕ) → get_or x t 0 < 256) → Consistent lr' d' rest words w → (p : ℕ) → p < c.n → DeterminedIs l'' words early (kind_of plan' p) false → Differs c w block states x p
  undetermined bytes consistent p hp (i, (hi, t)) = let f = loose p i hp hi t in moved_differs bytes consistent i f.0 f.1 p hp t
