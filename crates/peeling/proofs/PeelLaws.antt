-- How far peeling has come: what stays as an open position is closed, and what a step and a pivot add.
-- Assumes nothing.
use Rattle.std.proofs.Common.{take, Option, None, ◌≡◌, ℕ, ◌+◌, ◌-◌, ◌*◌, ◌<◌, ◌≤◌, Bool, true, false, cond, eqb, ◌≢◌, ◌⊎◌, List, length, get_or, sym, refl, ap, ◌∙◌, subst, inl, inr, arith, eq-eqb, ne_eqb}
use mathlib.Core.Path.{subst⁻¹}
use native.Mathlib.Decide.{ℕ_discrete, dec_lt}
use Rattle.algebra.specs.Sums.{◌⊕◌}
use Rattle.algebra.specs.Codeword.{Checks, byte_at}
use Rattle.peeling.specs.States.{is_known}
use Rattle.algebra.proofs.Sums.{self, sum_cong, sum_ext}
use Rattle.algebra.proofs.Codeword.{slot}
use Rattle.symbol_sums.specs.Gather.{gathered, Inside, Replaced}
use Rattle.symbol_sums.proofs.Fronts.{none_front, restore_front}
use Rattle.encoder.specs.inner.Positions.{RowOf}
use Rattle.peeling.specs.Plan.{Arrays, kind_of, pivot_of, row_of, position_of, used_by, Before, Step, PutOff, Sort}
use Rattle.peeling.specs.Values.{row_sum, Peeled}
use Rattle.peeling.specs.Peel.{Opened, StepMade, OnlyOpen, NoneOpen, State}
use Rattle.peeling.specs.declared.peel.Progress.{Progress}
use Rattle.peeling.proofs.PlanLaws.{Settled, Deferred, settled}
use Rattle.peeling.proofs.StepLaws.{few-steps}
use Rattle.peeling.proofs.UnusedRows.{unused_all, unused-same, unused_settled, unused-some}
use Rattle.peeling.proofs.RowRest.{rest_of, sum-rest, rest_few, rest_inside, rest_ne, row_has}
use Rattle.peeling.proofs.SymbolLaws.{replaced_other}

-- ---- one open position x is closed

-- what closing x leaves as it was
pub record Keeps (c : Checks) (w steps pivots x : ℕ) (plan : Arrays) (symbols : List ℕ) (plan' : Arrays) (symbols' : List ℕ) : Type 0 where
  pub was : kind_of plan x ≡ 65535
  pub kinds : (p : ℕ) → p < c.n → p ≢ x → kind_of plan' p ≡ kind_of plan p
  pub pivot-same : (u : ℕ) → u < pivots → pivot_of plan' u ≡ pivot_of plan u
  pub row_same : (t : ℕ) → t < steps → row_of plan' t ≡ row_of plan t
  pub position-same : (t : ℕ) → t < steps → position_of plan' t ≡ position_of plan t
  pub symbols-size : length symbols' ≡ length symbols
  pub bytes : (p b : ℕ) → p ≢ x → b < w → byte_at w symbols' b p ≡ byte_at w symbols b p

-- a step, by its row and its position
step-at : {c : Checks} {states : List ℕ} {plan : Arrays} {early t : ℕ} (r p : ℕ) → row_of plan t ≡ r → position_of plan t ≡ p → r < c.m → p < c.n
    → is_known states p ≡ false → kind_of plan p ≡ t + 1 → c.has r p ≡ true → ((x : ℕ) → x < c.n → c.has r x ≡ true → x ≢ p → Before plan early t x)
    → Step c states plan early t
step-at {c} {states} {plan} {early} {t} r p er ep hr hp hm hk hh ho =
    record {
      row = subst⁻¹ (λ (r' : ℕ). r' < c.m) er hr;
      position = subst⁻¹ (λ (p' : ℕ). p' < c.n) ep hp;
      missing = subst⁻¹ (λ (p' : ℕ). is_known states p' ≡ false) ep hm;
      kind = subst⁻¹ (λ (p' : ℕ). kind_of plan p' ≡ t + 1) ep hk;
      has = subst⁻¹ (λ (r' : ℕ). c.has r' (position_of plan t) ≡ true) er (subst⁻¹ (λ (p' : ℕ). c.has r p' ≡ true) ep hh);
      others = λ x hx h d. ho x hx (subst (λ (r' : ℕ). c.has r' x ≡ true) er h) (λ e. d (e ∙ sym ep));
    }

module _ {c : Checks} {w : ℕ} {block states : List ℕ} {plan : Arrays} {symbols : List ℕ} {plan' : Arrays} {symbols' : List ℕ} {g : Progress} {x : ℕ} (S : State c w block states plan symbols g)
    (K : Keeps c w g.steps g.pivots x plan symbols plan' symbols') where
  closed_apart : (p : ℕ) → kind_of plan p ≢ 65535 → p ≢ x
  closed_apart p h e = h (ap (λ (k : ℕ). kind_of plan k) e ∙ K.was)

  closed-kept : (p : ℕ) → p < c.n → kind_of plan p ≢ 65535 → kind_of plan' p ≡ kind_of plan p
  closed-kept p h d = K.kinds p h (closed_apart p d)

  before-closed : (t p : ℕ) → t < g.steps → Before plan g.early t p → kind_of plan p ≢ 65535
  before-closed t p h (inl l) e = omega (arith, few-steps S.made)
  before-closed t p h (inr l) e = omega (arith, l.1.1)

  before-kept : (early' t p : ℕ) → t < g.steps → p < c.n → (g.early ≤ t → early' ≤ t) → Before plan g.early t p → Before plan' early' t p
  before-kept early' t p h hp e b = go b (closed-kept p hp (before-closed t p h b))
    where
      go : Before plan g.early t p → kind_of plan' p ≡ kind_of plan p → Before plan' early' t p
      go (inl l) f = inl (omega arith)
      go (inr l) f = inr (e l.0, (omega (arith, l.1.0), omega (arith, l.1.1)))

  step_kept : (early' t : ℕ) → t < g.steps → (g.early ≤ t → early' ≤ t) → Step c states plan' early' t
  step_kept early' t h e =
      let s = S.made.step t h in
      let d : kind_of plan (position_of plan t) ≢ 65535 = λ f. omega (arith, s.kind, few-steps S.made) in
      step-at (row_of plan t) (position_of plan t) (K.row_same t h) (K.position-same t h) s.row s.position s.missing
      (closed-kept (position_of plan t) s.position d ∙ s.kind) s.has (λ p hp i n. before-kept early' t p h hp e (s.others p hp i n))

  pivot_apart : (u : ℕ) → u < g.pivots → kind_of plan (pivot_of plan u) ≢ 65535
  pivot_apart u h e = omega (arith, (S.made.pivot u h).kind.1)

  pivot-kind : (u : ℕ) → u < g.pivots → kind_of plan' (pivot_of plan' u) ≡ kind_of plan (pivot_of plan u)
  pivot-kind u h = ap (λ (k : ℕ). kind_of plan' k) (K.pivot-same u h) ∙ closed-kept (pivot_of plan u) (S.made.pivot u h).position (pivot_apart u h)

  pivot-kept : (u : ℕ) → u < g.pivots → PutOff c states plan' u
  pivot-kept u h =
      let o = S.made.pivot u h in
      record {
        position = subst⁻¹ (λ (p : ℕ). p < c.n) (K.pivot-same u h) o.position;
        missing = subst⁻¹ (λ (p : ℕ). is_known states p ≡ false) (K.pivot-same u h) o.missing;
        kind = subst⁻¹ (λ (k : ℕ). (1024 < k) × (k < 65535)) (pivot-kind u h) o.kind;
      }

  known_apart : (p : ℕ) → p < c.n → is_known states p ≡ true → kind_of plan p ≢ 65535
  known_apart p hp h e = omega (arith, S.made.known p hp h)

  known_kept : (p : ℕ) → p < c.n → is_known states p ≡ true → kind_of plan' p ≡ 0
  known_kept p hp h = closed-kept p hp (known_apart p hp h) ∙ S.made.known p hp h

  missing-here : x < c.n → is_known states x ≡ false
  missing-here hx = go (is_known states x) refl
    where
      go : (b : Bool) → is_known states x ≡ b → is_known states x ≡ false
      go true e = absurd (known_apart x hx e K.was)
      go false e = e

  sort-kept : (steps' pivots' p : ℕ) → g.steps ≤ steps' → g.pivots ≤ pivots' → p < c.n → p ≢ x → is_known states p ≡ false → Sort plan' steps' pivots' p
  sort-kept steps' pivots' p hs hv hp d m = go (S.made.sort p hp m)
    where
      go : Sort plan g.steps g.pivots p → Sort plan' steps' pivots' p
      go (inl e) = inl (K.kinds p hp d ∙ e)
      go (inr (inl t)) = inr (inl (t.0, (omega (arith, t.1.0), K.position-same t.0 t.1.0 ∙ t.1.1)))
      go (inr (inr u)) = inr (inr (u.0, (omega (arith, u.1.0), K.pivot-same u.0 u.1.0 ∙ u.1.1)))

  unsolved-kept : (u : ℕ) → u < g.pivots → kind_of plan' (pivot_of plan' u) ≡ 1025 + u
  unsolved-kept u h = pivot-kind u h ∙ S.unsolved u h

  cursor_kept : (p : ℕ) → p < g.cursor → kind_of plan' p ≢ 65535
  cursor_kept p h e = S.closed p h (sym (closed-kept p (omega (arith, S.cursor_below)) (S.closed p h)) ∙ e)

  byte-kept : (p b : ℕ) → p < c.n → b < w → is_known states p ≡ true → byte_at w symbols' b p ≡ byte_at w block b p
  byte-kept p b hp hb h = K.bytes p b (closed_apart p (known_apart p hp h)) hb ∙ S.values.known-byte p b hp hb h

  pivot-byte-kept : (u b : ℕ) → u < g.pivots → b < w → byte_at w symbols' b (pivot_of plan' u) ≡ 0
  pivot-byte-kept u b h hb =
      ap (byte_at w symbols' b) (K.pivot-same u h) ∙ K.bytes (pivot_of plan u) b (closed_apart (pivot_of plan u) (pivot_apart u h)) hb ∙ S.values.pivot-byte u b h hb

  -- the check row of a step has no open position
  row-closed : (t p : ℕ) → t < g.steps → p < c.n → c.has (row_of plan t) p ≡ true → kind_of plan p ≢ 65535
  row-closed t p h hp i = go (ℕ_discrete p (position_of plan t))
    where
      go : Dec (p ≡ position_of plan t) → kind_of plan p ≢ 65535
      go (yes e) f = let k : kind_of plan p ≡ t + 1 = ap (λ (q : ℕ). kind_of plan q) e ∙ (S.made.step t h).kind in omega (arith, few-steps S.made)
      go (no d) f = before-closed t p h ((S.made.step t h).others p hp i d) f

  holds_kept : (t b : ℕ) → t < g.steps → b < w → row_sum c w symbols' (row_of plan' t) b ≡ 0
  holds_kept t b h hb =
      ap (λ (r : ℕ). row_sum c w symbols' r b) (K.row_same t h)
      ∙ sum_cong (c.has (row_of plan t)) (c.has (row_of plan t)) (byte_at w symbols' b) (byte_at w symbols b) c.n (λ p l. refl)
      (λ p l i. K.bytes p b (closed_apart p (row-closed t p h l i)) hb)
      ∙ S.values.holds t b h hb

-- ---- a step: check row r settles the only open one of its positions

-- how many steps were made before the first pivot
module _ {c : Checks} {w : ℕ} {block states : List ℕ} {plan : Arrays} {symbols : List ℕ} {g : Progress} (S : State c w block states plan symbols g) (early' : ℕ)
    (e : early' ≡ cond (eqb g.pivots 0) (g.steps + 1) g.early) where
  early_none : g.pivots ≡ 0 → early' ≡ g.steps + 1
  early_none h = e ∙ ap (λ (b : Bool). cond b (g.steps + 1) g.early) (eq-eqb g.pivots 0 h)

  early_some : g.pivots ≢ 0 → early' ≡ g.early
  early_some h = e ∙ ap (λ (b : Bool). cond b (g.steps + 1) g.early) (ne_eqb g.pivots 0 h)

  early_fits : early' ≤ g.steps + 1
  early_fits = go (ℕ_discrete g.pivots 0)
    where
      go : Dec (g.pivots ≡ 0) → early' ≤ g.steps + 1
      go (yes h) = omega (arith, early_none h)
      go (no h) = omega (arith, early_some h, S.made.early_steps)

  early_kept : (t : ℕ) → t < g.steps → g.early ≤ t → early' ≤ t
  early_kept t h l = go (ℕ_discrete g.pivots 0)
    where
      go : Dec (g.pivots ≡ 0) → early' ≤ t
      go (yes d) = absurd (omega (arith, S.begun d))
      go (no d) = omega (arith, early_some d)

module _ {c : Checks} {w : ℕ} {block states : List ℕ} {plan : Arrays} {symbols : List ℕ} {g : Progress} {r n i : ℕ} {xs : List ℕ} (S : State c w block states plan symbols g)
    (R : RowOf c r n xs) (hr : r < c.m) (only : OnlyOpen plan xs n i) (un : used_by plan r ≡ 0) where
  settle_steps : g.steps < c.m
  settle_steps = omega (arith, S.made.steps-unused, unused-some plan r c.m hr un)

  settle_alone : (k : ℕ) → k < n → k ≢ i → get_or xs k 0 ≢ get_or xs i 0
  settle_alone k h d e = only.others k h d (ap (λ (x : ℕ). kind_of plan x) e ∙ only.open_kind)

  -- as `settle` requires it of position p
  abbrev Ready : ℕ → Type 0
  Ready p =
      ((g.steps < 1024) × ((r < 1024) × (p < 3072)))
      × (((p * w + w ≤ length symbols) × Inside (take (n - 1) (rest_of xs n i)) w (length symbols))
      × ((k : ℕ) → k < length (take (n - 1) (rest_of xs n i)) → get_or (take (n - 1) (rest_of xs n i)) k 0 ≢ p))

  ready : Ready (get_or xs i 0)
  ready =
      let m = S.made in
      let p = R.below i only.below in (
        (omega (arith, settle_steps, m.rows), (omega (arith, m.rows), omega (arith, m.positions))),
        (
          (omega (arith, slot (get_or xs i 0) c.n w p, S.values.size), rest_inside R i only.below w (length symbols) S.values.size),
          none_front (rest_of xs n i) (n - 1) (rest_few R i only.below) (rest_ne R i only.below settle_alone),
        ),
      )

  pub settle_ready : (p : ℕ) → p ≡ get_or xs i 0 → Ready p
  settle_ready p e = subst⁻¹ Ready e ready

  -- the others are closed
  row-others : (x : ℕ) → x < c.n → c.has r x ≡ true → x ≢ get_or xs i 0 → kind_of plan x ≢ 65535
  row-others x hx h d e =
      let k = R.found x hx h in
      only.others k.0 k.1.0 (λ f. d (sym k.1.1 ∙ ap (λ (j : ℕ). get_or xs j 0) f)) (ap (λ (y : ℕ). kind_of plan y) k.1.1 ∙ e)

  module _ {plan' : Arrays} {symbols' : List ℕ} (T : Settled plan plan' g.steps r (get_or xs i 0))
      (Q : Replaced (λ b. gathered (byte_at w symbols b) (rest_of xs n i) (n - 1)) w (get_or xs i 0) symbols symbols') where
    settle_keeps : Keeps c w g.steps g.pivots (get_or xs i 0) plan symbols plan' symbols'
    settle_keeps =
        record {
          was = only.open_kind;
          kinds = λ p h d. T.kinds p d;
          pivot-same = λ u h. T.pivots u;
          row_same = λ t h. T.rows t (λ e. omega arith);
          position-same = λ t h. T.positions t (λ e. omega arith);
          symbols-size = Q.size;
          bytes = λ p b d h. replaced_other Q p b d h;
        }

    used-same : (j : ℕ) → j < c.m → j ≢ r → used_by plan' j ≡ used_by plan j
    used-same j h d = T.others j d

    -- the row adds up to zero
    row-holds : (b : ℕ) → b < w → row_sum c w symbols' r b ≡ 0
    row-holds b h =
        sum-rest R i only.below (byte_at w symbols' b)
        ∙ ap (λ (v : ℕ). v ⊕ byte_at w symbols' b (get_or xs i 0))
        (sum_ext (λ k. true) (λ k. byte_at w symbols' b (get_or (rest_of xs n i) k 0)) (λ k. byte_at w symbols b (get_or (rest_of xs n i) k 0)) (n - 1)
        (λ k l. replaced_other Q (get_or (rest_of xs n i) k 0) b (rest_ne R i only.below settle_alone k l) h)
        ∙ sym (Q.each b h))
        ∙ self (byte_at w symbols' b (get_or xs i 0))

    module _ (early' : ℕ) (e : early' ≡ cond (eqb g.pivots 0) (g.steps + 1) g.early) where
      -- what is closed is closed before this step
      settle_before : (x : ℕ) → x < c.n → x ≢ get_or xs i 0 → kind_of plan x ≢ 65535 → Before plan' early' g.steps x
      settle_before x hx d n = go (is_known states x) refl
        where
          same : kind_of plan' x ≡ kind_of plan x
          same = settle_keeps.kinds x hx d

          sorted : Sort plan g.steps g.pivots x → Before plan' early' g.steps x
          sorted (inl f) = absurd (n f)
          sorted (inr (inl t)) =
              let k : kind_of plan x ≡ t.0 + 1 = ap (λ (y : ℕ). kind_of plan y) (sym t.1.1) ∙ (S.made.step t.0 t.1.0).kind in
              inl (omega (arith, same, t.1.0))
          sorted (inr (inr u)) =
              let k : kind_of plan (pivot_of plan u.0) ≡ kind_of plan x = ap (λ (y : ℕ). kind_of plan y) u.1.1 in
              let o = (S.made.pivot u.0 u.1.0).kind in
              let f : early' ≡ g.early = early_some S early' e (λ z. omega (arith, u.1.0)) in
              inr (omega (arith, S.made.early_steps), (omega (arith, same, o.0), omega (arith, same, o.1)))

          go : (b : Bool) → is_known states x ≡ b → Before plan' early' g.steps x
          go true f = inl (omega (arith, same, S.made.known x hx f))
          go false f = sorted (S.made.sort x hx f)

      settle_step : (t : ℕ) → t < g.steps + 1 → Step c states plan' early' t
      settle_step t h = go (dec_lt t g.steps)
        where
          go : Dec (t < g.steps) → Step c states plan' early' t
          go (yes l) = step_kept S settle_keeps early' t l (early_kept S early' e t l)
          go (no l) =
              let hp = R.below i only.below in
              let d : g.steps ≡ t = omega arith in
              subst (λ (s : ℕ). Step c states plan' early' s) d
              (step-at r (get_or xs i 0) T.row T.position hr hp (missing-here S settle_keeps hp) T.kind (row_has R i only.below settle_alone)
              (λ x hx k f. settle_before x hx f (row-others x hx k f)))

      settle_sort : (p : ℕ) → p < c.n → is_known states p ≡ false → Sort plan' (g.steps + 1) g.pivots p
      settle_sort p hp m = go (ℕ_discrete p (get_or xs i 0))
        where
          go : Dec (p ≡ get_or xs i 0) → Sort plan' (g.steps + 1) g.pivots p
          go (yes d) = inr (inl (g.steps, (omega arith, T.position ∙ sym d)))
          go (no d) = sort-kept S settle_keeps (g.steps + 1) g.pivots p (omega arith) (omega arith) hp d m

      settle_used : (j : ℕ) → j < c.m → (used_by plan' j ≡ 0) ⊎ ((t : ℕ) × ((t < g.steps + 1) × (row_of plan' t ≡ j)))
      settle_used j h = go (ℕ_discrete j r) (S.made.used j h)
        where
          go : Dec (j ≡ r) → (used_by plan j ≡ 0) ⊎ ((t : ℕ) × ((t < g.steps) × (row_of plan t ≡ j)))
              → (used_by plan' j ≡ 0) ⊎ ((t : ℕ) × ((t < g.steps + 1) × (row_of plan' t ≡ j)))
          go (yes d) o = inr (g.steps, (omega arith, T.row ∙ sym d))
          go (no d) (inl o) = inl (used-same j h d ∙ o)
          go (no d) (inr t) = inr (t.0, (omega (arith, t.1.0), settle_keeps.row_same t.0 t.1.0 ∙ t.1.1))

      settle_holds : (t b : ℕ) → t < g.steps + 1 → b < w → row_sum c w symbols' (row_of plan' t) b ≡ 0
      settle_holds t b h hb = go (dec_lt t g.steps)
        where
          go : Dec (t < g.steps) → row_sum c w symbols' (row_of plan' t) b ≡ 0
          go (yes l) = holds_kept S settle_keeps t b l hb
          go (no l) =
              let d : t ≡ g.steps = omega arith in
              ap (λ (k : ℕ). row_sum c w symbols' k b) (ap (λ (s : ℕ). row_of plan' s) d ∙ T.row) ∙ row-holds b hb

      state_settle : (fuel : ℕ) (last : Option ℕ)
          → State c w block states plan' symbols' (record { steps = g.steps + 1; pivots = g.pivots; early = early'; cursor = g.cursor; fuel = fuel; last = last })
      state_settle fuel last =
          record {
            made =
                record {
                  positions = S.made.positions;
                  rows = S.made.rows;
                  early_steps = early_fits S early' e;
                  pivots_few = S.made.pivots_few;
                  steps-unused = omega (arith, S.made.steps-unused, unused_settled plan plan' r c.m hr un T.used used-same);
                  known = known_kept S settle_keeps;
                  sort = settle_sort;
                  step = settle_step;
                  pivot = pivot-kept S settle_keeps;
                  used = settle_used;
                };
            unsolved = unsolved-kept S settle_keeps;
            values =
                record {
                  size = Q.size ∙ S.values.size;
                  known-byte = byte-kept S settle_keeps;
                  pivot-byte = pivot-byte-kept S settle_keeps;
                  holds = settle_holds;
                };
            begun = early_none S early' e;
            cursor_below = S.cursor_below;
            pivots_below = S.pivots_below;
            closed = cursor_kept S settle_keeps;
          }

  -- from what `settle` ensures
  pub state_settled : {plan' : Arrays} {symbols' : List ℕ} (p : ℕ) → p ≡ get_or xs i 0 → (early' fuel : ℕ) (last : Option ℕ)
      → StepMade plan plan' g.steps r p
      → Replaced (λ b. gathered (byte_at w symbols b) (take (n - 1) (rest_of xs n i)) (length (take (n - 1) (rest_of xs n i)))) w p symbols symbols'
      → early' ≡ cond (eqb g.pivots 0) (g.steps + 1) g.early
      → State c w block states plan' symbols' (record { steps = g.steps + 1; pivots = g.pivots; early = early'; cursor = g.cursor; fuel = fuel; last = last })
  state_settled {plan'} {symbols'} p d early' fuel last e Q f =
      let h = ready.0 in
      state_settle (settled h.0 h.1.0 h.1.1 (subst (λ (x : ℕ). StepMade plan plan' g.steps r x) d e))
      (restore_front (rest_of xs n i) (n - 1) w (rest_few R i only.below) (subst (λ (x : ℕ). Replaced (λ b. gathered (byte_at w symbols b) (take (n - 1) (rest_of xs n i)) (length (take (n - 1) (rest_of xs n i)))) w x symbols symbols') d Q)) early' f fuel last

-- ---- the position under the cursor

-- one more closed position
pub closed-more : (plan : Arrays) (from x : ℕ) → ((p : ℕ) → from ≤ p → p < x → kind_of plan p ≢ 65535) → kind_of plan x ≢ 65535
    → (p : ℕ) → from ≤ p → p < x + 1 → kind_of plan p ≢ 65535
closed-more plan from x below here p f h e = go (dec_lt p x)
  where
    go : Dec (p < x) → ⊥
    go (yes l) = below p f l e
    go (no l) = let d : x ≡ p = omega arith in here (ap (λ (k : ℕ). kind_of plan k) d ∙ e)

module _ {c : Checks} {w : ℕ} {block states : List ℕ} {plan : Arrays} {symbols : List ℕ} {g : Progress} (S : State c w block states plan symbols g) where
  -- fuel and the last position say nothing
  pub state_late : (fuel : ℕ) (last : Option ℕ)
      → State c w block states plan symbols (record { steps = g.steps; pivots = g.pivots; early = g.early; cursor = g.cursor; fuel = fuel; last = last })
  state_late fuel last =
      record {
        made = S.made;
        unsolved = S.unsolved;
        values = S.values;
        begun = S.begun;
        cursor_below = S.cursor_below;
        pivots_below = S.pivots_below;
        closed = S.closed;
      }

  -- the cursor passes over closed positions
  pub state_pass : {x : ℕ} (last : Option ℕ) → g.cursor ≤ x → x ≤ c.n → NoneOpen plan g.cursor x
      → State c w block states plan symbols (record { steps = g.steps; pivots = g.pivots; early = g.early; cursor = x; fuel = g.fuel; last = last })
  state_pass {x} last from to none =
      record {
        made = S.made;
        unsolved = S.unsolved;
        values = S.values;
        begun = S.begun;
        cursor_below = to;
        pivots_below = omega (arith, S.pivots_below);
        closed = λ p h. go p h (dec_lt p g.cursor);
      }
    where
      go : (p : ℕ) → p < x → Dec (p < g.cursor) → kind_of plan p ≢ 65535
      go p h (yes l) = S.closed p l
      go p h (no l) = none p (omega arith) h

  -- the cursor moves on
  module _ (hx : g.cursor < c.n) where
    module _ {plan' : Arrays} {symbols' : List ℕ} (o : kind_of plan g.cursor ≡ 65535) (T : Deferred plan plan' g.pivots g.cursor)
        (Q : Replaced (λ b. 0) w g.cursor symbols symbols') where
      defer_keeps : Keeps c w g.steps g.pivots g.cursor plan symbols plan' symbols'
      defer_keeps =
          record {
            was = o;
            kinds = λ p h d. T.kinds p d;
            pivot-same = λ u h. T.pivots u (λ e. omega arith);
            row_same = λ t h. T.rows t;
            position-same = λ t h. T.positions t;
            symbols-size = Q.size;
            bytes = λ p b d h. replaced_other Q p b d h;
          }

      few_pivots : g.pivots < 3072
      few_pivots = omega (arith, S.pivots_below, S.made.positions)

      used-kept : (j : ℕ) → j < c.m → used_by plan' j ≡ used_by plan j
      used-kept j h = T.used j

      now_kind : kind_of plan' (pivot_of plan' g.pivots) ≡ 1025 + g.pivots
      now_kind = ap (λ (k : ℕ). kind_of plan' k) T.position ∙ T.kind

      defer_sort : (p : ℕ) → p < c.n → is_known states p ≡ false → Sort plan' g.steps (g.pivots + 1) p
      defer_sort p hp m = go (ℕ_discrete p g.cursor)
        where
          go : Dec (p ≡ g.cursor) → Sort plan' g.steps (g.pivots + 1) p
          go (yes d) = inr (inr (g.pivots, (omega arith, T.position ∙ sym d)))
          go (no d) = sort-kept S defer_keeps g.steps (g.pivots + 1) p (omega arith) (omega arith) hp d m

      -- of each pivot: it is one of the others, or this one
      each-pivot : (P : ℕ → Type 0) → ((u : ℕ) → u < g.pivots → P u) → P g.pivots → (u : ℕ) → u < g.pivots + 1 → P u
      each-pivot P others this u h = go (dec_lt u g.pivots)
        where
          go : Dec (u < g.pivots) → P u
          go (yes l) = others u l
          go (no l) = let d : g.pivots ≡ u = omega arith in subst P d this

      defer_used : (j : ℕ) → j < c.m → (used_by plan' j ≡ 0) ⊎ ((t : ℕ) × ((t < g.steps) × (row_of plan' t ≡ j)))
      defer_used j h = go (S.made.used j h)
        where
          go : (used_by plan j ≡ 0) ⊎ ((t : ℕ) × ((t < g.steps) × (row_of plan t ≡ j)))
              → (used_by plan' j ≡ 0) ⊎ ((t : ℕ) × ((t < g.steps) × (row_of plan' t ≡ j)))
          go (inl e) = inl (used-kept j h ∙ e)
          go (inr t) = inr (t.0, (t.1.0, defer_keeps.row_same t.0 t.1.0 ∙ t.1.1))

      this_pivot : PutOff c states plan' g.pivots
      this_pivot =
          record {
            position = subst⁻¹ (λ (p : ℕ). p < c.n) T.position hx;
            missing = subst⁻¹ (λ (p : ℕ). is_known states p ≡ false) T.position (missing-here S defer_keeps hx);
            kind = (omega (arith, now_kind), omega (arith, now_kind, few_pivots));
          }

      pub state_defer : (last : Option ℕ) → State c w block states plan' symbols'
          (record { steps = g.steps; pivots = g.pivots + 1; early = g.early; cursor = g.cursor + 1; fuel = g.fuel; last = last })
      state_defer last =
          record {
            made =
                record {
                  positions = S.made.positions;
                  rows = S.made.rows;
                  early_steps = S.made.early_steps;
                  pivots_few = omega (arith, S.pivots_below);
                  steps-unused = omega (arith, S.made.steps-unused, unused-same plan plan' c.m used-kept);
                  known = known_kept S defer_keeps;
                  sort = defer_sort;
                  step = λ t h. step_kept S defer_keeps g.early t h (λ l. l);
                  pivot = each-pivot (λ u. PutOff c states plan' u) (pivot-kept S defer_keeps) this_pivot;
                  used = defer_used;
                };
            unsolved = each-pivot (λ u. kind_of plan' (pivot_of plan' u) ≡ 1025 + u) (unsolved-kept S defer_keeps) now_kind;
            values =
                record {
                  size = Q.size ∙ S.values.size;
                  known-byte = byte-kept S defer_keeps;
                  pivot-byte = λ u b h hb.
                      each-pivot (λ u'. byte_at w symbols' b (pivot_of plan' u') ≡ 0) (λ u' l. pivot-byte-kept S defer_keeps u' b l hb)
                      (ap (byte_at w symbols' b) T.position ∙ Q.each b hb) u h;
                  holds = holds_kept S defer_keeps;
                };
            begun = λ e. absurd (omega arith);
            cursor_below = omega arith;
            pivots_below = omega (arith, S.pivots_below);
            closed = λ p. closed-more plan' 0 g.cursor (λ q l. cursor_kept S defer_keeps q) (λ e. omega (arith, T.kind, few_pivots)) p (omega arith);
          }

-- ---- the beginning

pub state-start : (c : Checks) (w n : ℕ) (states : List ℕ) (plan : Arrays) (symbols : List ℕ) (fuel : ℕ) (last : Option ℕ) → c.n ≤ 3072 → c.m ≤ 1024 → length symbols ≡ c.n * w → n ≡ c.n → Opened n states plan
    → State c w symbols states plan symbols (record { steps = 0; pivots = 0; early = 0; cursor = 0; fuel = fuel; last = last })
state-start c w n states plan symbols fuel last hn hm e d o =
    record {
      made =
          record {
            positions = hn;
            rows = hm;
            early_steps = omega arith;
            pivots_few = omega arith;
            steps-unused = omega (arith, unused_all plan c.m (λ j h. o.unused j));
            known = λ p hp h. o.known p (omega arith) h;
            sort = λ p hp m. inl (o.open_kind p (omega arith) m);
            step = λ t h. absurd (omega arith);
            pivot = λ u h. absurd (omega arith);
            used = λ j h. inl (o.unused j);
          };
      unsolved = λ u h. absurd (omega arith);
      values =
          record {
            size = e;
            known-byte = λ p b hp hb h. refl;
            pivot-byte = λ u b h hb. absurd (omega arith);
            holds = λ t b h hb. absurd (omega arith);
          };
      begun = λ h. refl;
      cursor_below = omega arith;
      pivots_below = omega arith;
      closed = λ p h. absurd (omega arith);
    }

-- where no position is missing, it is the end too
pub nothing-missing : {c : Checks} {w n : ℕ} {states : List ℕ} {plan : Arrays} {symbols : List ℕ} → c.n ≤ 3072 → c.m ≤ 1024 → length symbols ≡ c.n * w → n ≡ c.n → Opened n states plan
    → ((p : ℕ) → p < n → is_known states p ≡ true) → Peeled c w symbols states plan symbols 0 0 0
nothing-missing {c} {w} {n} {states} {plan} {symbols} hn hm e d o k =
    let S = state-start c w n states plan symbols 0 None hn hm e d o in
    record { made = S.made; closed = λ p h z. omega (arith, o.known p (omega arith) (k p (omega arith)), z); unsolved = S.unsolved; values = S.values; begun = S.begun }
