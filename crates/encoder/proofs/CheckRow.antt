-- What a block's table says of check row i * a + r: how many entries its class has, which positions they give, and which of these have no idle
-- position before them.
-- Assumes nothing.
use Rattle.std.proofs.Common.{◌≡◌, ℕ, ◌+◌, ◌-◌, ◌*◌, ◌/◌, ◌%◌, ◌<◌, ◌≤◌, List, length, get_or, set, sym, ap, ◌∙◌, ap₂, mod-lt, div-add-mod', mul-le-mul_left, arith, length-set, get_or-set_other, get_or-set_same}
use mathlib.Core.Path.{subst⁻¹}
use native.Mathlib.Decide.{dec_lt}
use lib.Arith.{digits_mod}
use Rattle.symbol_sums.specs.Gather.{max_positions}
use Rattle.ccsds.specs.Codes.{Params}
use Rattle.ccsds.specs.Tables.{code_of}
use Rattle.ccsds.proofs.Valid.{Valid, valid_of, some-a}
use Rattle.encoder.specs.declared.positions.Shape.{Shape}
use Rattle.encoder.specs.declared.positions.ClassTable.{ClassTable}
use Rattle.encoder.specs.inner.Positions.{class_of, positions, entries_of, entry_place, EntryBounds, WithinRow, Whole, Table, Entries, Kept, max_classes}
use Rattle.encoder.proofs.Touched.{row_lt', quotient_lt, row-each, entry_fits}
use Rattle.encoder.proofs.ClassTable.{entries-few, class_room}
use Rattle.encoder.proofs.Sent.{entries-to, entries_lt, kept_all}

-- of the first e elements, those before n are f's
pub record EntriesTo (f : ℕ → ℕ) (n e : ℕ) (xs : List ℕ) : Type 0 where
  pub size : length xs ≡ max_positions
  pub each : (k : ℕ) → k < e → k < n → get_or xs k 0 ≡ f k

pub entries-more : {f : ℕ → ℕ} {n e x : ℕ} {xs : List ℕ} → EntriesTo f n e xs → e < max_positions → (e < n → x ≡ f e) → EntriesTo f n (e + 1) (set xs e x)
entries-more {f} {n} {e} {x} {xs} h l g = record { size = length-set xs e x ∙ h.size; each = λ k a b. go k a b (dec_lt k e) }
  where
    go : (k : ℕ) → k < e + 1 → k < n → Dec (k < e) → get_or (set xs e x) k 0 ≡ f k
    go k a b (yes d) = get_or-set_other xs e k x 0 (λ z. omega arith) ∙ h.each k d b
    go k a b (no d) =
        let z : e ≡ k = omega arith in
        ap (λ (t : ℕ). get_or (set xs e x) t 0) (sym z) ∙ get_or-set_same xs e x 0 (omega (arith, h.size)) ∙ g (omega arith) ∙ ap f z

module _ {s : Shape} {t : ClassTable} (T : Table s t) {r : ℕ} (hr : r < (code_of s.number).a) where
  abbrev code : Params
  code = code_of s.number

  v : Valid code
  v = valid_of _ T.shaped.known

  pub class-lt : r < max_classes
  class-lt = (class_room T.laid hr).0

  -- its number, as the layout has it
  pub number : (i : ℕ) → i < code.q → (i * s.layout.a + r ≡ i * code.a + r) × (i * s.layout.a + r < code.m)
  number i hi =
      let e : i * s.layout.a + r ≡ i * code.a + r = ap (λ (a : ℕ). i * a + r) T.shaped.given.a in
      (e, omega (arith, e, row_lt' code v r i hr hi))

  -- a table row has no more positions than there are check rows
  pub narrow : s.layout.q < 65536
  narrow = omega (arith, T.shaped.given.q, v.few-rows, mul-le-mul_left code.q (some-a _ v), v.step)

  pub count_of : (i : ℕ) {n : ℕ} {xs : List ℕ} → Entries code s.rows (i * code.a + r) n xs → n ≡ get_or t.counts r 0
  count_of i e = e.count ∙ ap (λ (x : ℕ). entries_of code x s.rows) (digits_mod i hr) ∙ sym (T.laid.counts _ hr)

  -- where the fill ends with a table row, nothing is idle
  pub none-idle : (i : ℕ) {n : ℕ} {xs : List ℕ} → Entries code s.rows (i * code.a + r) n xs → s.rows * s.layout.q ≡ s.fill → Kept s.fill n xs n xs
  none-idle i e z =
      let q : s.rows * s.layout.q ≡ s.rows * code.q = ap (λ (x : ℕ). s.rows * x) T.shaped.given.q in
      kept_all s.fill _ _ (λ k h. omega (arith, entries_lt code v e T.shaped.within k h, q))

  module _ {n : ℕ} (counted : n ≡ get_or t.counts r 0) where
    count-is : n ≡ entries_of code r s.rows
    count-is = counted ∙ T.laid.counts _ hr

    pub few : n + 2 ≤ max_positions
    few = omega (arith, counted, (class_room T.laid hr).1)

    -- what `further` makes of entry e is its position
    pub position : {i : ℕ} → i < code.q → (e : ℕ) → e < n → {x : ℕ}
        → (WithinRow (get_or t.starts (entry_place r e) 0) (get_or t.ends (entry_place r e) 0) s.layout.q i
        → x ≡ get_or t.ends (entry_place r e) 0 - s.layout.q + (get_or t.starts (entry_place r e) 0 + s.layout.q - get_or t.ends (entry_place r e) 0 + i) % s.layout.q)
        → x ≡ get_or (positions code (i * code.a + r)) e 0
    position {i} hi e h {x} g =
        g fits ∙ ap (λ (k : ℕ). end - k + (first + k - end + i) % k) T.shaped.given.q ∙ row-each _ v r i hr hi _ inside bounds
      where
        laid : e < entries_of code r s.rows
        laid = omega (arith, count-is)

        inside : e < length (class_of code r)
        inside = omega (arith, laid, entries-few code r s.rows)

        first : ℕ
        first = get_or t.starts (entry_place r e) 0

        end : ℕ
        end = get_or t.ends (entry_place r e) 0

        bounds : EntryBounds code.q (get_or (class_of code r) e (0, 0)) first end
        bounds = T.laid.each _ hr e laid

        fits : WithinRow first end s.layout.q i
        fits = subst⁻¹ (λ (k : ℕ). WithinRow first end k i) T.shaped.given.q (entry_fits _ v r i hr hi _ inside bounds)

    -- of the entries those of table rows that end by fill are below it
    pub whole-below : (i : ℕ) {xs : List ℕ} → Entries code s.rows (i * code.a + r) n xs → {d : ℕ} → d ≡ get_or t.whole r 0
        → (d ≤ n) × ((k : ℕ) → k < d → get_or xs k 0 < s.fill)
    whole-below i {xs} e {d} z = (few-whole, λ k h. entries-to code v e T.shaped.within s.fill (d - 1) (omega (arith, few-whole)) (ends h) k (omega arith))
      where
        w : Whole s.fill r (get_or t.counts r 0) t.ends (get_or t.whole r 0)
        w = T.whole _ hr

        few-whole : d ≤ n
        few-whole = omega (arith, w.few)

        ends : {k : ℕ} → k < d → (get_or (class_of code ((i * code.a + r) % code.a)) (d - 1) (0, 0)).0 * code.q + code.q ≤ s.fill
        ends h =
            let b = T.laid.each r hr (d - 1) (omega (arith, count-is, few-whole)) in
            omega (arith, w.last (omega (arith, z)), ap (λ (x : ℕ). get_or t.ends (entry_place r (x - 1)) 0) z, b.last, ap (λ (x : ℕ). (get_or (class_of code x) (d - 1) (0, 0)).0 * code.q) (digits_mod i hr))

    pub all_entries : (i : ℕ) {e : ℕ} {xs : List ℕ} → EntriesTo (λ k. get_or (positions code (i * code.a + r)) k 0) n e xs → n ≤ e
        → Entries code s.rows (i * code.a + r) n xs
    all_entries i h l =
        record {
          size = h.size;
          few = few;
          count = count-is ∙ ap (λ (k : ℕ). entries_of code k s.rows) (sym (digits_mod i hr));
          each = λ k g. h.each k (omega arith) g;
        }

-- ---- check row j by its quotient and remainder, d and r, by a

pub record ByQuotient (c : Params) (j d r : ℕ) : Type 0 where
  pub class : r < c.a
  pub step : d < c.q
  pub row : d * c.a + r ≡ j

module _ {s : Shape} {t : ClassTable} (T : Table s t) where
  pub some_a : 0 < s.layout.a
  some_a = omega (arith, some-a _ (valid_of _ T.shaped.known), T.shaped.given.a)

  pub by_quotient : {j d r : ℕ} → j < (code_of s.number).m → d ≡ j / s.layout.a → r ≡ j % s.layout.a → ByQuotient (code_of s.number) j d r
  by_quotient {j} {d} {r} h ed er =
      let a = T.shaped.given.a in
      let z : d ≡ j / (code_of s.number).a = ed ∙ ap (λ (x : ℕ). j / x) a in
      record {
        class = omega (arith, er, mod-lt j some_a, a);
        step = subst⁻¹ (λ (x : ℕ). x < (code_of s.number).q) z (quotient_lt _ (valid_of _ T.shaped.known) j h);
        row = ap₂ (λ (x y : ℕ). x * (code_of s.number).a + y) z (er ∙ ap (λ (x : ℕ). j % x) a) ∙ div-add-mod' j (code_of s.number).a;
      }
