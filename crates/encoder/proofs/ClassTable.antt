-- The table of a code, laid out by class: the turns of the loops that make it, and that every class then stands in it, if the classes have
-- no more entries than there is room for, which is tested once for each code.
-- Assumes nothing.
use Rattle.std.proofs.Common.{◌≡◌, ℕ, zero, suc, ◌+◌, ◌-◌, ◌*◌, ◌/◌, ◌%◌, ◌<◌, ◌≤◌, Bool, true, false, ◌&&◌, T, eqb, leb, ◌≢◌, List, [], ◌∷◌, ◌++◌, length, get_or, take, drop, set, sym, refl, ap, ◌∙◌, subst, ap₂, append_assoc, append-nil, not-suc-le-zero, add-zero, add-suc, mod-lt, suc-add, zero-add, add-one, arith, leb→le, length-append, length-set, take-append-drop, length-take-le, get_or-set_other, take-suc, get_or-set_same, get_or-append-add, le-ltb, lt-ltb, eq-eqb, eqb-true}
use mathlib.Core.Path.{subst⁻¹}
use mathlib.Core.Bool.{false≢true}
use native.Mathlib.Decide.{dec_lt}
use lib.ListN.{length-replicate, get_or-replicate, get_or-append}
use lib.Seq.{get_or-append_seam, take-length}
use Rattle.algebra.proofs.Codeword.{slot}
use Rattle.ccsds.specs.Codes.{Params}
use Rattle.symbol_sums.specs.Gather.{max_positions}
use Rattle.ccsds.specs.inner.Layout.{max_n}
use Rattle.ccsds.specs.Tables.{code_of, codes, Known, c1, c2, c4, c5, c7, c8, rows1, rows2, rows4, rows5, rows7, rows8}
use Rattle.ccsds.proofs.Table.{every, up_to, in_range, both_left, both_right}
use Rattle.ccsds.proofs.Valid.{Valid, valid_of, each_of, some-a, address_lt}
use Rattle.encoder.specs.inner.Positions.{Entry, entry_if, class_in, class_from, class_of, entry_place, no_entries, entry_put, address_put, entered, row_entered, table_entered, entries_of, EntryBounds, Classes, Whole, Counted, max_classes, max_entries}
use Rattle.encoder.specs.declared.positions.Shape.{Shape}
use Rattle.encoder.specs.declared.positions.ClassTable.{ClassTable}
use Rattle.encoder.proofs.Touched.{quotient_lt}

-- ---- one address

module _ (q a row i y : ℕ) (t : ClassTable) (n r d : ℕ) (er : r ≡ y % a) (ed : d ≡ y / a) (e : n ≡ get_or t.counts r 0) where
  counted : n ≡ get_or t.counts (y % a) 0
  counted = e ∙ ap (λ (k : ℕ). get_or t.counts k 0) er

  pub entered-full : max_positions ≤ n → address_put row i y t ≡ entered q a row i y t
  unfolding entered
  entered-full h = rw (le-ltb (get_or t.counts (y % a) 0) max_positions (omega (arith, counted))) refl

  pub entered-room : n < max_positions → entry_put r n (row * q + q - d) (row * q + q) (address_put row i y t) ≡ entered q a row i y t
  unfolding entered
  entered-room h =
      ap₂ (λ (k l : ℕ). entry_put k n (row * q + q - l) (row * q + q) (address_put row i y t)) er ed
      ∙ rw (lt-ltb (get_or t.counts (y % a) 0) max_positions (omega (arith, counted))) (ap (λ (k : ℕ). entry_put (y % a) k (row * q + q - y / a) (row * q + q) (address_put row i y t)) counted)

-- ---- the turns

module _ (c : Params) (row : ℕ) (t : ClassTable) where
  pub address_more : (i : ℕ) {q a y : ℕ} {u v : ClassTable} → q ≡ c.q → a ≡ c.a → y ≡ get_or (get_or c.rows row []) i 0
      → u ≡ row_entered c row i t → v ≡ entered q a row i y u → v ≡ row_entered c row (i + 1) t
  unfolding row_entered
  address_more i {q} {a} {y} {u} eq ea ey h g =
      g ∙ ap₂ (λ (k l : ℕ). entered k l row i y u) eq ea ∙ ap₂ (λ (k : ℕ) (s : ClassTable). entered c.q c.a row i k s) ey h
      ∙ ap (λ (k : ℕ). row_entered c row k t) (sym (add-one i))

  pub row_more : {u v : ClassTable} → u ≡ table_entered c row t → v ≡ row_entered c row (length (get_or c.rows row [])) u → v ≡ table_entered c (row + 1) t
  unfolding table_entered
  row_more h g = g ∙ ap (row_entered c row (length (get_or c.rows row []))) h ∙ ap (λ (k : ℕ). table_entered c k t) (sym (add-one row))

-- what `enter` needs of an address
pub address_fits : (c : Params) (v : Valid c) (row i q a y : ℕ) → c.a ≤ max_classes → row < length c.rows → i < length (get_or c.rows row [])
    → q ≡ c.q → a ≡ c.a → y ≡ get_or (get_or c.rows row []) i 0 → (0 < a) × (a ≤ max_classes) × (row * q + q ≤ max_n) × (y / a ≤ q) × (y < 65536)
address_fits c v row i q a y few hr hi eq ea ey =
    let z : row * q ≡ row * c.q = ap (λ (k : ℕ). row * k) eq in
    let d : y / a ≡ get_or (get_or c.rows row []) i 0 / c.a = ap₂ ◌/◌ ey ea in
    let h : get_or (get_or c.rows row []) i 0 < c.m = address_lt c v row hr i hi in (
      omega (arith, some-a c v),
      omega arith,
      omega (arith, slot row (length c.rows) c.q hr, v.whole, v.few),
      omega (arith, quotient_lt c v (get_or (get_or c.rows row []) i 0) h),
      omega (arith, v.few-rows),
    )

-- ---- what a class holds

-- the arrays of a table have their lengths
record Sized (t : ClassTable) : Type 0 where
  starts : length t.starts ≡ max_entries
  ends : length t.ends ≡ max_entries
  counts : length t.counts ≡ max_classes

-- class r of the table has the entries l
record Held (q r : ℕ) (l : List Entry) (t : ClassTable) : Type 0 where
  count : get_or t.counts r 0 ≡ length l
  each : (i : ℕ) → i < length l → EntryBounds q (get_or l i (0, 0)) (get_or t.starts (entry_place r i) 0) (get_or t.ends (entry_place r i) 0)

bounds_kept : {q : ℕ} {e d : Entry} {first end first' end' : ℕ} → d ≡ e → first' ≡ first → end' ≡ end → EntryBounds q e first end → EntryBounds q d first' end'
bounds_kept {q} {e} {d} {first} {end} {first'} {end'} g h k b =
    record { last = k ∙ b.last ∙ ap (λ (x : Entry). x.0 * q + q) (sym g); start = ap₂ (λ (n : ℕ) (x : Entry). n + x.1) h g ∙ b.start ∙ sym k }

-- an entry more, at a place of its own
module _ (r n first end : ℕ) (t : ClassTable) where
  abbrev put : ClassTable
  put = entry_put r n first end t

  put_sized : Sized t → Sized put
  put_sized s = record {
    starts = length-set t.starts (entry_place r n) first ∙ s.starts;
    ends = length-set t.ends (entry_place r n) end ∙ s.ends;
    counts = length-set t.counts r (n + 1) ∙ s.counts;
  }

  -- the entries of other places are as they were
  put_kept : {q : ℕ} {e d : Entry} (p : ℕ) → p ≢ entry_place r n → d ≡ e → EntryBounds q e (get_or t.starts p 0) (get_or t.ends p 0)
      → EntryBounds q d (get_or put.starts p 0) (get_or put.ends p 0)
  put_kept p h g b = bounds_kept g (get_or-set_other t.starts (entry_place r n) p first 0 h) (get_or-set_other t.ends (entry_place r n) p end 0 h) b

  put_held : Sized t → r < max_classes → n < max_positions → (q : ℕ) (l : List Entry) (e : Entry) → n ≡ length l → Held q r l t → EntryBounds q e first end
      → Held q r (l ++ (e ∷ [])) put
  put_held s hr hn q l e g h b = record {
    count = get_or-set_same t.counts r (n + 1) 0 (omega (arith, s.counts)) ∙ ap (λ (k : ℕ). k + 1) g ∙ sym (length-append l (e ∷ []));
    each = λ i k. go i (dec_lt i (length l)) (subst (λ (m : ℕ). i < m) (length-append l (e ∷ [])) k);
  }
    where
      go : (i : ℕ) → Dec (i < length l) → i < length l + 1 → EntryBounds q (get_or (l ++ (e ∷ [])) i (0, 0)) (get_or put.starts (entry_place r i) 0) (get_or put.ends (entry_place r i) 0)
      go i (yes k) m = put_kept (entry_place r i) (λ z. omega arith) (get_or-append l (e ∷ []) (0, 0) i k) (h.each i k)
      go i (no k) m =
          let z : i ≡ length l = omega arith in
          let w : entry_place r i ≡ entry_place r n = omega (arith, z, g) in
          bounds_kept (ap (λ (x : ℕ). get_or (l ++ (e ∷ [])) x (0, 0)) z ∙ get_or-append_seam l e [] (0, 0))
          (ap (λ (x : ℕ). get_or put.starts x 0) w ∙ get_or-set_same t.starts (entry_place r n) first 0 (omega (arith, s.starts)))
          (ap (λ (x : ℕ). get_or put.ends x 0) w ∙ get_or-set_same t.ends (entry_place r n) end 0 (omega (arith, s.ends))) b

-- an address more: its class has an entry more if it has room, and any other class what it had
module _ (q a row i y : ℕ) (t : ClassTable) (size : Sized t) (class : y % a < max_classes) (fits : y / a ≤ row * q + q) where
  abbrev n : ℕ
  n = get_or t.counts (y % a) 0

  entered_sized : Sized (entered q a row i y t)
  entered_sized = go (dec_lt n max_positions)
    where
      kept : Sized (address_put row i y t)
      kept = record { starts = size.starts; ends = size.ends; counts = size.counts }

      go : Dec (n < max_positions) → Sized (entered q a row i y t)
      go (no f) = subst Sized (entered-full q a row i y t n (y % a) (y / a) refl refl refl (omega arith)) kept
      go (yes f) =
          subst Sized (entered-room q a row i y t n (y % a) (y / a) refl refl refl f) (put_sized (y % a) n (row * q + q - y / a) (row * q + q) (address_put row i y t) kept)

  own : (l : List Entry) → length l < max_positions → Held q (y % a) l t → Held q (y % a) (l ++ ((row, y / a) ∷ [])) (entered q a row i y t)
  own l hl h =
      subst (Held q (y % a) (l ++ ((row, y / a) ∷ []))) (entered-room q a row i y t (length l) (y % a) (y / a) refl refl (sym h.count) hl)
      (put_held (y % a) (length l) (row * q + q - y / a) (row * q + q) (address_put row i y t) (record { starts = size.starts; ends = size.ends; counts = size.counts }) class hl q l (row, y / a) refl
      (record { count = h.count; each = h.each }) (record { last = refl; start = omega arith }))

  other : (r : ℕ) (l : List Entry) → r < max_classes → length l ≤ max_positions → y % a ≢ r → Held q r l t → Held q r l (entered q a row i y t)
  other r l hr hl ne h = go (dec_lt n max_positions)
    where
      go : Dec (n < max_positions) → Held q r l (entered q a row i y t)
      go (no f) = subst (Held q r l) (entered-full q a row i y t n (y % a) (y / a) refl refl refl (omega arith)) (record { count = h.count; each = h.each })
      go (yes f) =
          subst (Held q r l) (entered-room q a row i y t n (y % a) (y / a) refl refl refl f)
          (record {
            count = get_or-set_other t.counts (y % a) r (n + 1) 0 (λ e. ne (sym e)) ∙ h.count;
            each = λ j g. put_kept (y % a) n (row * q + q - y / a) (row * q + q) (address_put row i y t) (entry_place r j) (λ e. ne (omega arith)) refl (h.each j g);
          })

  entered_held : (r : ℕ) (l : List Entry) → r < max_classes → (length l ≤ max_positions → Held q r l t)
      → length (l ++ class_in a r row (y ∷ [])) ≤ max_positions → Held q r (l ++ class_in a r row (y ∷ [])) (entered q a row i y t)
  unfolding class_in
  entered_held r l hr h = go (eqb (y % a) r) refl
    where
      go : (b : Bool) → eqb (y % a) r ≡ b → length (l ++ entry_if b (row, y / a) []) ≤ max_positions → Held q r (l ++ entry_if b (row, y / a) []) (entered q a row i y t)
      go true e g =
          let z : length l < max_positions = omega (arith, length-append l ((row, y / a) ∷ [])) in
          let d : y % a ≡ r = eqb-true (y % a) r e in
          subst (λ (s : ℕ). Held q s (l ++ ((row, y / a) ∷ [])) (entered q a row i y t)) d (own l z (subst⁻¹ (λ (s : ℕ). Held q s l t) d (h (omega arith))))
      go false e g =
          let z : length l ≤ max_positions = subst (λ (k : List Entry). length k ≤ max_positions) (append-nil l) g in
          subst⁻¹ (λ (k : List Entry). Held q r k (entered q a row i y t)) (append-nil l) (other r l hr z (λ d. false≢true (sym e ∙ eq-eqb (y % a) r d)) (h z))

-- ---- the classes of some addresses and of some table rows

class_join : (a r row : ℕ) (xs ys : List ℕ) → class_in a r row (xs ++ ys) ≡ class_in a r row xs ++ class_in a r row ys
unfolding class_in
class_join a r row [] ys = refl
class_join a r row (x ∷ xs) ys = go (eqb (x % a) r) (class_join a r row xs ys)
  where
    go : (b : Bool) → class_in a r row (xs ++ ys) ≡ class_in a r row xs ++ class_in a r row ys
        → entry_if b (row, x / a) (class_in a r row (xs ++ ys)) ≡ entry_if b (row, x / a) (class_in a r row xs) ++ class_in a r row ys
    go true e = ap (λ (l : List Entry). (row, x / a) ∷ l) e
    go false e = e

classes-join : (a r row : ℕ) (xs ys : List (List ℕ)) → class_from a r row (xs ++ ys) ≡ class_from a r row xs ++ class_from a r (row + length xs) ys
unfolding class_from
classes-join a r row [] ys = ap (λ (n : ℕ). class_from a r n ys) (sym (add-zero row))
classes-join a r row (x ∷ xs) ys =
    ap (λ (l : List Entry). class_in a r row x ++ l) (classes-join a r (suc row) xs ys ∙ ap (λ (n : ℕ). class_from a r (suc row) xs ++ class_from a r n ys) (suc-add row (length xs) ∙ sym (add-suc row (length xs))))
    ∙ sym (append_assoc (class_in a r row x) (class_from a r (suc row) xs) (class_from a r (row + suc (length xs)) ys))

-- the entries of the first table rows come first
module _ (c : Params) (r rows : ℕ) where
  abbrev front : List Entry
  front = class_from c.a r 0 (take rows c.rows)

  abbrev behind : List Entry
  behind = class_from c.a r (length (take rows c.rows)) (drop rows c.rows)

  pub class_parts : class_of c r ≡ front ++ behind
  unfolding class_of
  class_parts =
      ap (class_from c.a r 0) (sym (take-append-drop rows c.rows)) ∙ classes-join c.a r 0 (take rows c.rows) (drop rows c.rows)
      ∙ ap (λ (n : ℕ). front ++ class_from c.a r n (drop rows c.rows)) (zero-add (length (take rows c.rows)))

  pub entries-few : entries_of c r rows ≤ length (class_of c r)
  entries-few = omega (arith, ap length class_parts, length-append front behind)

  pub entry_front : (i : ℕ) → i < entries_of c r rows → get_or front i (0, 0) ≡ get_or (class_of c r) i (0, 0)
  entry_front i h = sym (ap (λ (l : List Entry). get_or l i (0, 0)) class_parts ∙ get_or-append front behind (0, 0) i h)

  pub entry_behind : (i : ℕ) → entries_of c r rows ≤ i → i < length (class_of c r)
      → (d : ℕ) × ((d < length behind) × (get_or (class_of c r) i (0, 0) ≡ get_or behind d (0, 0)))
  entry_behind i h l =
      let e : entries_of c r rows + (i - entries_of c r rows) ≡ i = omega arith in (
        i - entries_of c r rows,
        (
          omega (arith, ap length class_parts, length-append front behind),
          ap (λ (n : ℕ). get_or (class_of c r) n (0, 0)) (sym e) ∙ ap (λ (k : List Entry). get_or k (entries_of c r rows + (i - entries_of c r rows)) (0, 0)) class_parts
              ∙ get_or-append-add front behind (i - entries_of c r rows) (0, 0),
        ),
      )

-- a class that stands in the table has room for two entries more
pub class_room : {c : Params} {rows : ℕ} {t : ClassTable} → Classes c rows t → {r : ℕ} → r < c.a → (r < max_classes) × (get_or t.counts r 0 + 2 ≤ max_positions)
class_room {c} {rows} l {r} h = (omega (arith, l.few.classes), omega (arith, l.counts r h, entries-few c r rows, l.few.entries r h))

-- one table row more
pub class_row : (c : Params) (r n : ℕ) → n < length c.rows
    → class_from c.a r 0 (take (suc n) c.rows) ≡ class_from c.a r 0 (take n c.rows) ++ class_in c.a r n (get_or c.rows n [])
unfolding class_from
class_row c r n k =
    let ys = get_or c.rows n [] in
    ap (class_from c.a r 0) (take-suc c.rows n [] k) ∙ classes-join c.a r 0 (take n c.rows) (ys ∷ [])
    ∙ ap (λ (i : ℕ). class_from c.a r 0 (take n c.rows) ++ (class_in c.a r i ys ++ [])) (zero-add (length (take n c.rows)) ∙ length-take-le n c.rows (omega arith))
    ∙ ap (λ (x : List Entry). class_from c.a r 0 (take n c.rows) ++ x) (append-nil (class_in c.a r n ys))

empty_sized : (t : ClassTable) → t ≡ no_entries → Sized t
empty_sized t e = subst⁻¹ Sized e (record { starts = length-replicate {A = ℕ} max_entries 0; ends = length-replicate {A = ℕ} max_entries 0; counts = length-replicate {A = ℕ} max_classes 0 })

module _ (c : Params) (v : Valid c) (few : c.a ≤ max_classes) where
  class_lt : (y : ℕ) → y % c.a < max_classes
  class_lt y = omega (arith, mod-lt y (some-a c v))

  ends_fit : (row i : ℕ) → row < length c.rows → i < length (get_or c.rows row []) → get_or (get_or c.rows row []) i 0 / c.a ≤ row * c.q + c.q
  ends_fit row i g k = omega (arith, quotient_lt c v (get_or (get_or c.rows row []) i 0) (address_lt c v row g i k))

  row_sized : (row : ℕ) (t : ClassTable) → Sized t → row < length c.rows → (n : ℕ) → n ≤ length (get_or c.rows row []) → Sized (row_entered c row n t)
  unfolding row_entered
  row_sized row t size g zero k = size
  row_sized row t size g (suc n) k =
      entered_sized c.q c.a row n (get_or (get_or c.rows row []) n 0) (row_entered c row n t) (row_sized row t size g n (omega arith)) (class_lt (get_or (get_or c.rows row []) n 0)) (ends_fit row n g k)

  table_sized : (t : ClassTable) → Sized t → (n : ℕ) → n ≤ length c.rows → Sized (table_entered c n t)
  unfolding table_entered
  table_sized t size zero k = size
  table_sized t size (suc n) k = row_sized n (table_entered c n t) (table_sized t size n (omega arith)) k (length (get_or c.rows n [])) (omega arith)

  module _ (r : ℕ) (hr : r < max_classes) where
    row_held : (row : ℕ) (t : ClassTable) (l : List Entry) → Sized t → row < length c.rows → (length l ≤ max_positions → Held c.q r l t)
        → (n : ℕ) → n ≤ length (get_or c.rows row [])
        → length (l ++ class_in c.a r row (take n (get_or c.rows row []))) ≤ max_positions
        → Held c.q r (l ++ class_in c.a r row (take n (get_or c.rows row []))) (row_entered c row n t)
    unfolding row_entered class_in
    row_held row t l size g h zero k = λ m. subst⁻¹ (λ (x : List Entry). Held c.q r x t) (append-nil l) (h (subst (λ (x : List Entry). length x ≤ max_positions) (append-nil l) m))
    row_held row t l size g h (suc n) k =
        let ys = get_or c.rows row [] in
        let y = get_or ys n 0 in
        let e : l ++ class_in c.a r row (take (suc n) ys) ≡ l ++ class_in c.a r row (take n ys) ++ class_in c.a r row (y ∷ []) =
        ap (λ (x : List ℕ). l ++ class_in c.a r row x) (take-suc ys n 0 k) ∙ ap (λ (x : List Entry). l ++ x) (class_join c.a r row (take n ys) (y ∷ []))
        ∙ sym (append_assoc l (class_in c.a r row (take n ys)) (class_in c.a r row (y ∷ []))) in
        subst⁻¹ (λ (x : List Entry). length x ≤ max_positions → Held c.q r x (row_entered c row (suc n) t)) e
        (entered_held c.q c.a row n y (row_entered c row n t) (row_sized row t size g n (omega arith)) (class_lt y) (ends_fit row n g k) r (l ++ class_in c.a r row (take n ys)) hr
        (row_held row t l size g h n (omega arith)))

    table_held : (t : ClassTable) → t ≡ no_entries → (n : ℕ) → n ≤ length c.rows
        → length (class_from c.a r 0 (take n c.rows)) ≤ max_positions → Held c.q r (class_from c.a r 0 (take n c.rows)) (table_entered c n t)
    unfolding table_entered class_from
    table_held t e zero k = λ m. record { count = ap (λ (x : ClassTable). get_or x.counts r 0) e ∙ get_or-replicate max_classes r 0 0 hr; each = λ i h. absurd (not-suc-le-zero h) }
    table_held t e (suc n) k =
        let ys = get_or c.rows n [] in
        let f : class_from c.a r 0 (take (suc n) c.rows) ≡ class_from c.a r 0 (take n c.rows) ++ class_in c.a r n (take (length ys) ys) =
        class_row c r n k ∙ ap (λ (x : List ℕ). class_from c.a r 0 (take n c.rows) ++ class_in c.a r n x) (sym (take-length ys)) in
        subst⁻¹ (λ (x : List Entry). length x ≤ max_positions → Held c.q r x (table_entered c (suc n) t)) f
        (row_held n (table_entered c n t) (class_from c.a r 0 (take n c.rows)) (table_sized t (empty_sized t e) n (omega arith)) k (table_held t e n (omega arith)) (length ys) (omega arith))

-- ---- every code has room

abbrev roomy : Params → Bool
roomy c = leb c.a max_classes && up_to (λ r. leb (length (class_of c r) + 2) max_positions) 0 c.a

all_roomy : T (every (λ i p. roomy p.1) 0 codes)
unfolding codes c1 c2 c4 c5 c7 c8 rows1 rows2 rows4 rows5 rows7 rows8 class_of class_from class_in
all_roomy = tt

module _ (number : ℕ) (known : Known number) where
  abbrev c : Params
  c = code_of number

  sizes : T (roomy c)
  sizes = each_of roomy all_roomy number known

  pub few-classes : c.a ≤ max_classes
  few-classes = leb→le c.a max_classes (both_left (leb c.a max_classes) (up_to (λ r. leb (length (class_of c r) + 2) max_positions) 0 c.a) sizes)

  few-entries : (r : ℕ) → r < c.a → length (class_of c r) + 2 ≤ max_positions
  few-entries r h =
      leb→le (length (class_of c r) + 2) max_positions
      (subst (λ (n : ℕ). T (leb (length (class_of c n) + 2) max_positions)) (zero-add r)
      (in_range (λ s. leb (length (class_of c s) + 2) max_positions) c.a 0 (both_right (leb c.a max_classes) (up_to (λ s. leb (length (class_of c s) + 2) max_positions) 0 c.a) sizes) r h))

  pub all_laid : (rows : ℕ) {s t : ClassTable} → rows ≤ length c.rows → s ≡ no_entries → t ≡ table_entered c rows s → Classes c rows t
  all_laid rows {s} {t} k hs h =
      let held : (r : ℕ) → r < c.a → Held c.q r (class_from c.a r 0 (take rows c.rows)) t =
      λ r g. subst⁻¹ (Held c.q r (class_from c.a r 0 (take rows c.rows))) h
      (table_held c (valid_of number known) few-classes r (omega (arith, few-classes)) s hs rows k (omega (arith, few-entries r g, entries-few c r rows))) in
      record {
        few = record { classes = few-classes; entries = few-entries };
        counts = λ r g. (held r g).count;
        each = λ r g i j. bounds_kept (sym (entry_front c r rows i j)) refl refl ((held r g).each i j);
      }

-- ---- how many entries have no idle position

-- the number of class r is noted: one class more
pub noted_more : {s : Shape} {r e : ℕ} {t : ClassTable} → length t.whole ≡ max_classes → r < (code_of s.number).a → Counted s r t → Whole s.fill r (get_or t.counts r 0) t.ends e
    → Counted s (r + 1) (record { starts = t.starts; ends = t.ends; counts = t.counts; whole = set t.whole r e; addresses = t.addresses })
noted_more {s} {r} {e} {t} size hr h w = record {
  laid = record { few = h.laid.few; counts = h.laid.counts; each = h.laid.each };
  whole = λ x l. go x l (dec_lt x r);
}
  where
    go : (x : ℕ) → x < r + 1 → Dec (x < r) → Whole s.fill x (get_or t.counts x 0) t.ends (get_or (set t.whole r e) x 0)
    go x l (yes d) = subst⁻¹ (Whole s.fill x (get_or t.counts x 0) t.ends) (get_or-set_other t.whole r x e 0 (λ z. omega arith)) (h.whole x d)
    go x l (no d) =
        let z : r ≡ x = omega arith in
        subst (λ (k : ℕ). Whole s.fill k (get_or t.counts k 0) t.ends (get_or (set t.whole r e) k 0)) z
        (subst⁻¹ (Whole s.fill r (get_or t.counts r 0) t.ends) (get_or-set_same t.whole r e 0 (omega (arith, size, h.laid.few.classes))) w)
