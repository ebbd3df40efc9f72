-- The information positions of a check row that are sent: those of the first table rows, less the idle ones of the last of these rows.
-- Assumes nothing.
use Rattle.std.specs.Int.{from_bool}
use Rattle.std.proofs.Common.{◌≡◌, ℕ, suc, add-zero, ◌+◌, ◌-◌, ◌*◌, ◌/◌, ◌%◌, ◌<◌, ◌≤◌, Bool, true, false, ltb, List, [], length, get_or, take, drop, set, sym, refl, ap, ◌∙◌, subst, ap₂, mul-le-mul_right, mod-lt, suc-mul, mul-le-mul_left, zero-add, add-one, arith, length-drop, length-set, length-take-le, get_or-drop, get_or-set_other, get_or-take, get_or-set_same, le-ltb, lt-ltb}
use mathlib.Core.Path.{subst⁻¹}
use native.Mathlib.Decide.{dec_lt}
use Rattle.algebra.specs.Sums.{◌⊕◌, pick, sum}
use Rattle.algebra.proofs.Sums as sums
use Rattle.algebra.proofs.Codeword.{slot}
use Rattle.symbol_sums.specs.Gather.{gathered}
use Rattle.ccsds.specs.Codes.{Params, touches}
use Rattle.ccsds.specs.Tables.{code_of, Known}
use Rattle.ccsds.specs.declared.tables.Layout.{Layout}
use Rattle.ccsds.specs.inner.Layout.{LayoutOf, max_m}
use Rattle.ccsds.proofs.Valid.{Valid, valid_of, some-a}
use Rattle.encoder.specs.declared.positions.Shape.{Shape}
use Rattle.encoder.specs.declared.positions.ClassTable.{ClassTable}
use Rattle.encoder.specs.inner.Positions.{Entry, class_of, positions, entries_of, Shaped, Table, Entries, Kept, Information}
use Rattle.encoder.proofs.Touched.{row_lt', Below, table_below, entry_good, class_good, positions-count, positions-each, positions_touch, positions-sum, hit_at}
use Rattle.encoder.proofs.ClassTable.{entries-few, entry_front, entry_behind}

-- ---- sums of which only the front counts

pub sum-front : (a : ℕ → Bool) (x : ℕ → ℕ) (k n : ℕ) → k ≤ n → ((p : ℕ) → k ≤ p → p < n → pick (a p) (x p) ≡ 0) → sum a x n ≡ sum a x k
sum-front a x k n h z =
    let e : k + (n - k) ≡ n = omega arith in
    ap (sum a x) (sym e) ∙ sums.sum_append a x k (n - k)
    ∙ ap (λ (t : ℕ). sum a x k ⊕ t)
    (sums.sum_terms (λ i. a (k + i)) (λ i. false) (λ i. x (k + i)) (λ i. 0) (n - k) (λ p l. z (k + p) (omega arith) (omega arith)) ∙ sums.sum_zeros (λ i. false) (n - k))
    ∙ sums.unit (sum a x k)

pub pick-zero : (b : Bool) → pick b 0 ≡ 0
pick-zero true = refl
pick-zero false = refl

-- f below fill, and 0 from there on
abbrev cut : ℕ → (ℕ → ℕ) → ℕ → ℕ
cut fill f x = pick (ltb x fill) (f x)

cut_below : (fill : ℕ) (f : ℕ → ℕ) (x : ℕ) → x < fill → cut fill f x ≡ f x
cut_below fill f x h = ap (λ (b : Bool). pick b (f x)) (lt-ltb x fill h)

cut_above : (fill : ℕ) (f : ℕ → ℕ) (x : ℕ) → fill ≤ x → cut fill f x ≡ 0
cut_above fill f x h = ap (λ (b : Bool). pick b (f x)) (le-ltb x fill h)

-- ---- positions by their entry's table row

-- entry i of the class of check row j
abbrev entry_at : Params → ℕ → ℕ → Entry
entry_at c j i = get_or (class_of c (j % c.a)) i (0, 0)

-- a position stands in the table row of its entry
at_row : (c : Params) (v : Valid c) (j i : ℕ) → i < length (class_of c (j % c.a))
    → ((entry_at c j i).0 * c.q ≤ get_or (positions c j) i 0) × (get_or (positions c j) i 0 < (entry_at c j i).0 * c.q + c.q)
at_row c v j i h =
    let e = positions-each c v j i h in
    let l = mod-lt (c.q - (entry_at c j i).1 + j / c.a) v.some-q in
    (omega (arith, e), omega (arith, e, l))

module _ (c : Params) (v : Valid c) (j rows : ℕ) (within : rows ≤ length c.rows) where
  abbrev r : ℕ
  r = j % c.a

  -- of the first `rows` rows
  pub front_lt : (i : ℕ) → i < entries_of c r rows → get_or (positions c j) i 0 < rows * c.q
  front_lt i h =
      let g = entry_good c v r 0 (take rows c.rows) (λ y l. subst⁻¹ (Below c.m) (get_or-take rows c.rows y [] (omega (arith, length-take-le rows c.rows within))) (table_below c v y (omega (arith, length-take-le rows c.rows within)))) i h in
      let e : (entry_at c j i).0 < rows = subst (λ (x : Entry). x.0 < rows) (entry_front c r rows i h) (omega (arith, g.1, zero-add (length (take rows c.rows)), length-take-le rows c.rows within)) in
      omega (arith, (at_row c v j i (omega (arith, entries-few c r rows))).1, slot (entry_at c j i).0 rows c.q e)

  -- of a later one
  pub behind_le : (i : ℕ) → entries_of c r rows ≤ i → i < length (class_of c r) → rows * c.q ≤ get_or (positions c j) i 0
  behind_le i h l =
      let n = length-take-le rows c.rows within in
      let b = entry_behind c r rows i h l in
      let g = entry_good c v r (length (take rows c.rows)) (drop rows c.rows) below b.0 b.1.0 in
      let e : rows ≤ (entry_at c j i).0 = subst⁻¹ (λ (x : Entry). rows ≤ x.0) b.1.1 (omega (arith, g.0, n)) in
      omega (arith, (at_row c v j i l).0, mul-le-mul_right c.q e)
    where
      below : (y : ℕ) → y < length (drop rows c.rows) → Below c.m (get_or (drop rows c.rows) y [])
      below y k = subst⁻¹ (Below c.m) (get_or-drop rows c.rows y []) (table_below c v (rows + y) (omega (arith, length-drop rows c.rows)))

-- the entries in an array
module _ (c : Params) (v : Valid c) {rows j n : ℕ} {xs : List ℕ} (e : Entries c rows j n xs) (within : rows ≤ length c.rows) where
  pub entries_lt : (i : ℕ) → i < n → get_or xs i 0 < rows * c.q
  entries_lt i h = subst⁻¹ (λ (t : ℕ). t < rows * c.q) (e.each i h) (front_lt c v j rows within i (omega (arith, e.count)))

  -- those up to one whose table row ends by fill are below fill
  pub entries-to : (fill d : ℕ) → d < n → (entry_at c j d).0 * c.q + c.q ≤ fill → (i : ℕ) → i ≤ d → get_or xs i 0 < fill
  entries-to fill d h l i g =
      let row = (entry_at c j d).0 in
      let few = entries-few c (j % c.a) rows in
      let in_table : suc row ≤ length c.rows = (class_good c v (j % c.a) d (omega (arith, e.count))).1 in
      subst⁻¹ (λ (t : ℕ). t < fill) (e.each i (omega arith))
      (omega (arith, front_lt c v j (suc row) in_table i (before (dec_lt d (entries_of c (j % c.a) (suc row))) in_table), suc-mul row c.q))
    where
      before : Dec (d < entries_of c (j % c.a) (suc (entry_at c j d).0)) → suc (entry_at c j d).0 ≤ length c.rows → i < entries_of c (j % c.a) (suc (entry_at c j d).0)
      before (yes k) w = omega arith
      before (no k) w =
          let b : d < length (class_of c (j % c.a)) = omega (arith, e.count, entries-few c (j % c.a) rows) in
          absurd (omega (arith, behind_le c v j (suc (entry_at c j d).0) w d (omega arith) b, (at_row c v j d b).1, suc-mul (entry_at c j d).0 c.q))

-- ---- from the entries to the positions that are sent

-- nothing is idle
pub kept_all : (fill n : ℕ) (xs : List ℕ) → ((i : ℕ) → i < n → get_or xs i 0 < fill) → Kept fill n xs n xs
kept_all fill n xs h = record {
  size = refl;
  few = omega arith;
  below = h;
  found = λ i l g. (i, (l, refl));
  total = λ f. sums.sum_ext (λ i. true) (λ i. f (get_or xs i 0)) (λ i. cut fill f (get_or xs i 0)) n (λ i l. sym (cut_below fill f (get_or xs i 0) (h i l)));
}

-- one position more: x, the one at e, is put behind the k that are kept, and stays there if it is below fill
module _ (fill : ℕ) {e k x : ℕ} {xs ys : List ℕ} (h : Kept fill e xs k ys) (room : k < length ys) (is : x ≡ get_or xs e 0) where
  same : (i : ℕ) → i < k → get_or (set ys k x) i 0 ≡ get_or ys i 0
  same i l = get_or-set_other ys k i x 0 (λ z. omega arith)

  old_total : (f : ℕ → ℕ) → gathered f (set ys k x) k ≡ gathered (cut fill f) xs e
  old_total f = sums.sum_ext (λ i. true) (λ i. f (get_or (set ys k x) i 0)) (λ i. f (get_or ys i 0)) k (λ i l. ap f (same i l)) ∙ h.total f

  last-total : (f : ℕ → ℕ) → gathered (cut fill f) xs (e + 1) ≡ gathered (cut fill f) xs e ⊕ cut fill f x
  last-total f =
      ap (gathered (cut fill f) xs) (add-one e) ∙ sums.sum-suc (λ i. true) (λ i. cut fill f (get_or xs i 0)) e
      ∙ ap (λ (t : ℕ). gathered (cut fill f) xs e ⊕ cut fill f t) (sym is)

  kept-one : x < fill → Kept fill (e + 1) xs (k + 1) (set ys k x)
  kept-one l = record {
    size = length-set ys k x ∙ h.size;
    few = omega (arith, h.few);
    below = λ i g. below i g (dec_lt i k);
    found = λ i g b. found i g b (dec_lt i e);
    total = λ f.
        ap (gathered f (set ys k x)) (add-one k) ∙ sums.sum-suc (λ i. true) (λ i. f (get_or (set ys k x) i 0)) k
        ∙ ap₂ ◌⊕◌ (old_total f) (ap f (get_or-set_same ys k x 0 room) ∙ sym (cut_below fill f x l)) ∙ sym (last-total f);
  }
    where
      below : (i : ℕ) → i < k + 1 → Dec (i < k) → get_or (set ys k x) i 0 < fill
      below i g (yes d) = subst⁻¹ (λ (t : ℕ). t < fill) (same i d) (h.below i d)
      below i g (no d) = let z : k ≡ i = omega arith in subst (λ (t : ℕ). get_or (set ys k x) t 0 < fill) z (subst⁻¹ (λ (t : ℕ). t < fill) (get_or-set_same ys k x 0 room) l)

      found : (i : ℕ) → i < e + 1 → get_or xs i 0 < fill → Dec (i < e) → (y : ℕ) × ((y < k + 1) × (get_or (set ys k x) y 0 ≡ get_or xs i 0))
      found i g b (yes d) = let s = h.found i d b in (s.0, (omega (arith, s.1.0), same s.0 s.1.0 ∙ s.1.1))
      found i g b (no d) = let z : e ≡ i = omega arith in (k, (omega arith, get_or-set_same ys k x 0 room ∙ is ∙ ap (λ (t : ℕ). get_or xs t 0) z))

  dropped_one : fill ≤ x → Kept fill (e + 1) xs k (set ys k x)
  dropped_one l = record {
    size = length-set ys k x ∙ h.size;
    few = omega (arith, h.few);
    below = λ i g. subst⁻¹ (λ (t : ℕ). t < fill) (same i g) (h.below i g);
    found = λ i g b. found i g b (dec_lt i e);
    total = λ f.
        old_total f
        ∙ sym (last-total f ∙ ap (λ (t : ℕ). gathered (cut fill f) xs e ⊕ t) (cut_above fill f x l) ∙ sums.unit (gathered (cut fill f) xs e));
  }
    where
      found : (i : ℕ) → i < e + 1 → get_or xs i 0 < fill → Dec (i < e) → (y : ℕ) × ((y < k) × (get_or (set ys k x) y 0 ≡ get_or xs i 0))
      found i g b (yes d) = let s = h.found i d b in (s.0, (s.1.0, same s.0 s.1.0 ∙ s.1.1))
      found i g b (no d) = let z : i ≡ e = omega arith in absurd (omega (arith, ap (λ (t : ℕ). get_or xs t 0) z, is))

  -- one more is kept where x is below fill
  pub kept_more : {r : ℕ} → r ≡ from_bool (ltb x fill) → Kept fill (e + 1) xs (k + r) (set ys k x)
  kept_more z = subst⁻¹ (λ (t : ℕ). Kept fill (e + 1) xs (k + t) (set ys k x)) z (go (dec_lt x fill))
    where
      go : Dec (x < fill) → Kept fill (e + 1) xs (k + from_bool (ltb x fill)) (set ys k x)
      go (yes l) = subst⁻¹ (λ (b : Bool). Kept fill (e + 1) xs (k + from_bool b) (set ys k x)) (lt-ltb x fill l) (kept-one l)
      go (no l) = subst⁻¹ (λ (b : Bool). Kept fill (e + 1) xs (k + from_bool b) (set ys k x)) (le-ltb x fill (omega arith)) (subst⁻¹ (λ (t : ℕ). Kept fill (e + 1) xs t (set ys k x)) (add-zero k) (dropped_one (omega arith)))

-- ---- a block's shape

-- what `rows_to` asks for
pub row-width : (number : ℕ) (l : Layout) → Known number → LayoutOf (code_of number) l → (0 < l.q) × (l.q ≤ max_m)
row-width number l known given =
    let v = valid_of number known in
    (omega (arith, v.some-q, given.q), omega (arith, given.q, mul-le-mul_left (code_of number).q (some-a _ v), v.step, v.few-rows))

pub shaped : (s : Shape) → Known s.number → LayoutOf (code_of s.number) s.layout → s.fill ≤ (code_of s.number).k
    → (s.fill ≤ s.rows * s.layout.q) × (s.rows * s.layout.q < s.fill + s.layout.q) → Shaped s
shaped s known given most h =
    let c = code_of s.number in
    let v = valid_of s.number known in
    let e : s.rows * s.layout.q ≡ s.rows * c.q = ap (λ (t : ℕ). s.rows * t) given.q in
    let no_more : s.rows * c.q < s.fill + c.q = omega (arith, e, h.1, given.q) in
    record { known = known; given = given; most = most; enough = omega (arith, e, h.0); no_more = no_more; within = go c v most no_more (dec_lt (length c.rows) s.rows) }
  where
    go : (c : Params) → Valid c → s.fill ≤ c.k → s.rows * c.q < s.fill + c.q → Dec (length c.rows < s.rows) → s.rows ≤ length c.rows
    go c v m l (yes d) = absurd (omega (arith, v.whole, slot (length c.rows) s.rows c.q d))
    go c v m l (no d) = omega arith

module _ (c : Params) (v : Valid c) (fill rows j : ℕ) (within : rows ≤ length c.rows) (most : fill ≤ c.k) (enough : fill ≤ rows * c.q) (hj : j < c.m)
    {n r : ℕ} {xs ys : List ℕ} (e : Entries c rows j n xs) (k : Kept fill n xs r ys) where
  -- the positions from n on are not below fill
  behind-n : (i : ℕ) → n ≤ i → i < length (positions c j) → fill ≤ get_or (positions c j) i 0
  behind-n i h l = omega (arith, behind_le c v j rows within i (omega (arith, e.count)) (omega (arith, positions-count c v j)))

  front-sum : (f : ℕ → ℕ) → gathered (cut fill f) xs n ≡ gathered (cut fill f) (positions c j) (length (positions c j))
  front-sum f =
      sums.sum_ext (λ i. true) (λ i. cut fill f (get_or xs i 0)) (λ i. cut fill f (get_or (positions c j) i 0)) n (λ i g. ap (cut fill f) (e.each i g))
      ∙ sym (sum-front (λ i. true) (λ i. cut fill f (get_or (positions c j) i 0)) n (length (positions c j)) (omega (arith, e.count, entries-few c (j % c.a) rows, positions-count c v j))
      (λ i h l. cut_above fill f (get_or (positions c j) i 0) (behind-n i h l)))

  sent_information : Information c fill j r ys
  sent_information = record {
    size = k.size ∙ e.size;
    few = omega (arith, e.few, k.few);
    below = k.below;
    found = found;
    total = λ f.
        k.total f ∙ front-sum f ∙ positions-sum c v j hj (cut fill f)
        ∙ sum-front (λ x. touches c x j) (cut fill f) fill c.k most (λ x h l. ap (pick (touches c x j)) (cut_above fill f x h) ∙ pick-zero (touches c x j))
        ∙ sums.sum_ext (λ x. touches c x j) (cut fill f) f fill (cut_below fill f);
  }
    where
      found : (x : ℕ) → x < fill → touches c x j ≡ true → (y : ℕ) × ((y < r) × (get_or ys y 0 ≡ x))
      found x h t =
          let a = hit_at (positions c j) x (positions_touch c v j hj x ∙ t) in
          let i = a.0 in
          go (dec_lt i n) a.1
        where
          go : {i : ℕ} → Dec (i < n) → (i < length (positions c j)) × (get_or (positions c j) i 0 ≡ x) → (y : ℕ) × ((y < r) × (get_or ys y 0 ≡ x))
          go (yes l) b =
              let z = e.each _ l ∙ b.1 in
              let s = k.found _ l (omega (arith, z)) in
              (s.0, (s.1.0, s.1.1 ∙ z))
          go (no l) b = absurd (omega (arith, behind-n _ (omega arith) b.0, b.1))

-- what holds of a code's number, a width and a fill holds of equal ones
pub at_numbers : (P : ℕ → ℕ → ℕ → Type 0) {number w fill number' w' fill' : ℕ} → number' ≡ number → w' ≡ w → fill' ≡ fill → P number w fill → P number' w' fill'
at_numbers P {number} {w} {w' = w'} {fill' = fill'} n e f h =
    subst⁻¹ (λ (x : ℕ). P x w' fill') n (subst⁻¹ (λ (x : ℕ). P number x fill') e (subst⁻¹ (λ (x : ℕ). P number w x) f h))

-- so for a block's shape and its table
module _ (s : Shape) {t : ClassTable} (T : Table s t) (i r : ℕ) (hr : r < (code_of s.number).a) (hi : i < (code_of s.number).q) where
  pub table_sent : {n m : ℕ} {xs ys : List ℕ} → Entries (code_of s.number) s.rows (i * (code_of s.number).a + r) n xs → Kept s.fill n xs m ys
      → Information (code_of s.number) s.fill (i * (code_of s.number).a + r) m ys
  table_sent e k =
      let v = valid_of s.number T.shaped.known in
      sent_information (code_of s.number) v s.fill s.rows (i * (code_of s.number).a + r) T.shaped.within T.shaped.most T.shaped.enough
      (row_lt' (code_of s.number) v r i hr hi) e k
