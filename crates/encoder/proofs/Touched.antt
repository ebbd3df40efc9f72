-- The positions of a check row are just the information symbols that touch it.
-- Assumes nothing.
use Rattle.std.proofs.Common.{◌≡◌, ℕ, zero, suc, ◌+◌, ◌-◌, ◌*◌, ◌/◌, ◌%◌, ◌<◌, ◌≤◌, Bool, true, false, ◌||◌, eqb, List, [], ◌∷◌, ◌++◌, map, length, get_or, sym, refl, ap, ◌∙◌, subst, ap₂, le_of_suc-le-suc, not-suc-le-zero, mod-lt, div-lt_iff_lt-mul, add-mul, div-add-mod', zero-add, arith, eq-eqb, ne_eqb, eqb-true}
use mathlib.Core.Bool.{xor, false≢true}
use native.Mathlib.Decide.{ℕ_discrete}
use lib.Arith.{digits_div, digits_mod, digits_lt}
use lib.ListN.{length-map}
use Rattle.algebra.specs.Sums.{◌⊕◌, sum}
use Rattle.symbol_sums.specs.Gather.{gathered}
use Rattle.algebra.proofs.Sums as sums
use Rattle.algebra.proofs.Codeword.{slot}
use Rattle.ccsds.specs.Codes.{Params, row_of, check_row_of, hits, touches}
use Rattle.ccsds.proofs.Table.{get_d_map}
use Rattle.ccsds.proofs.Valid.{Valid, Apart, some-a, row_apart, hit_once, address_lt}
use Rattle.encoder.specs.inner.Positions.{Entry, entry_if, class_in, class_from, class_of, position_at, positions, EntryBounds, WithinRow}
use Rattle.encoder.proofs.Cycle.{there, back, blocks}

-- ---- one address

module _ (c : Params) (v : Valid c) where
  -- the quotient of a number below m is below q
  pub quotient_lt : (y : ℕ) → y < c.m → y / c.a < c.q
  quotient_lt y h = (div-lt_iff_lt-mul (some-a c v)).1 (omega (arith, v.step))

  module _ (x y j : ℕ) (hy : y < c.m) (hj : j < c.m) where
    -- the check row by its quotient and remainder
    placed : check_row_of c x y ≡ (y / c.a + x % c.q) % c.q * c.a + y % c.a
    unfolding check_row_of
    placed =
        let r : y % c.a < c.a = mod-lt y (some-a c v) in
        let t : x % c.q < c.q = mod-lt x v.some-q in
        let e : y + x % c.q * c.a ≡ (y / c.a + x % c.q) * c.a + y % c.a =
        omega (arith, add-mul (y / c.a) (x % c.q) c.a, div-add-mod' y c.a) in
        ap₂ ◌%◌ e (sym v.step) ∙ blocks c.q c.a (y / c.a + x % c.q) (y % c.a) (omega (arith, quotient_lt y hy)) r

    placed_remainder : check_row_of c x y ≡ j → y % c.a ≡ j % c.a
    placed_remainder e = sym (digits_mod _ (mod-lt y (some-a c v))) ∙ ap (λ (n : ℕ). n % c.a) (sym placed ∙ e)

    placed_quotient : check_row_of c x y ≡ j → (y / c.a + x % c.q) % c.q ≡ j / c.a
    placed_quotient e = sym (digits_div _ (mod-lt y (some-a c v))) ∙ ap (λ (n : ℕ). n / c.a) (sym placed ∙ e)

    placed_is : y % c.a ≡ j % c.a → (y / c.a + x % c.q) % c.q ≡ j / c.a → check_row_of c x y ≡ j
    placed_is e f = placed ∙ ap₂ (λ (n r : ℕ). n * c.a + r) f e ∙ div-add-mod' j c.a

    -- another class
    other : eqb (y % c.a) (j % c.a) ≡ false → eqb (check_row_of c x y) j ≡ false
    other e = ne_eqb (check_row_of c x y) j (λ h. false≢true (sym e ∙ eq-eqb (y % c.a) (j % c.a) (placed_remainder h)))

    -- the same class, and x in the table row: x is the position just when it touches j
    same : eqb (y % c.a) (j % c.a) ≡ true → eqb (position_at c.q (j / c.a) (x / c.q, y / c.a)) x ≡ eqb (check_row_of c x y) j
    same e = go (ℕ_discrete (check_row_of c x y) j)
      where
        p : ℕ
        p = position_at c.q (j / c.a) (x / c.q, y / c.a)

        t : x % c.q < c.q
        t = mod-lt x v.some-q

        go : Dec (check_row_of c x y ≡ j) → eqb p x ≡ eqb (check_row_of c x y) j
        go (yes h) =
            let f : p ≡ x = ap (λ (k : ℕ). x / c.q * c.q + k) (back c.q (y / c.a) (j / c.a) (x % c.q) (quotient_lt y hy) (quotient_lt j hj) t (placed_quotient h))
            ∙ div-add-mod' x c.q in
            eq-eqb p x f ∙ sym (eq-eqb (check_row_of c x y) j h)
        go (no h) =
            ne_eqb p x (λ f. h (placed_is (eqb-true _ _ e) (there c.q (y / c.a) (j / c.a) (x % c.q) (quotient_lt y hy) (quotient_lt j hj) t
            (sym (digits_mod (x / c.q) (mod-lt (c.q - y / c.a + j / c.a) v.some-q)) ∙ ap (λ (n : ℕ). n % c.q) f))))
            ∙ sym (ne_eqb (check_row_of c x y) j h)

-- ---- a list of positions and a list of addresses, whatever joins the tests

unfoldable pub folded : (Bool → Bool → Bool) → (ℕ → ℕ) → List ℕ → ℕ → Bool
folded op f [] j = false
folded op f (y ∷ ys) j = op (eqb (f y) j) (folded op f ys j)

-- all are below m
abbrev pub Below : ℕ → List ℕ → Type 0
Below m [] = Unit {0}
Below m (y ∷ ys) = (y < m) × Below m ys

below_of : (m : ℕ) (ys : List ℕ) → ((i : ℕ) → i < length ys → get_or ys i 0 < m) → Below m ys
below_of m [] h = tt
below_of m (y ∷ ys) h = (h 0 (omega arith), below_of m ys (λ i g. h (suc i) (omega arith)))

-- none of them is x
abbrev Misses : List ℕ → ℕ → Type 0
Misses [] x = Unit {0}
Misses (p ∷ ps) x = (eqb p x ≡ false) × Misses ps x

misses_join : (l k : List ℕ) (x : ℕ) → Misses l x → Misses k x → Misses (l ++ k) x
misses_join [] k x a b = b
misses_join (p ∷ l) k x a b = (a.0, misses_join l k x a.1 b)

module _ (op : Bool → Bool → Bool) (unit : (b : Bool) → op false b ≡ b) where
  folded_none : (l : List ℕ) (x : ℕ) → Misses l x → folded op (λ z. z) l x ≡ false
  unfolding folded
  folded_none [] x h = refl
  folded_none (p ∷ l) x h = ap₂ op h.0 (folded_none l x h.1) ∙ unit false

  folded_left : (l k : List ℕ) (x : ℕ) → Misses k x → folded op (λ z. z) (l ++ k) x ≡ folded op (λ z. z) l x
  unfolding folded
  folded_left [] k x h = folded_none k x h
  folded_left (p ∷ l) k x h = ap (op (eqb p x)) (folded_left l k x h)

  folded_right : (l k : List ℕ) (x : ℕ) → Misses l x → folded op (λ z. z) (l ++ k) x ≡ folded op (λ z. z) k x
  unfolding folded
  folded_right [] k x h = refl
  folded_right (p ∷ l) k x h = ap₂ op h.0 (folded_right l k x h.1) ∙ unit (folded op (λ z. z) k x)

-- ---- entries

-- every entry has the property
abbrev All : (Entry → Type 0) → List Entry → Type 0
All P [] = Unit {0}
All P (e ∷ es) = P e × All P es

all_join : (P : Entry → Type 0) (l k : List Entry) → All P l → All P k → All P (l ++ k)
all_join P [] k a b = b
all_join P (e ∷ l) k a b = (a.0, all_join P l k a.1 b)

all_at : (P : Entry → Type 0) (l : List Entry) → All P l → (i : ℕ) → i < length l → P (get_or l i (0, 0))
all_at P [] g i h = absurd (not-suc-le-zero h)
all_at P (e ∷ l) g zero h = g.0
all_at P (e ∷ l) g (suc i) h = all_at P l g.1 i (le_of_suc-le-suc h)

-- a table row from `from` on and below n, and a quotient below q
abbrev Good : ℕ → ℕ → ℕ → Entry → Type 0
Good from n q e = (from ≤ e.0) × (e.0 < n) × (e.1 < q)

module _ (c : Params) (v : Valid c) where
  -- every address is below m
  pub table_below : (row : ℕ) → row < length c.rows → Below c.m (get_or c.rows row [])
  table_below row h = below_of c.m (get_or c.rows row []) (address_lt c v row h)

  module _ (r : ℕ) where
    module _ (from n : ℕ) where
      class_in_good : (row : ℕ) (ys : List ℕ) → from ≤ row → row < n → Below c.m ys → All (Good from n c.q) (class_in c.a r row ys)
      unfolding class_in
      class_in_good row [] l h b = tt
      class_in_good row (y ∷ ys) l h b = go (eqb (y % c.a) r) (class_in_good row ys l h b.1)
        where
          go : (t : Bool) → All (Good from n c.q) (class_in c.a r row ys) → All (Good from n c.q) (entry_if t (row, y / c.a) (class_in c.a r row ys))
          go true g = ((l, h, quotient_lt c v y b.0), g)
          go false g = g

      class_from_good : (row : ℕ) (rest : List (List ℕ)) → from ≤ row → row + length rest ≤ n → ((i : ℕ) → i < length rest → Below c.m (get_or rest i []))
          → All (Good from n c.q) (class_from c.a r row rest)
      unfolding class_from
      class_from_good row [] l h b = tt
      class_from_good row (ys ∷ rest) l h b =
          all_join (Good from n c.q) (class_in c.a r row ys) (class_from c.a r (suc row) rest) (class_in_good row ys l (omega arith) (b 0 (omega arith)))
          (class_from_good (suc row) rest (omega arith) (omega arith) (λ i g. b (suc i) (omega arith)))

    -- the entries of some rows of the table
    pub entry_good : (row : ℕ) (rest : List (List ℕ)) → ((i : ℕ) → i < length rest → Below c.m (get_or rest i [])) → (i : ℕ) → i < length (class_from c.a r row rest)
        → Good row (row + length rest) c.q (get_or (class_from c.a r row rest) i (0, 0))
    entry_good row rest b i h =
        all_at (Good row (row + length rest) c.q) (class_from c.a r row rest) (class_from_good row (row + length rest) row rest (omega arith) (omega arith) b) i h

    pub class_good : (i : ℕ) → i < length (class_of c r) → Good 0 (length c.rows) c.q (get_or (class_of c r) i (0, 0))
    unfolding class_of
    class_good i h = subst (λ (n : ℕ). Good 0 n c.q (get_or (class_from c.a r 0 c.rows) i (0, 0))) (zero-add (length c.rows)) (entry_good 0 c.rows table_below i h)

-- ---- the table

module _ (c : Params) (v : Valid c) (op : Bool → Bool → Bool) (unit : (b : Bool) → op false b ≡ b) (x j : ℕ) (hj : j < c.m) where
  abbrev at : Entry → ℕ
  at = position_at c.q (j / c.a)

  abbrev class : ℕ → List ℕ → List ℕ
  class row ys = map at (class_in c.a (j % c.a) row ys)

  -- x's own table row
  own_row : (row : ℕ) → row ≡ x / c.q → (ys : List ℕ) → Below c.m ys → folded op (λ z. z) (class row ys) x ≡ folded op (check_row_of c x) ys j
  unfolding folded class_in
  own_row row e [] b = refl
  own_row row e (y ∷ ys) b = go (eqb (y % c.a) (j % c.a)) refl (own_row row e ys b.1)
    where
      go : (t : Bool) → eqb (y % c.a) (j % c.a) ≡ t → folded op (λ z. z) (class row ys) x ≡ folded op (check_row_of c x) ys j
          → folded op (λ z. z) (map at (entry_if t (row, y / c.a) (class_in c.a (j % c.a) row ys))) x ≡ op (eqb (check_row_of c x y) j) (folded op (check_row_of c x) ys j)
      go true h r = ap₂ op (ap (λ (n : ℕ). eqb (at (n, y / c.a)) x) e ∙ same c v x y j b.0 hj h) r
      go false h r = r ∙ sym (ap (λ (t : Bool). op t (folded op (check_row_of c x) ys j)) (other c v x y j b.0 hj h) ∙ unit (folded op (check_row_of c x) ys j))

  -- a position of another table row is not x
  apart : (row h : ℕ) → (row ≡ x / c.q → ⊥) → eqb (at (row, h)) x ≡ false
  apart row h d =
      ne_eqb (at (row, h)) x (λ e. d (sym (digits_div row (mod-lt (c.q - h + j / c.a) v.some-q)) ∙ ap (λ (n : ℕ). n / c.q) e))

  other_row : (row : ℕ) → (row ≡ x / c.q → ⊥) → (ys : List ℕ) → Misses (class row ys) x
  unfolding class_in
  other_row row d [] = tt
  other_row row d (y ∷ ys) = go (eqb (y % c.a) (j % c.a)) (other_row row d ys)
    where
      go : (t : Bool) → Misses (class row ys) x → Misses (map at (entry_if t (row, y / c.a) (class_in c.a (j % c.a) row ys))) x
      go true r = (apart row (y / c.a) d, r)
      go false r = r

  map-join : (l k : List Entry) → map at (l ++ k) ≡ map at l ++ map at k
  map-join [] k = refl
  map-join (e ∷ l) k = ap (λ (r : List ℕ). at e ∷ r) (map-join l k)

  -- no row from here on is x's
  later_rows : (row : ℕ) (rest : List (List ℕ)) → x / c.q < row → Misses (map at (class_from c.a (j % c.a) row rest)) x
  unfolding class_from
  later_rows row [] h = tt
  later_rows row (ys ∷ rest) h =
      subst (λ (l : List ℕ). Misses l x) (sym (map-join (class_in c.a (j % c.a) row ys) (class_from c.a (j % c.a) (suc row) rest)))
      (misses_join (class row ys) (map at (class_from c.a (j % c.a) (suc row) rest)) x (other_row row (λ e. omega arith) ys) (later_rows (suc row) rest (omega arith)))

  from_row : (row : ℕ) (rest : List (List ℕ)) → ((i : ℕ) → i < length rest → Below c.m (get_or rest i [])) → (d : ℕ) → row + d ≡ x / c.q
      → folded op (λ z. z) (map at (class_from c.a (j % c.a) row rest)) x ≡ folded op (check_row_of c x) (get_or rest d []) j
  unfolding folded class_from
  from_row row [] b d e = refl
  from_row row (ys ∷ rest) b zero e =
      ap (λ (l : List ℕ). folded op (λ z. z) l x) (map-join (class_in c.a (j % c.a) row ys) (class_from c.a (j % c.a) (suc row) rest))
      ∙ folded_left op unit (class row ys) (map at (class_from c.a (j % c.a) (suc row) rest)) x (later_rows (suc row) rest (omega arith))
      ∙ own_row row (omega arith) ys (b 0 (omega arith))
  from_row row (ys ∷ rest) b (suc d) e =
      ap (λ (l : List ℕ). folded op (λ z. z) l x) (map-join (class_in c.a (j % c.a) row ys) (class_from c.a (j % c.a) (suc row) rest))
      ∙ folded_right op unit (class row ys) (map at (class_from c.a (j % c.a) (suc row) rest)) x (other_row row (λ q. omega arith) ys)
      ∙ from_row (suc row) rest (λ i g. b (suc i) (omega arith)) d (omega arith)

  pub positions_folded : folded op (λ z. z) (positions c j) x ≡ folded op (check_row_of c x) (row_of c x) j
  unfolding positions class_of row_of
  positions_folded = from_row 0 c.rows (table_below c v) (x / c.q) (omega arith)

-- ---- what a list has stands somewhere

pub hit_at : (l : List ℕ) (x : ℕ) → hits (λ z. z) l x ≡ true → (i : ℕ) × ((i < length l) × (get_or l i 0 ≡ x))
unfolding hits
hit_at [] x h = absurd (false≢true h)
hit_at (y ∷ l) x h = go (eqb y x) refl h (hit_at l x)
  where
    go : (b : Bool) → eqb y x ≡ b → (b || hits (λ z. z) l x) ≡ true → (hits (λ z. z) l x ≡ true → (i : ℕ) × ((i < length l) × (get_or l i 0 ≡ x)))
        → (i : ℕ) × ((i < length (y ∷ l)) × (get_or (y ∷ l) i 0 ≡ x))
    go true e g r = (0, (omega arith, eqb-true y x e))
    go false e g r = let s = r g in (suc s.0, (omega (arith, s.1.0), s.1.1))

-- ---- so their sum is the check row's

hits_folded : (f : ℕ → ℕ) (ys : List ℕ) (j : ℕ) → hits f ys j ≡ folded ◌||◌ f ys j
unfolding hits folded
hits_folded f [] j = refl
hits_folded f (y ∷ ys) j = ap (λ (t : Bool). eqb (f y) j || t) (hits_folded f ys j)

hits-xor : (f : ℕ → ℕ) (ys : List ℕ) (j : ℕ) → Apart f ys → hits f ys j ≡ folded xor f ys j
unfolding hits folded
hits-xor f [] j a = refl
hits-xor f (y ∷ ys) j a =
    hit_once (eqb (f y) j) (hits f ys j) (λ e. ap (hits f ys) (sym (eqb-true (f y) j e)) ∙ a.0)
    ∙ ap (xor (eqb (f y) j)) (hits-xor f ys j a.1)

xor_unit : (b : Bool) → xor false b ≡ b
unfolding xor
xor_unit true = refl
xor_unit false = refl

gathered-front : (u : ℕ → ℕ) (p : ℕ) (l : List ℕ) (n : ℕ) → gathered u (p ∷ l) (suc n) ≡ u p ⊕ gathered u l n
unfolding sum
gathered-front u p l zero = sums.comm 0 (u p)
gathered-front u p l (suc n) =
    ap (λ (x : ℕ). x ⊕ u (get_or l n 0)) (gathered-front u p l n) ∙ sums.assoc (u p) (gathered u l n) (u (get_or l n 0))

gathered-sum : (u : ℕ → ℕ) (k : ℕ) (l : List ℕ) → Below k l → sum (λ x. folded xor (λ z. z) l x) u k ≡ gathered u l (length l)
unfolding folded sum
gathered-sum u k [] h = sums.sum-none (λ x. false) u k (λ i g. refl)
gathered-sum u k (p ∷ l) h =
    sums.sum-xor (λ x. eqb p x) (λ x. folded xor (λ z. z) l x) u k
    ∙ ap₂ ◌⊕◌ (sums.sum-only (λ x. eqb p x) u p k h.0 (eq-eqb p p refl) (λ i g t. sym (eqb-true p i t))) (gathered-sum u k l h.1)
    ∙ sym (gathered-front u p l (length l))

module _ (c : Params) (v : Valid c) (j : ℕ) where
  pub positions-count : length (positions c j) ≡ length (class_of c (j % c.a))
  unfolding positions
  positions-count = length-map (class_of c (j % c.a)) (position_at c.q (j / c.a))

  pub positions-each : (i : ℕ) → i < length (class_of c (j % c.a)) → get_or (positions c j) i 0 ≡ position_at c.q (j / c.a) (get_or (class_of c (j % c.a)) i (0, 0))
  unfolding positions
  positions-each i h = get_d_map (position_at c.q (j / c.a)) (0, 0) (class_of c (j % c.a)) i h

  -- each is an information symbol's
  pub positions_lt : (i : ℕ) → i < length (positions c j) → get_or (positions c j) i 0 < c.k
  positions_lt i h =
      let g : i < length (class_of c (j % c.a)) = omega (arith, positions-count) in
      let e : Entry = get_or (class_of c (j % c.a)) i (0, 0) in
      subst (λ (n : ℕ). get_or (positions c j) i 0 < n) v.whole
      (subst (λ (n : ℕ). n < length c.rows * c.q) (sym (positions-each i g))
      (digits_lt (class_good c v (j % c.a) i g).1 (mod-lt (c.q - e.1 + j / c.a) v.some-q)))

  module _ (hj : j < c.m) where
    -- The positions of check row j: x below k is one of them just when it touches j.
    pub positions_touch : (x : ℕ) → hits (λ z. z) (positions c j) x ≡ touches c x j
    unfolding touches
    positions_touch x =
        hits_folded (λ z. z) (positions c j) x ∙ positions_folded c v ◌||◌ (λ b. refl) x j hj ∙ sym (hits_folded (check_row_of c x) (row_of c x) j)

    -- the sum of the symbols that touch j
    pub positions-sum : (u : ℕ → ℕ) → gathered u (positions c j) (length (positions c j)) ≡ sum (λ x. touches c x j) u c.k
    unfolding touches
    positions-sum u =
        sym (sums.sum_tests (λ x. touches c x j) (λ x. folded xor (λ z. z) (positions c j) x) u c.k (λ x h.
        hits-xor (check_row_of c x) (row_of c x) j (row_apart c v x h) ∙ sym (positions_folded c v xor xor_unit x j hj))
        ∙ gathered-sum u c.k (positions c j) (below_of c.k (positions c j) positions_lt))

-- ---- in the numbers that the code works with

module _ (c : Params) (v : Valid c) (r s : ℕ) (hr : r < c.a) (hs : s < c.q) where
  pub row_lt' : s * c.a + r < c.m
  row_lt' = subst (λ (n : ℕ). s * c.a + r < n) v.step (digits_lt hs hr)

  module _ (i : ℕ) (hi : i < length (class_of c r)) {first end : ℕ} (p : EntryBounds c.q (get_or (class_of c r) i (0, 0)) first end) where
    pub entry_fits : WithinRow first end c.q s
    entry_fits =
        let g = class_good c v r i hi in
        let e : Entry = get_or (class_of c r) i (0, 0) in
        let b : e.0 * c.q + c.q ≤ c.k = omega (arith, slot e.0 (length c.rows) c.q g.1, v.whole) in
        record { start = (omega (arith, p.start), omega (arith, p.start, g.2)); row = (omega (arith, p.last), omega (arith, p.last, v.few)); step = hs }

    pub row-each : end - c.q + (first + c.q - end + s) % c.q ≡ get_or (positions c (s * c.a + r)) i 0
    row-each =
        let e : Entry = get_or (class_of c r) i (0, 0) in
        let g = class_good c v r i hi in
        let a : end - c.q ≡ e.0 * c.q = omega (arith, p.last) in
        let b : first + c.q - end ≡ c.q - e.1 = omega (arith, p.start, g.2) in
        let m : r ≡ (s * c.a + r) % c.a = sym (digits_mod s hr) in
        let d : s ≡ (s * c.a + r) / c.a = sym (digits_div s hr) in
        ap₂ (λ (x y : ℕ). x + (y + s) % c.q) a b
        ∙ ap₂ (λ (x y : ℕ). position_at c.q x (get_or (class_of c y) i (0, 0))) d m
        ∙ sym (positions-each c v (s * c.a + r) i (subst (λ (n : ℕ). i < length (class_of c n)) m hi))
