-- Which code a number stands for, and the tests by which a code's numbers fit its table.
-- Assumes nothing.
use mathlib.Core.Path.{◌≡◌, refl, sym, ap, ◌∙◌, subst, subst⁻¹}
use mathlib.Core.Bool.{Bool, true, false, ◌&&◌, ◌||◌, cond, false≢true}
use mathlib.Core.List.{List, [], ◌∷◌}
use Prim.Native.Nat.{ℕ, zero, suc, ◌+◌, ◌<◌, ◌≤◌}
use native.Mathlib.Nat.{le_of_suc-le-suc, not-suc-le-zero, zero-lt-suc}
use native.Mathlib.Omega.{arith}
use lib.Dec.{T, lit<, lit≤, eqb, eqb→eq, ltb, leb, leb→le}
use lib.ListN.{length, get_or, drop, length-drop}
use lib.Seq.{get_or-drop}
use borrow.Author.Tests.{ne_eqb}
use Rattle.ccsds.specs.Codes.{Params}
use Rattle.ccsds.specs.Tables.{code_of, code_in, codes, is_code, number_in, c0}
use Rattle.ccsds.specs.inner.Layout.{LayoutOf, FrontIs, degree_of, start_of, joined, max_n, max_rows, max_degree, max_addresses}
use Rattle.ccsds.specs.declared.tables.Layout.{Layout}
use Rattle.ccsds.proofs.Table.{every, at, both_left, both_right}

-- a number that is none of the codes', as the last arm of a match over them knows it
abbrev pub Other : ℕ → Type 0
Other n = (((((Unit {0} × (n ≡ 1 → ⊥)) × (n ≡ 2 → ⊥)) × (n ≡ 4 → ⊥)) × (n ≡ 5 → ⊥)) × (n ≡ 7 → ⊥)) × (n ≡ 8 → ⊥)

pub no_code : (n : ℕ) → Other n → is_code n ≡ false
unfolding is_code number_in codes
no_code n r =
    simp (ne_eqb n 1 r.0.0.0.0.0.1, ne_eqb n 2 r.0.0.0.0.1, ne_eqb n 4 r.0.0.0.1, ne_eqb n 5 r.0.0.1, ne_eqb n 7 r.0.1, ne_eqb n 8 r.1)

none_in : (ps : List (ℕ × Params)) (n : ℕ) → number_in ps n ≡ false → code_in ps n ≡ c0
unfolding number_in code_in
none_in [] n h = refl
none_in (p ∷ ps) n h = go (eqb n p.0) (none_in ps n) h
  where
    go : (b : Bool) → (number_in ps n ≡ false → code_in ps n ≡ c0) → (b || number_in ps n) ≡ false → cond b p.1 (code_in ps n) ≡ c0
    go true r h = absurd (false≢true (sym h))
    go false r h = r h

-- it has no parameters
pub none : (n : ℕ) → is_code n ≡ false → code_of n ≡ c0
unfolding is_code code_of
none n h = none_in codes n h

-- the second list begins with the first
abbrev prefix : List ℕ → List ℕ → Bool
prefix [] ys = true
prefix (x ∷ xs) [] = false
prefix (x ∷ xs) (y ∷ ys) = eqb y x && prefix xs ys

prefix_at : (xs ys : List ℕ) → T (prefix xs ys) → (i : ℕ) → i < length xs → (i < length ys) × (get_or ys i 0 ≡ get_or xs i 0)
prefix_at [] ys t i h = absurd (not-suc-le-zero h)
prefix_at (x ∷ xs) [] t i h = absurd t
prefix_at (x ∷ xs) (y ∷ ys) t zero h = (zero-lt-suc (length ys), eqb→eq y x (both_left (eqb y x) (prefix xs ys) t))
prefix_at (x ∷ xs) (y ∷ ys) t (suc i) h =
    let r = prefix_at xs ys (both_right (eqb y x) (prefix xs ys) t) i (le_of_suc-le-suc h) in
    (omega (arith, r.0), r.1)

-- a row is as long as the numbers say, and stands in the flat array where they say
abbrev right : Params → Layout → ℕ → List ℕ → Bool
right c r row l = eqb (length l) (degree_of r row) && prefix l (drop (start_of r row) (joined c.rows))

-- the tests of a code's numbers against its table
abbrev tests : Params → Layout → List Bool
tests c r =
    eqb r.k c.k ∷ eqb r.m c.m ∷ eqb r.q c.q ∷ eqb r.a c.a ∷ eqb r.rows (length c.rows)
    ∷ leb r.long max_rows ∷ leb r.degree max_degree ∷ leb r.rest max_degree
    ∷ leb (length c.rows) max_rows ∷ leb (r.k + r.m) max_n ∷ leb (length (joined c.rows)) max_addresses
    ∷ every (right c r) 0 c.rows ∷ []

abbrev pub fits : Params → Layout → Bool
fits c r = every (λ i b. b) 0 (tests c r)

pub given : (c : Params) (r : Layout) → T (fits c r) → LayoutOf c r
given c r t =
    record {
      k = eqb→eq r.k c.k (one 0 (lit< tt));
      m = eqb→eq r.m c.m (one 1 (lit< tt));
      q = eqb→eq r.q c.q (one 2 (lit< tt));
      a = eqb→eq r.a c.a (one 3 (lit< tt));
      rows = eqb→eq r.rows (length c.rows) (one 4 (lit< tt));
      small = record {
        long = leb→le r.long max_rows (one 5 (lit< tt));
        degree = leb→le r.degree max_degree (one 6 (lit< tt));
        rest = leb→le r.rest max_degree (one 7 (lit< tt));
      };
      short = leb→le (length c.rows) max_rows (one 8 (lit< tt));
      few = leb→le (r.k + r.m) max_n (one 9 (lit< tt));
      flat = leb→le (length (joined c.rows)) max_addresses (one 10 (lit< tt));
      laid = laid;
      degree = λ row h. eqb→eq (length (get_or c.rows row [])) (degree_of r row) (long row h);
    }
  where
    one : (i : ℕ) → i < 12 → T (get_or (tests c r) i true)
    one i h = at (λ j b. b) true (tests c r) t i h

    row_right : (row : ℕ) → row < length c.rows → T (right c r row (get_or c.rows row []))
    row_right row h = at (right c r) [] c.rows (one 11 (lit< tt)) row h

    is_long : ℕ → Bool
    is_long row = eqb (length (get_or c.rows row [])) (degree_of r row)

    is_there : ℕ → Bool
    is_there row = prefix (get_or c.rows row []) (drop (start_of r row) (joined c.rows))

    long : (row : ℕ) → row < length c.rows → T (eqb (length (get_or c.rows row [])) (degree_of r row))
    long row h = both_left (is_long row) (is_there row) (row_right row h)

    laid : (row : ℕ) → row < length c.rows → (i : ℕ) → i < length (get_or c.rows row [])
        → (start_of r row + i < length (joined c.rows)) × (get_or (joined c.rows) (start_of r row + i) 0 ≡ get_or (get_or c.rows row []) i 0)
    laid row h i g =
        let p = prefix_at (get_or c.rows row []) (drop (start_of r row) (joined c.rows)) (both_right (is_long row) (is_there row) (row_right row h)) i g in
        (omega (arith, p.0, length-drop (start_of r row) (joined c.rows)), sym (get_or-drop (start_of r row) (joined c.rows) i 0) ∙ p.1)

-- an array that begins with the rows of the code d begins with those of any number that is d
pub front_as : {xs flat : List ℕ} (number d : ℕ) → number ≡ d → xs ≡ joined (code_of d).rows → FrontIs xs flat → FrontIs (joined (code_of number).rows) flat
front_as {xs} {flat} number d e h f = subst (λ (l : List ℕ). FrontIs l flat) (h ∙ ap (λ (n : ℕ). joined (code_of n).rows) (sym e)) f

-- and a number that is none of the codes' has no row
pub no_front : {flat : List ℕ} (number : ℕ) → Other number → length flat ≡ max_addresses → FrontIs (joined (code_of number).rows) flat
unfolding c0
no_front {flat} number o h =
    subst⁻¹ (λ (d : Params). FrontIs (joined d.rows) flat) (none number (no_code number o)) (record { size = h; few = lit≤ tt; each = λ i g. absurd (not-suc-le-zero g) })

-- a table row has no more addresses than a row has at most
pub row-few : (c : Params) (r : Layout) → LayoutOf c r → (row : ℕ) → row < length c.rows → length (get_or c.rows row []) ≤ max_degree
row-few c r l row h = subst⁻¹ (λ (n : ℕ). n ≤ max_degree) (l.degree row h) (either (ltb row r.long) r.degree r.rest l.small.degree l.small.rest)
  where
    either : (b : Bool) (x y : ℕ) → x ≤ max_degree → y ≤ max_degree → cond b x y ≤ max_degree
    either true x y p q = p
    either false x y p q = q
