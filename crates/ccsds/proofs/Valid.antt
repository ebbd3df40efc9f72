-- What a code's table has to satisfy, tested once for each code, and what follows for every code: addresses are below m, and no
-- information symbol touches a check row twice.
-- Assumes nothing.
use mathlib.Core.Path.{◌≡◌, refl, sym, ap, ap₂, ◌∙◌}
use mathlib.Core.Bool.{Bool, true, false, xor, not, ◌&&◌, ◌||◌, cond, false≢true}
use mathlib.Core.Logic.{◌⊎◌, inl, inr, ⊎_elim}
use mathlib.Core.List.{List, [], ◌∷◌}
use Prim.Native.Nat.{ℕ, zero, suc, ◌+◌, ◌-◌, ◌*◌, ◌/◌, ◌%◌, ◌<◌, ◌≤◌}
use native.Mathlib.Nat.{not-suc-le-zero, le_of_suc-le-suc, mod-lt, mod-eq_of_lt, mod-eq-sub-mod, add-mod-mod, div-lt_iff_lt-mul, mul-zero}
use native.Mathlib.Decide.{dec_lt}
use native.Mathlib.Omega.{arith}
use lib.Dec.{T, lit<, lit≤, eqb, eqb→eq, ltb, ltb→lt, leb, leb→le, leb-suc-suc}
use lib.ListN.{length, get_or}
use borrow.Author.Tests.{eq-eqb, ne_eqb, eqb-true, lt-ltb, le-ltb}
use Rattle.ccsds.specs.Codes.{Params, n_of, row_of, check_row_of, hits, touches}
use Rattle.ccsds.specs.Tables.{code_of, code_in, codes, is_code, number_in, Known, c0, c1, c2, c4, c5, c7, c8, rows1, rows2, rows4, rows5, rows7, rows8}
use Rattle.ccsds.proofs.Table.{every, at, both_left, both_right}
use Rattle.algebra.proofs.Sums.{odd, odd_ext, odd_none, odd_xor}

-- every entry is below m
abbrev below : ℕ → List ℕ → Bool
below m [] = true
below m (y ∷ ys) = ltb y m && below m ys

-- no entry comes twice
abbrev distinct : List ℕ → Bool
distinct [] = true
distinct (y ∷ ys) = not (hits (λ z. z) ys y) && distinct ys

abbrev good : ℕ → ℕ → List ℕ → Bool
good m row ys = below m ys && distinct ys

-- the test of a table: its addresses are below m and differ within a row
abbrev pub tested : Params → Bool
tested c = every (good c.m) 0 c.rows

pub record Valid (c : Params) : Type 0 where
  pub some-m : 0 < c.m
  pub some-q : 0 < c.q
  pub whole : length c.rows * c.q ≡ c.k
  pub step : c.q * c.a ≡ c.m
  pub large_k : 128 ≤ c.k
  pub few : n_of c ≤ 3072
  pub packed : 64 * (n_of c / 64) ≡ n_of c
  pub few-rows : c.m ≤ 1024
  pub table : T (tested c)

-- the tests of a code
abbrev tests : Params → List Bool
tests c =
    ltb 0 c.m ∷ ltb 0 c.q ∷ eqb (length c.rows * c.q) c.k ∷ eqb (c.q * c.a) c.m ∷ leb 128 c.k ∷ leb (c.k + c.m) 3072
    ∷ eqb (64 * (n_of c / 64)) (n_of c) ∷ leb c.m 1024 ∷ tested c ∷ []

abbrev passes : Params → Bool
passes c = every (λ i b. b) 0 (tests c)

valid : (c : Params) → T (passes c) → Valid c
valid c t =
    record {
      some-m = ltb→lt 0 c.m (one 0 (lit< tt));
      some-q = ltb→lt 0 c.q (one 1 (lit< tt));
      whole = eqb→eq (length c.rows * c.q) c.k (one 2 (lit< tt));
      step = eqb→eq (c.q * c.a) c.m (one 3 (lit< tt));
      large_k = leb→le 128 c.k (one 4 (lit< tt));
      few = leb→le (c.k + c.m) 3072 (one 5 (lit< tt));
      packed = eqb→eq (64 * (n_of c / 64)) (n_of c) (one 6 (lit< tt));
      few-rows = leb→le c.m 1024 (one 7 (lit< tt));
      table = one 8 (lit< tt);
    }
  where
    one : (i : ℕ) → i < 9 → T (get_or (tests c) i true)
    one i h = at (λ j b. b) true (tests c) t i h

-- every code passes
all_pass : T (every (λ i p. passes p.1) 0 codes)
unfolding codes c1 c2 c4 c5 c7 c8 rows1 rows2 rows4 rows5 rows7 rows8 hits
all_pass = tt

-- a test that every code passes
in_each : (f : Params → Bool) (ps : List (ℕ × Params)) (i n : ℕ) → T (every (λ j p. f p.1) i ps) → number_in ps n ≡ true → T (f (code_in ps n))
unfolding number_in code_in
in_each f [] i n t h = absurd (false≢true h)
in_each f (p ∷ ps) i n t h =
    go (eqb n p.0) (both_left (f p.1) (every (λ j r. f r.1) (suc i) ps) t)
    (in_each f ps (suc i) n (both_right (f p.1) (every (λ j r. f r.1) (suc i) ps) t)) h
  where
    go : (b : Bool) → T (f p.1) → (number_in ps n ≡ true → T (f (code_in ps n))) → (b || number_in ps n) ≡ true → T (f (cond b p.1 (code_in ps n)))
    go true v r h = v
    go false v r h = r h

pub each_of : (f : Params → Bool) → T (every (λ j p. f p.1) 0 codes) → (n : ℕ) → Known n → T (f (code_of n))
unfolding code_of is_code
each_of f t n h = in_each f codes 0 n t h

pub valid_of : (n : ℕ) → Known n → Valid (code_of n)
valid_of n h = valid (code_of n) (each_of passes all_pass n h)

-- a code has no more than 3,072 symbols, and no code has none
few_in : (ps : List (ℕ × Params)) (i n : ℕ) → T (every (λ j p. passes p.1) i ps) → (code_in ps n).k + (code_in ps n).m ≤ 3072
unfolding code_in c0
few_in [] i n t = lit≤ tt
few_in (p ∷ ps) i n t =
    go (eqb n p.0) (valid p.1 (both_left (passes p.1) (every (λ j r. passes r.1) (suc i) ps) t)).few
    (few_in ps (suc i) n (both_right (passes p.1) (every (λ j r. passes r.1) (suc i) ps) t))
  where
    go : (b : Bool) → p.1.k + p.1.m ≤ 3072 → (code_in ps n).k + (code_in ps n).m ≤ 3072
        → (cond b p.1 (code_in ps n)).k + (cond b p.1 (code_in ps n)).m ≤ 3072
    go true h r = h
    go false h r = r

pub few_of : (n : ℕ) → n_of (code_of n) ≤ 3072
unfolding code_of
few_of n = few_in codes 0 n all_pass

-- a number that is no code's has none
none_in : (ps : List (ℕ × Params)) (n : ℕ) → number_in ps n ≡ false → n_of (code_in ps n) ≡ 0
unfolding number_in code_in c0
none_in [] n h = refl
none_in (p ∷ ps) n h = go (eqb n p.0) h (none_in ps n)
  where
    go : (b : Bool) → (b || number_in ps n) ≡ false → (number_in ps n ≡ false → n_of (code_in ps n) ≡ 0) → n_of (cond b p.1 (code_in ps n)) ≡ 0
    go true h r = absurd (false≢true (sym h))
    go false h r = r h

pub none_of : (n : ℕ) → is_code n ≡ false → n_of (code_of n) ≡ 0
unfolding code_of is_code
none_of n h = none_in codes n h

-- a is not 0, since q * a is m
pub some-a : (c : Params) → Valid c → 0 < c.a
some-a c v = go c.a v.step
  where
    go : (a : ℕ) → c.q * a ≡ c.m → 0 < a
    go zero e = let h : c.m ≡ 0 = sym e ∙ mul-zero c.q in absurd (omega (arith, v.some-m))
    go (suc a) e = omega arith

-- ---- a shift by s, modulo m, keeps numbers below m apart

pub wrapped : (m n : ℕ) → n < m + m → ((n < m) × (n % m ≡ n)) ⊎ ((m ≤ n) × (n % m + m ≡ n))
wrapped m n h = go (dec_lt n m)
  where
    go : Dec (n < m) → ((n < m) × (n % m ≡ n)) ⊎ ((m ≤ n) × (n % m + m ≡ n))
    go (yes l) = inl (l, mod-eq_of_lt l)
    go (no l) =
        let g : m ≤ n = omega arith in
        let d : n - m < m = omega arith in
        inr (g, omega (arith, mod-eq-sub-mod g, mod-eq_of_lt d))

shift_apart : (m s y z : ℕ) → y < m → z < m → (y + s) % m ≡ (z + s) % m → y ≡ z
shift_apart m s y z hy hz e =
    let r : s % m < m = mod-lt s (omega arith) in
    let ey = add-mod-mod y s m in
    let ez = add-mod-mod z s m in
    let wy = wrapped m (y + s % m) (omega arith) in
    let wz = wrapped m (z + s % m) (omega arith) in
    ⊎_elim (λ p. ⊎_elim (λ q. omega arith) (λ q. omega arith) wz) (λ p. ⊎_elim (λ q. omega arith) (λ q. omega arith) wz) wy

check-row_apart : (c : Params) (x y z : ℕ) → y < c.m → z < c.m → check_row_of c x y ≡ check_row_of c x z → y ≡ z
unfolding check_row_of
check-row_apart c x y z = shift_apart c.m (x % c.q * c.a) y z

-- ---- so the addresses of a row touch different check rows

-- no entry of the list goes where another does
abbrev pub Apart : (ℕ → ℕ) → List ℕ → Type 0
Apart f [] = Unit {0}
Apart f (y ∷ ys) = (hits f ys (f y) ≡ false) × Apart f ys

eqb_apart : (f : ℕ → ℕ) (y z : ℕ) → (f z ≡ f y → z ≡ y) → (b : Bool) → eqb z y ≡ b → eqb (f z) (f y) ≡ b
eqb_apart f y z inj true e = eq-eqb (f z) (f y) (ap f (eqb-true z y e))
eqb_apart f y z inj false e = ne_eqb (f z) (f y) (λ h. false≢true (sym e ∙ eq-eqb z y (inj h)))

no_hit : (b : Bool) → T (not b) → b ≡ false
no_hit false t = refl
no_hit true t = absurd t

module _ (m : ℕ) (f : ℕ → ℕ) (inj : (y z : ℕ) → y < m → z < m → f y ≡ f z → y ≡ z) where
  hits_apart : (y : ℕ) (ys : List ℕ) → y < m → T (below m ys) → hits f ys (f y) ≡ hits (λ z. z) ys y
  unfolding hits
  hits_apart y [] h t = refl
  hits_apart y (z ∷ zs) h t =
      let l = ltb→lt z m (both_left (ltb z m) (below m zs) t) in
      ap₂ ◌||◌ (eqb_apart f y z (inj z y l h) (eqb z y) refl) (hits_apart y zs h (both_right (ltb z m) (below m zs) t))

  apart : (ys : List ℕ) → T (below m ys) → T (distinct ys) → Apart f ys
  apart [] b d = tt
  apart (y ∷ ys) b d =
      let l = ltb→lt y m (both_left (ltb y m) (below m ys) b) in
      let bs = both_right (ltb y m) (below m ys) b in
      (hits_apart y ys l bs ∙ no_hit (hits (λ z. z) ys y) (both_left (not (hits (λ z. z) ys y)) (distinct ys) d), apart ys bs (both_right (not (hits (λ z. z) ys y)) (distinct ys) d))

-- information symbol x below k has a row of the table
pub row_lt : (c : Params) → Valid c → (x : ℕ) → x < c.k → x / c.q < length c.rows
row_lt c v x h = (div-lt_iff_lt-mul v.some-q).1 (omega (arith, v.whole))

row_good : (c : Params) (v : Valid c) (x : ℕ) → x < c.k → T (good c.m (x / c.q) (row_of c x))
unfolding row_of
row_good c v x h = at (good c.m) [] c.rows v.table (x / c.q) (row_lt c v x h)

pub row_apart : (c : Params) (v : Valid c) (x : ℕ) → x < c.k → Apart (check_row_of c x) (row_of c x)
row_apart c v x h =
    apart c.m (check_row_of c x) (check-row_apart c x) (row_of c x) (both_left (below c.m (row_of c x)) (distinct (row_of c x)) (row_good c v x h))
    (both_right (below c.m (row_of c x)) (distinct (row_of c x)) (row_good c v x h))

below_at : (m : ℕ) (ys : List ℕ) → T (below m ys) → (i : ℕ) → i < length ys → get_or ys i 0 < m
below_at m [] t i h = absurd (not-suc-le-zero h)
below_at m (y ∷ ys) t zero h = ltb→lt y m (both_left (ltb y m) (below m ys) t)
below_at m (y ∷ ys) t (suc i) h = below_at m ys (both_right (ltb y m) (below m ys) t) i (le_of_suc-le-suc h)

-- every address of the table is below m
pub address_lt : (c : Params) (v : Valid c) (row : ℕ) → row < length c.rows
    → (i : ℕ) → i < length (get_or c.rows row []) → get_or (get_or c.rows row []) i 0 < c.m
address_lt c v row h i g =
    let ys = get_or c.rows row [] in
    below_at c.m ys (both_left (below c.m ys) (distinct ys) (at (good c.m) [] c.rows v.table row h)) i g

-- ---- how many of the check rows 0 .. j a symbol touches, modulo 2: from its addresses alone

unfoldable pub up_to : (ℕ → ℕ) → List ℕ → ℕ → Bool
up_to f [] j = false
up_to f (y ∷ ys) j = xor (leb (f y) j) (up_to f ys j)

one_more_lem : (p n : ℕ) → xor (ltb p n) (eqb p n) ≡ ltb p (suc n)
unfolding xor
one_more_lem p n = go (dec_lt p n) (dec_lt n p)
  where
    go : Dec (p < n) → Dec (n < p) → xor (ltb p n) (eqb p n) ≡ ltb p (suc n)
    go (yes l) g = simp (lt-ltb p n l, ne_eqb p n (λ e. omega arith), lt-ltb p (suc n) (omega arith))
    go (no l) (yes g) = simp (le-ltb p n (omega arith), ne_eqb p n (λ e. omega arith), le-ltb p (suc n) (omega arith))
    go (no l) (no g) = simp (le-ltb p n (omega arith), eq-eqb p n (omega arith), lt-ltb p (suc n) (omega arith))

-- the numbers below n that equal p: one or none
odd_eqb : (p n : ℕ) → odd n (λ i. eqb p i) ≡ ltb p n
unfolding odd
odd_eqb p zero = sym (le-ltb p zero (omega arith))
odd_eqb p (suc n) = ap (λ (b : Bool). xor b (eqb p n)) (odd_eqb p n) ∙ one_more_lem p n

pub hit_once : (e h : Bool) → (e ≡ true → h ≡ false) → (e || h) ≡ xor e h
unfolding xor
hit_once true true g = absurd (false≢true (sym (g refl)))
hit_once true false g = refl
hit_once false true g = refl
hit_once false false g = refl

hits_odd : (f : ℕ → ℕ) (ys : List ℕ) → Apart f ys → (j : ℕ) → odd (suc j) (hits f ys) ≡ up_to f ys j
unfolding hits up_to
hits_odd f [] p j = odd_none (suc j)
hits_odd f (y ∷ ys) p j =
    odd_ext (suc j) (hits f (y ∷ ys)) (λ i. xor (eqb (f y) i) (hits f ys i)) (λ i. hit_once (eqb (f y) i) (hits f ys i) (λ e. ap (hits f ys) (sym (eqb-true (f y) i e)) ∙ p.0))
    ∙ odd_xor (suc j) (λ i. eqb (f y) i) (hits f ys)
    ∙ ap₂ xor (odd_eqb (f y) (suc j) ∙ leb-suc-suc (f y) j) (hits_odd f ys p.1 j)

pub touches_odd : (c : Params) (v : Valid c) (x : ℕ) → x < c.k → (j : ℕ) → odd (suc j) (touches c x) ≡ up_to (check_row_of c x) (row_of c x) j
unfolding touches
touches_odd c v x h j = hits_odd (check_row_of c x) (row_of c x) (row_apart c v x h) j
