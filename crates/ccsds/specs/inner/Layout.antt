-- How a code's numbers and its flat constant array give its parameters and the rows of its table. Internal: no public contract cites it.
-- Assumes nothing.
use Rattle.std.specs.Prelude.{◌≡◌, cond, List, [], ◌∷◌, ◌++◌, ℕ, ◌+◌, ◌*◌, ◌-◌, ◌<◌, ◌≤◌, ltb, length, get_or}
use Rattle.ccsds.specs.Codes.{Params}
use Rattle.ccsds.specs.declared.tables.Layout.{Layout}

-- the most symbols and the most parity symbols of a block, the most rows of a table, and the most addresses of a row
abbrev pub max_n : ℕ
max_n = 3072

abbrev pub max_m : ℕ
max_m = 1024

abbrev pub max_rows : ℕ
max_rows = 64

abbrev pub max_degree : ℕ
max_degree = 8

abbrev pub max_addresses : ℕ
max_addresses = max_rows * max_degree

-- the rows one after the other
abbrev pub joined : List (List ℕ) → List ℕ
joined [] = []
joined (l ∷ ls) = l ++ joined ls

-- a row's number of addresses
abbrev pub degree_of : Layout → ℕ → ℕ
degree_of r row = cond (ltb row r.long) r.degree r.rest

-- a row's first place in the flat array
abbrev pub start_in : ℕ → ℕ → ℕ → ℕ → ℕ
start_in row long degree rest = cond (ltb row long) (row * degree) (long * degree + (row - long) * rest)

abbrev pub start_of : Layout → ℕ → ℕ
start_of r row = start_in row r.long r.degree r.rest

-- so every product of the two fits
pub record Small (r : Layout) : Type 0 where
  pub long : r.long ≤ max_rows
  pub degree : r.degree ≤ max_degree
  pub rest : r.rest ≤ max_degree

-- r holds the numbers of c: its parameters, where each row starts in the flat array, and how long the row is
pub record LayoutOf (c : Params) (r : Layout) : Type 0 where
  pub k : r.k ≡ c.k
  pub m : r.m ≡ c.m
  pub q : r.q ≡ c.q
  pub a : r.a ≡ c.a
  pub rows : r.rows ≡ length c.rows
  pub short : length c.rows ≤ max_rows
  pub few : r.k + r.m ≤ max_n
  pub small : Small r
  pub flat : length (joined c.rows) ≤ max_addresses
  pub laid : (row : ℕ) → row < length c.rows → (i : ℕ) → i < length (get_or c.rows row [])
      → (start_of r row + i < length (joined c.rows)) × (get_or (joined c.rows) (start_of r row + i) 0 ≡ get_or (get_or c.rows row []) i 0)
  pub degree : (row : ℕ) → row < length c.rows → length (get_or c.rows row []) ≡ degree_of r row

-- flat, an array for the addresses of a table, begins with those of l
pub record FrontIs (l flat : List ℕ) : Type 0 where
  pub size : length flat ≡ max_addresses
  pub few : length l ≤ max_addresses
  pub each : (i : ℕ) → i < length l → get_or flat i 0 ≡ get_or l i 0
