-- The positions of a check row, computed from the table's addresses, and the array that holds them. Internal: no public contract cites it.
-- Assumes nothing.
use Rattle.std.specs.Prelude.{◌≡◌, ℕ, zero, suc, ◌+◌, ◌-◌, ◌*◌, ◌/◌, ◌%◌, ◌<◌, ◌≤◌, Bool, true, false, cond, ◌&&◌, List, [], ◌∷◌, ◌++◌, map, length, take, replicate, ◌==◌, nat_lt, slice_index, slice_index_or, slice_set}
use Rattle.algebra.specs.Sums.{pick, sum}
use Rattle.algebra.specs.Codeword.{Checks}
use Rattle.algebra.specs.Staircase.{staircase}
use Rattle.symbol_sums.specs.Gather.{gathered, max_positions}
use Rattle.ccsds.specs.Codes.{Params, touches}
use Rattle.ccsds.specs.Tables.{code_of, Known}
use Rattle.ccsds.specs.inner.Layout.{LayoutOf, max_degree, max_addresses}
use Rattle.encoder.specs.declared.positions.Shape.{Shape}
use Rattle.encoder.specs.declared.positions.ClassTable.{ClassTable}

-- the first n elements of xs, an array of positions, are the positions of check row j
pub record RowOf (c : Checks) (j n : ℕ) (xs : List ℕ) : Type 0 where
  pub size : length xs ≡ max_positions
  pub few : n ≤ max_positions
  pub below : (i : ℕ) → i < n → slice_index xs i < c.n
  pub found : (p : ℕ) → p < c.n → c.has j p ≡ true → (i : ℕ) × ((i < n) × (slice_index xs i ≡ p))
  pub total : (f : ℕ → ℕ) → gathered f xs n ≡ sum (c.has j) f c.n

-- ---- the information positions

-- a table row, and the quotient of one of its addresses by a
abbrev pub Entry : Type 0
Entry = ℕ × ℕ

-- e before the rest, where the test holds
abbrev pub entry_if : Bool → Entry → List Entry → List Entry
entry_if true e rest = e ∷ rest
entry_if false e rest = rest

-- the addresses of a table row whose remainder modulo a is r
unfoldable pub class_in : ℕ → ℕ → ℕ → List ℕ → List Entry
class_in a r row [] = []
class_in a r row (y ∷ ys) = entry_if (y % a == r) (row, y / a) (class_in a r row ys)

-- so for the table rows from `row` on
unfoldable pub class_from : ℕ → ℕ → ℕ → List (List ℕ) → List Entry
class_from a r row [] = []
class_from a r row (ys ∷ rest) = class_in a r row ys ++ class_from a r (suc row) rest

-- class r of a code: its check rows are those whose remainder modulo a is r
unfoldable pub class_of : Params → ℕ → List Entry
class_of c r = class_from c.a r 0 c.rows

-- the position that an entry gives to check row s * a + r of its class
abbrev pub position_at : ℕ → ℕ → Entry → ℕ
position_at q s e = e.0 * q + (q - e.1 + s) % q

-- the information positions of check row j
unfoldable pub positions : Params → ℕ → List ℕ
positions c j = map (position_at c.q (j / c.a)) (class_of c (j % c.a))

-- ---- the table by class

-- the most classes of a code
abbrev pub max_classes : ℕ
max_classes = 8

-- places for the entries of all classes
abbrev pub max_entries : ℕ
max_entries = max_classes * max_positions

-- the place of entry i of class r
abbrev pub entry_place : ℕ → ℕ → ℕ
entry_place r i = r * max_positions + i

-- before any entry
abbrev pub no_entries : ClassTable
no_entries = record {
  starts = replicate max_entries 0;
  ends = replicate max_entries 0;
  counts = replicate max_classes 0;
  whole = replicate max_classes 0;
  addresses = replicate max_addresses 0;
}

-- entry n of class r gets its start and its end, and the class one entry more
abbrev pub entry_put : ℕ → ℕ → ℕ → ℕ → ClassTable → ClassTable
entry_put r n first end t = record {
  starts = slice_set t.starts (entry_place r n) first;
  ends = slice_set t.ends (entry_place r n) end;
  counts = slice_set t.counts r (n + 1);
  whole = t.whole;
  addresses = t.addresses;
}

-- so for a quotient, where the class has room
abbrev pub entry_added : ℕ → ℕ → ℕ → ℕ → ClassTable → ClassTable
entry_added q row r y t = cond (nat_lt (slice_index t.counts r) max_positions) (entry_put r (slice_index t.counts r) (row * q + q - y) (row * q + q) t) t

-- address y is written to place i of a table row
abbrev pub address_put : ℕ → ℕ → ℕ → ClassTable → ClassTable
address_put row i y t = record {
  starts = t.starts;
  ends = t.ends;
  counts = t.counts;
  whole = t.whole;
  addresses = slice_set t.addresses (row * max_degree + i) y;
}

-- address y, at place i of a table row, is entered into its class
unfoldable pub entered : ℕ → ℕ → ℕ → ℕ → ℕ → ClassTable → ClassTable
entered q a row i y t = entry_added q row (y % a) (y / a) (address_put row i y t)

-- the first n addresses of a table row
unfoldable pub row_entered : Params → ℕ → ℕ → ClassTable → ClassTable
row_entered c row zero t = t
row_entered c row (suc n) t = entered c.q c.a row n (slice_index (slice_index_or c.rows row []) n) (row_entered c row n t)

-- the first n table rows
unfoldable pub table_entered : Params → ℕ → ClassTable → ClassTable
table_entered c zero t = t
table_entered c (suc n) t = row_entered c n (length (slice_index_or c.rows n [])) (table_entered c n t)

-- where an entry's positions start and end
pub record EntryBounds (q : ℕ) (e : Entry) (first end : ℕ) : Type 0 where
  pub last : end ≡ e.0 * q + q
  pub start : first + e.1 ≡ end

-- an entry's positions start and end within a table row of q positions, and i is a step in it
pub record WithinRow (first end q i : ℕ) : Type 0 where
  pub start : (first ≤ end) × (end ≤ first + q)
  pub row : (q ≤ end) × (end ≤ 4096)
  pub step : i < q

-- a check row has room for the entries of its class and two parity symbols
pub record ClassSizes (c : Params) : Type 0 where
  pub classes : c.a ≤ max_classes
  pub entries : (r : ℕ) → r < c.a → length (class_of c r) + 2 ≤ max_positions

-- how many entries of class r are of the first `rows` table rows; they are its first ones
abbrev pub entries_of : Params → ℕ → ℕ → ℕ
entries_of c r rows = length (class_from c.a r 0 (take rows c.rows))

-- the classes of c stand in the table, as far as the first `rows` table rows go
pub record Classes (c : Params) (rows : ℕ) (t : ClassTable) : Type 0 where
  pub few : ClassSizes c
  pub counts : (r : ℕ) → r < c.a → slice_index t.counts r ≡ entries_of c r rows
  pub each : (r : ℕ) → r < c.a → (i : ℕ) → i < entries_of c r rows
      → EntryBounds c.q (slice_index_or (class_of c r) i (0, 0)) (slice_index t.starts (entry_place r i)) (slice_index t.ends (entry_place r i))

-- ---- the positions that are sent

-- the check rows of a code on the positions that are sent: an idle position is in none of them
abbrev pub sent_checks : Params → ℕ → Checks
sent_checks c fill = staircase c.k c.m (λ j x. nat_lt x fill && touches c x j)

abbrev pub checks : Shape → Checks
checks s = sent_checks (code_of s.number) s.fill

-- a block's shape is that of a code; its rows are the table rows with a position that is sent
pub record Shaped (s : Shape) : Type 0 where
  pub known : Known s.number
  pub given : LayoutOf (code_of s.number) s.layout
  pub most : s.fill ≤ (code_of s.number).k
  pub enough : s.fill ≤ s.rows * (code_of s.number).q
  pub no_more : s.rows * (code_of s.number).q < s.fill + (code_of s.number).q
  pub within : s.rows ≤ length (code_of s.number).rows

-- of n entries of class r, the first e are of table rows that end by fill
pub record Whole (fill r n : ℕ) (ends : List ℕ) (e : ℕ) : Type 0 where
  pub few : e ≤ n
  pub last : 0 < e → slice_index ends (entry_place r (e - 1)) ≤ fill

-- the classes of these rows stand in the table, and of the first r classes how many entries have no idle position
pub record Counted (s : Shape) (r : ℕ) (t : ClassTable) : Type 0 where
  pub laid : Classes (code_of s.number) s.rows t
  pub whole : (x : ℕ) → x < r → Whole s.fill x (slice_index t.counts x) t.ends (slice_index t.whole x)

-- so of all classes
pub record Table (s : Shape) (t : ClassTable) : Type 0 where
  pub shaped : Shaped s
  pub laid : Classes (code_of s.number) s.rows t
  pub whole : (r : ℕ) → r < (code_of s.number).a → Whole s.fill r (slice_index t.counts r) t.ends (slice_index t.whole r)

-- the n information positions of check row j in the first `rows` table rows, at the front of an array
pub record Entries (c : Params) (rows j n : ℕ) (xs : List ℕ) : Type 0 where
  pub size : length xs ≡ max_positions
  pub few : n + 2 ≤ max_positions
  pub count : n ≡ entries_of c (j % c.a) rows
  pub each : (i : ℕ) → i < n → slice_index xs i ≡ slice_index (positions c j) i

-- of the first n of xs, those below fill are the first r of ys
pub record Kept (fill n : ℕ) (xs : List ℕ) (r : ℕ) (ys : List ℕ) : Type 0 where
  pub size : length ys ≡ length xs
  pub few : r ≤ n
  pub below : (i : ℕ) → i < r → slice_index ys i < fill
  pub found : (i : ℕ) → i < n → slice_index xs i < fill → (y : ℕ) × ((y < r) × (slice_index ys y ≡ slice_index xs i))
  pub total : (f : ℕ → ℕ) → gathered f ys r ≡ gathered (λ x. pick (nat_lt x fill) (f x)) xs n

-- the n information positions of check row j that are sent, at the front of an array
pub record Information (c : Params) (fill j n : ℕ) (xs : List ℕ) : Type 0 where
  pub size : length xs ≡ max_positions
  pub few : n + 2 ≤ max_positions
  pub below : (i : ℕ) → i < n → slice_index xs i < fill
  pub found : (x : ℕ) → x < fill → touches c x j ≡ true → (i : ℕ) × ((i < n) × (slice_index xs i ≡ x))
  pub total : (f : ℕ → ℕ) → gathered f xs n ≡ sum (λ x. touches c x j) f fill
