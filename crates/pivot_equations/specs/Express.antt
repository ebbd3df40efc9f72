-- Every symbol is a known symbol plus a sum of pivots. Which pivots is held in rows of words + 1 words, 64 pivots to a word; the last word takes no
-- part. Row t is the expression of step t's position, and the rows behind the steps are those of the check rows that no step used. Internal: no
-- public contract cites it.
-- Assumes nothing.
use Rattle.std.specs.Prelude.{◌≡◌, ◌⊎◌, ◌≢◌, Bool, false, cond, Option, Some, List, ℕ, ◌+◌, ◌-◌, ◌*◌, ◌/◌, ◌%◌, ◌^◌, ◌<◌, ◌≤◌, eqb, ltb, length, get_or, set}
use Rattle.std.specs.Bool.{xor}
use Rattle.std.specs.Option.{option_eq}
use Rattle.algebra.specs.Sums.{◌⊕◌, pick, sum}
use Rattle.algebra.specs.Codeword.{Checks}
use Rattle.elimination.specs.Bits.{row_bit}
use Rattle.elimination.specs.Reduced.{pivot_word}
use Rattle.ccsds.specs.inner.Layout.{max_m}
use Rattle.peeling.specs.Plan.{Arrays, kind_of, row_of, used_by, unused_below, Plan, Closed, first_pivot, last_pivot, first_solved}
use Rattle.pivot_equations.specs.declared.rows.Rows.{Rows}

-- the rows are those of a plan, for some states, in which no position is open
pub record Planned (c : Checks) (plan : Arrays) (r : Rows) : Type 0 where
  pub states : List ℕ
  pub made : Plan c states plan r.early r.steps r.pivots
  pub closed : Closed c plan

-- how many rows there are
abbrev pub all_rows : Rows → ℕ
all_rows r = r.steps + r.rest

-- they fit into so many words
pub record Room (c : Checks) (r : Rows) (size : ℕ) : Type 0 where
  pub fit : c.m * (r.packed + 1) ≤ size

-- a position of this kind depends on pivot i: not if it was known or settled before step `early`; by its step's row; as pivot i itself; or, as a pivot
-- that a reduced row has, by that row's other pivots
unfoldable pub depends_on : List ℕ → ℕ → ℕ → ℕ → ℕ → Bool
depends_on l words early kind i =
    cond (ltb early kind)
    (cond (ltb max_m kind)
    (cond (ltb last_pivot kind)
    (xor (row_bit l ((kind - first_solved) * (words + 1)) i) (eqb i (pivot_word l words (kind - first_solved) - 1)))
    (eqb i (kind - first_pivot)))
    (row_bit l ((kind - 1) * (words + 1)) i))
    false

-- position p depends on pivot i, as a number
abbrev pub coefficient : Arrays → List ℕ → ℕ → ℕ → ℕ → ℕ → ℕ
coefficient plan l words early p i = pick (depends_on l words early (kind_of plan p) i) 1

-- what stands for a position of this kind is among the first `rows` rows, and is not row t
pub record Reads (l : List ℕ) (words early rows t kind : ℕ) : Type 0 where
  pub step : early < kind → kind ≤ max_m → (kind - 1 ≢ t) × (kind - 1 < rows)
  pub pivot : max_m < kind → kind ≤ last_pivot → kind - first_pivot < 64 * words
  pub solved : last_pivot < kind → (kind - first_solved ≢ t) × ((kind - first_solved < rows) × ((0 < pivot_word l words (kind - first_solved)) × (pivot_word l words (kind - first_solved) ≤ 64 * words)))

-- l and l' differ in row t only
pub record OnlyRow (l l' : List ℕ) (words t : ℕ) : Type 0 where
  pub size : length l' ≡ length l
  pub outside : (k : ℕ) → (k < t * (words + 1)) ⊎ (t * (words + 1) + (words + 1) ≤ k) → get_or l' k 0 ≡ get_or l k 0

-- row t has a position of this kind added
pub record Added (l l' : List ℕ) (words early t kind : ℕ) : Type 0 where
  pub only : OnlyRow l l' words t
  pub bits : (i : ℕ) → i < 64 * words → row_bit l' (t * (words + 1)) i ≡ xor (row_bit l (t * (words + 1)) i) (depends_on l words early kind i)

-- position x is the one that is left out
abbrev pub is_left_out : Option ℕ → ℕ → Bool
is_left_out but x = option_eq eqb (Some x) but

-- row t is the sum of the positions of check row j, but for the one that is left out
pub record RowIs (c : Checks) (plan : Arrays) (l l' : List ℕ) (words early t j : ℕ) (but : Option ℕ) : Type 0 where
  pub only : OnlyRow l l' words t
  pub bits : (i : ℕ) → i < 64 * words
      → pick (row_bit l' (t * (words + 1)) i) 1 ≡ sum (c.has j) (λ x. cond (is_left_out but x) 0 (coefficient plan l words early x i)) c.n

-- every pivot has a place in a row: its number, or one of the rows behind the steps
abbrev pub Places : Checks → Arrays → List ℕ → ℕ → ℕ → ℕ → Type 0
Places c plan l words steps rows = (p : ℕ) → p < c.n → max_m < kind_of plan p
    → (kind_of plan p ≤ last_pivot → kind_of plan p - first_pivot < 64 * words)
    × (last_pivot < kind_of plan p → (steps ≤ kind_of plan p - first_solved)
    × ((kind_of plan p - first_solved < rows) × ((0 < pivot_word l words (kind_of plan p - first_solved)) × (pivot_word l words (kind_of plan p - first_solved) ≤ 64 * words))))

-- the rows of the steps hold: each step's check row adds up to no pivot
abbrev pub StepsExpressed : Checks → Arrays → List ℕ → ℕ → ℕ → ℕ → Type 0
StepsExpressed c plan l words early steps = (t i : ℕ) → t < steps → i < 64 * words → sum (c.has (row_of plan t)) (λ x. coefficient plan l words early x i) c.n ≡ 0

-- l and l' have the same rows from `from` on
pub record SameFrom (l l' : List ℕ) (words from : ℕ) : Type 0 where
  pub size : length l' ≡ length l
  pub behind : (k : ℕ) → from * (words + 1) ≤ k → get_or l' k 0 ≡ get_or l k 0

-- and the same rows before
pub record SameBelow (l l' : List ℕ) (words from : ℕ) : Type 0 where
  pub size : length l' ≡ length l
  pub below : (k : ℕ) → k < from * (words + 1) → get_or l' k 0 ≡ get_or l k 0

-- the rows behind the steps are those of the check rows that no step used
abbrev pub RestExpressed : Checks → Arrays → List ℕ → ℕ → ℕ → ℕ → Type 0
RestExpressed c plan l words early steps = (j i : ℕ) → j < c.m → used_by plan j ≡ 0 → i < 64 * words
    → pick (row_bit l ((steps + unused_below plan j) * (words + 1)) i) 1 ≡ sum (c.has j) (λ x. coefficient plan l words early x i) c.n

-- ---- inner steps

-- l with unknown u flipped in the row at `base`
unfoldable pub flip_row_bit : List ℕ → ℕ → ℕ → List ℕ
flip_row_bit l base u = set l (base + u / 64) (get_or l (base + u / 64) 0 ⊕ 2 ^ (u % 64))

-- the kind of position x, where the one that is left out counts as known
abbrev pub kind_but : Arrays → Option ℕ → ℕ → ℕ
kind_but plan but x = cond (is_left_out but x) 0 (kind_of plan x)

-- what stands for any position but the one that is left out may be read while row t is made
pub record ReadsAll (c : Checks) (plan : Arrays) (l : List ℕ) (words early rows t : ℕ) (but : Option ℕ) : Type 0 where
  pub each : (x : ℕ) → x < c.n → Reads l words early rows t (kind_but plan but x)

-- RestExpressed for the check rows below `to`
abbrev pub RestTo : Checks → Arrays → List ℕ → ℕ → ℕ → ℕ → ℕ → Type 0
RestTo c plan l words early steps to = (j i : ℕ) → j < to → used_by plan j ≡ 0 → i < 64 * words
    → pick (row_bit l ((steps + unused_below plan j) * (words + 1)) i) 1 ≡ sum (c.has j) (λ x. coefficient plan l words early x i) c.n
