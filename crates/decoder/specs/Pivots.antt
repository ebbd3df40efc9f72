-- The pivots' symbols, from the reduced rows l of the check rows that no step used, behind the steps, and their right-hand sides d. Internal: no public
-- contract cites it.
-- Assumes nothing.
use Rattle.std.specs.Prelude.{◌≡◌, ◌⊎◌, ◌≢◌, Bool, true, false, List, ℕ, ◌+◌, ◌-◌, ◌*◌, ◌<◌, ◌≤◌, length, get_or, set}
use Rattle.algebra.specs.Codeword.{Checks, byte_at}
use Rattle.buffers.specs.Parts.{put}
use Rattle.elimination.specs.Bits.{row_bit}
use Rattle.elimination.specs.Reduced.{pivot_word}
use Rattle.peeling.specs.Plan.{Arrays, kind_of, pivot_of, last_pivot, first_solved}
use Rattle.pivot_equations.specs.Express.{all_rows, depends_on, Reads}
use Rattle.pivot_equations.specs.declared.rows.Rows.{Rows}
use Rattle.ccsds.specs.inner.Layout.{max_n}

-- pivot u is solved: reduced row i has it
pub record Solved (w words steps rest : ℕ) (l d : List ℕ) (plan' : Arrays) (symbols' : List ℕ) (u p : ℕ) : Type 0 where
  pub row : ℕ
  pub below : row < rest
  pub word : pivot_word l words (steps + row) ≡ u + 1
  pub kind : kind_of plan' p ≡ first_solved + (steps + row)
  pub bytes : (b : ℕ) → b < w → byte_at w symbols' b p ≡ get_or d (row * w + b) 0

-- or free: no reduced row has it, and it stays as it was
pub record Free (w words steps rest : ℕ) (l : List ℕ) (plan : Arrays) (symbols : List ℕ) (plan' : Arrays) (symbols' : List ℕ) (u p : ℕ) : Type 0 where
  pub none : (row : ℕ) → row < rest → pivot_word l words (steps + row) ≢ u + 1
  pub kind : kind_of plan' p ≡ kind_of plan p
  pub bytes : (b : ℕ) → b < w → byte_at w symbols' b p ≡ byte_at w symbols b p

-- two plans that differ in kinds alone
pub record KindsOnly (plan plan' : Arrays) : Type 0 where
  pub pivots : plan'.pivots ≡ plan.pivots
  pub steps : plan'.steps ≡ plan.steps
  pub used : plan'.used ≡ plan.used

-- the first `rest` reduced rows were asked; only kinds and symbols of pivots changed
pub record Put (c : Checks) (w words steps rest pivots : ℕ) (l d : List ℕ) (plan : Arrays) (symbols : List ℕ) (plan' : Arrays) (symbols' : List ℕ) : Type 0 where
  pub same : KindsOnly plan plan'
  pub symbols-size : length symbols' ≡ length symbols
  pub pivot : (u : ℕ) → u < pivots → Solved w words steps rest l d plan' symbols' u (pivot_of plan u) ⊎ Free w words steps rest l plan symbols plan' symbols' u (pivot_of plan u)
  pub others : (k : ℕ) → ((u : ℕ) → u < pivots → k ≢ pivot_of plan u) → kind_of plan' k ≡ kind_of plan k
  pub other_bytes : (p b : ℕ) → ((u : ℕ) → u < pivots → p ≢ pivot_of plan u) → p < c.n → b < w → byte_at w symbols' b p ≡ byte_at w symbols b p

-- r is the answer to: is every pivot solved?
abbrev pub AllSolvedIs : Arrays → ℕ → Bool → Type 0
AllSolvedIs plan pivots true = (u : ℕ) → u < pivots → last_pivot < kind_of plan (pivot_of plan u)
AllSolvedIs plan pivots false = (u : ℕ) × ((u < pivots) × (kind_of plan (pivot_of plan u) ≤ last_pivot))

-- r is the answer to: does a position of this kind depend on no pivot?
abbrev pub DeterminedIs : List ℕ → ℕ → ℕ → ℕ → Bool → Type 0
DeterminedIs l words early kind true = (i : ℕ) → i < 64 * words → depends_on l words early kind i ≡ false
DeterminedIs l words early kind false = (i : ℕ) × ((i < 64 * words) × (depends_on l words early kind i ≡ true))

-- row steps + i of l, its right-hand side, and its pivot's place in the plan and in the symbols are within the arrays
pub record PutRoom (w : ℕ) (r : Rows) (i : ℕ) (l : List ℕ) (bytes : ℕ) (plan : Arrays) (symbols : ℕ) : Type 0 where
  pub below : i < r.rest
  pub row : (r.steps + i) * (r.packed + 1) + r.packed < length l
  pub side : i * w + w ≤ bytes
  pub pivot : (u : ℕ) → pivot_word l r.packed (r.steps + i) ≡ u + 1 → (u < max_n) × ((pivot_of plan u < max_n) × (pivot_of plan u * w + w ≤ symbols))

-- what row steps + i alone does: nothing, or it solves its pivot
pub record PutOne (w : ℕ) (r : Rows) (i : ℕ) (l d : List ℕ) (plan : Arrays) (symbols : List ℕ) (plan' : Arrays) (symbols' : List ℕ) : Type 0 where
  pub none : pivot_word l r.packed (r.steps + i) ≡ 0 → (plan' ≡ plan) × (symbols' ≡ symbols)
  pub one : (u : ℕ) → pivot_word l r.packed (r.steps + i) ≡ u + 1
      → KindsOnly plan plan' × (plan'.kinds ≡ set plan.kinds (pivot_of plan u) (first_solved + (r.steps + i))) × (symbols' ≡ put symbols (pivot_of plan u * w) d (i * w) w)

-- r is the answer to: does the row of len words at `at` have no pivot?
abbrev pub NoBitsIs : List ℕ → ℕ → ℕ → Bool → Type 0
NoBitsIs l at len true = (i : ℕ) → i < 64 * len → row_bit l at i ≡ false
NoBitsIs l at len false = (i : ℕ) × ((i < 64 * len) × (row_bit l at i ≡ true))

-- the row of position p is one of the rows, and if p is a solved pivot, its row has it
pub record Readable (r : Rows) (l : List ℕ) (plan : Arrays) (p : ℕ) : Type 0 where
  pub reads : Reads l r.packed r.early (all_rows r) (all_rows r) (kind_of plan p)
  pub here : last_pivot < kind_of plan p
      → row_bit l ((kind_of plan p - first_solved) * (r.packed + 1)) (pivot_word l r.packed (kind_of plan p - first_solved) - 1) ≡ true
