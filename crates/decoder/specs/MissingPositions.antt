-- What becomes of the missing positions of a block: symbols and states become symbols' and states'. Internal: no public contract cites it.
-- Assumes nothing.
use Rattle.std.specs.Prelude.{◌≡◌, ◌⊎◌, ◌≢◌, Bool, true, false, not, ◌&&◌, cond, List, ℕ, ◌+◌, ◌*◌, ◌<◌, ◌≤◌, ltb, length, get_or}
use Rattle.algebra.specs.Codeword.{byte_at}
use Rattle.peeling.specs.States.{is_known}
use Rattle.peeling.specs.Plan.{Arrays, kind_of}
use Rattle.decoder.specs.Pivots.{DeterminedIs}
use Rattle.pivot_equations.specs.Express.{all_rows}
use Rattle.pivot_equations.specs.declared.rows.Rows.{Rows}
use Rattle.decoder.specs.Outcome.{Leaves}
use Rattle.ccsds.specs.inner.Layout.{max_n}

-- position i is not known, and below k
abbrev pub missing : List ℕ → ℕ → ℕ → Bool
missing states k i = ltb i k && not (is_known states i)

-- each of the first k positions that is not known has zero bytes and state 0
pub record Cleared (w : ℕ) (symbols states symbols' states' : List ℕ) (k : ℕ) : Type 0 where
  pub state : (i : ℕ) → get_or states' i 0 ≡ cond (missing states k i) 0 (get_or states i 0)
  pub byte : (i b : ℕ) → b < w → byte_at w symbols' b i ≡ cond (missing states k i) 0 (byte_at w symbols b i)

-- each position that is not known has state 2
pub record FilledMissing (states states' : List ℕ) : Type 0 where
  pub size : length states' ≡ length states
  pub state : (i : ℕ) → i < length states → get_or states' i 0 ≡ cond (is_known states i) 1 2

-- position i is as it was
pub record Untouched (w : ℕ) (symbols states symbols' states' : List ℕ) (i : ℕ) : Type 0 where
  pub state : get_or states' i 0 ≡ get_or states i 0
  pub bytes : (b : ℕ) → b < w → byte_at w symbols' b i ≡ byte_at w symbols b i

-- position i depends on no pivot, has state 2 and keeps its symbol
pub record DeterminedAt (w early words : ℕ) (l : List ℕ) (plan : Arrays) (symbols symbols' states' : List ℕ) (i : ℕ) : Type 0 where
  pub determined : DeterminedIs l words early (kind_of plan i) true
  pub state : get_or states' i 0 ≡ 2
  pub bytes : (b : ℕ) → b < w → byte_at w symbols' b i ≡ byte_at w symbols b i

-- position i depends on a pivot and is left
pub record DependsOnPivot (w early words : ℕ) (l : List ℕ) (plan : Arrays) (symbols' states' : List ℕ) (i : ℕ) : Type 0 where
  pub determined : DeterminedIs l words early (kind_of plan i) false
  pub leaves : Leaves w symbols' states' i

-- position i is as it was, if known, and else determined or left
pub record FilledAt (w early words : ℕ) (l : List ℕ) (plan : Arrays) (symbols states symbols' states' : List ℕ) (i : ℕ) : Type 0 where
  pub known : is_known states i ≡ true → Untouched w symbols states symbols' states' i
  pub missing : is_known states i ≡ false → DeterminedAt w early words l plan symbols symbols' states' i ⊎ DependsOnPivot w early words l plan symbols' states' i

-- one position, and no other
pub record FilledOne (w : ℕ) (r : Rows) (l : List ℕ) (plan : Arrays) (symbols states symbols' states' : List ℕ) (p : ℕ) : Type 0 where
  pub at : FilledAt w r.early r.packed l plan symbols states symbols' states' p
  pub others : (i : ℕ) → i ≢ p → Untouched w symbols states symbols' states' i

-- every position
pub record FilledDetermined (w : ℕ) (r : Rows) (l : List ℕ) (plan : Arrays) (symbols states symbols' states' : List ℕ) : Type 0 where
  pub symbols-size : length symbols' ≡ length symbols
  pub states-size : length states' ≡ length states
  pub each : (i : ℕ) → i < length states → FilledAt w r.early r.packed l plan symbols states symbols' states' i

-- the lengths of the arrays that are read
pub record FillRoom (r : Rows) (l states : ℕ) : Type 0 where
  pub fit : all_rows r * (r.packed + 1) ≤ l
  pub positions : states ≤ max_n
