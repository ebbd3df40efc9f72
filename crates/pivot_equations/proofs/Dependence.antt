-- On which pivots a position depends, by its kind.
-- Assumes nothing.
use mathlib.Core.Path.{◌≡◌}
use mathlib.Core.Bool.{false, xor}
use mathlib.Core.List.{List}
use Prim.Native.Nat.{ℕ, ◌+◌, ◌-◌, ◌*◌, ◌<◌, ◌≤◌}
use native.Mathlib.Omega.{arith}
use lib.Dec.{eqb}
use borrow.Author.Tests.{lt-ltb, le-ltb}
use Rattle.elimination.specs.Bits.{row_bit}
use Rattle.elimination.specs.Reduced.{pivot_word}
use Rattle.pivot_equations.specs.Express.{depends_on}

module _ (l : List ℕ) (words early kind i : ℕ) where
  -- known, or settled before step `early`: on nothing
  pub depends_none : kind ≤ early → depends_on l words early kind i ≡ false
  unfolding depends_on
  depends_none h = rw (le-ltb early kind h)

  -- settled by a step: on what the step's row has
  pub depends_step : early < kind → kind ≤ 1024 → depends_on l words early kind i ≡ row_bit l ((kind - 1) * (words + 1)) i
  unfolding depends_on
  depends_step h g = rw (lt-ltb early kind h, le-ltb 1024 kind g)

  -- pivot u: on itself alone
  pub depends_pivot : (u : ℕ) → early < kind → kind ≡ 1025 + u → u < 3072 → depends_on l words early kind i ≡ eqb i u
  unfolding depends_on
  depends_pivot u h e g =
      let k : kind - 1025 ≡ u = omega arith in
      rw (lt-ltb early kind h, lt-ltb 1024 kind (omega arith), le-ltb 4096 kind (omega arith), k)

  -- the pivot u that reduced row r has: on the row's others
  pub depends_solved : (r u : ℕ) → early < kind → kind ≡ 4097 + r → u ≡ pivot_word l words r - 1
      → depends_on l words early kind i ≡ xor (row_bit l (r * (words + 1)) i) (eqb i u)
  unfolding depends_on
  depends_solved r u h e f =
      let k : kind - 4097 ≡ r = omega arith in
      rw (lt-ltb early kind h, lt-ltb 1024 kind (omega arith), lt-ltb 4096 kind (omega arith), k, f)
