-- A code's numbers of positions and check rows.
-- Assumes nothing.
use Rattle.std.proofs.Common.{take, ◌≡◌, ℕ, ◌+◌, ◌*◌, ◌<◌, ◌≤◌, List, get_or, refl, arith}
use Rattle.algebra.specs.Codeword.{Checks}
use Rattle.algebra.specs.Staircase.{staircase}
use Rattle.algebra.proofs.Codeword.{slot}
use Rattle.symbol_sums.specs.Gather.{Inside}
use Rattle.symbol_sums.proofs.Fronts.{inside_front}
use Rattle.ccsds.specs.Tables.{code_of}
use Rattle.ccsds.specs.inner.Layout.{LayoutOf}
use Rattle.ccsds.proofs.Valid.{valid_of, few_of}
use Rattle.encoder.specs.inner.Positions.{checks, Table, RowOf}
use Rattle.encoder.specs.declared.positions.Shape.{Shape}
use Rattle.encoder.specs.declared.positions.ClassTable.{ClassTable}

-- its check rows are its parameter m
pub row_count : (s : Shape) → (checks s).m ≡ (code_of s.number).m
unfolding staircase
row_count s = refl

pub few-positions : (s : Shape) → (checks s).n ≤ 3072
unfolding staircase
few-positions s = few_of s.number

-- its layout has its positions
pub symbols_of : (s : Shape) → LayoutOf (code_of s.number) s.layout → s.layout.k + s.layout.m ≡ (checks s).n
unfolding staircase
symbols_of s g = omega (arith, g.k, g.m)

module _ {s : Shape} {table : ClassTable} (t : Table s table) where
  pub few-rows : (checks s).m ≤ 1024
  few-rows = omega (arith, row_count s, (valid_of s.number t.shaped.known).few-rows)

  pub row-known : (j : ℕ) → j < (checks s).m → j < (code_of s.number).m
  row-known j h = omega (arith, row_count s)

  pub layout-rows : s.layout.m ≡ (checks s).m
  layout-rows = omega (arith, t.shaped.given.m, row_count s)

-- a row's positions lie within the symbols
pub row_within : {c : Checks} {j n : ℕ} {xs : List ℕ} (w : ℕ) → RowOf c j n xs → (i : ℕ) → i < n → get_or xs i 0 * w + w ≤ c.n * w
row_within {c} {xs = xs} w r i h = slot (get_or xs i 0) c.n w (r.below i h)

pub row_inside : {c : Checks} {j n w bytes : ℕ} {xs : List ℕ} → RowOf c j n xs → bytes ≡ c.n * w → Inside (take n xs) w bytes
row_inside {n = n} {w} {xs = xs} r e = inside_front xs n (omega (arith, r.few, r.size)) (λ i h. omega (arith, row_within w r i h))
