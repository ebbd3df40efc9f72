-- The numbers of laid-out check rows, so that the hints stay in their arrays.
-- Assumes nothing.
use Rattle.std.proofs.Common.{ℕ, ◌/◌, ◌<◌, ◌≤◌, mul-le-mul_right, div-lt_iff_lt-mul, arith}
use Rattle.ccsds.specs.Tables.{code_of}
use Rattle.ccsds.specs.inner.Layout.{LayoutOf, max_m, max_rows}
use Rattle.ccsds.proofs.Valid.{Valid, valid_of}
use Rattle.encoder.specs.declared.positions.CheckRows.{CheckRows}

module _ (rows : CheckRows) where
  valid : Valid (code_of rows.shape.number)
  valid = valid_of rows.shape.number rows.laid.shaped.known

  given : LayoutOf (code_of rows.shape.number) rows.shape.layout
  given = rows.laid.shaped.given

  pub few_rows : rows.shape.layout.m ≤ max_m
  few_rows = omega (arith, valid.few-rows, given.m)

  some : 0 < rows.shape.layout.q
  some = omega (arith, valid.some-q, given.q)

  -- which table row an information position is of
  pub row_small : (x : ℕ) → x < rows.shape.layout.k → x / rows.shape.layout.q < max_rows
  row_small x h =
      (div-lt_iff_lt-mul some).1 (omega (arith, h, mul-le-mul_right (code_of rows.shape.number).q given.short, valid.whole, given.k, given.q))
