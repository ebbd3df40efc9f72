-- What is known where packing is not refused.
-- Assumes nothing.
use mathlib.Core.Path.{◌≡◌, refl, sym, ap, ◌∙◌}
use mathlib.Core.Bool.{false, not}
use mathlib.Core.List.{List, ◌++◌}
use Prim.Native.Nat.{ℕ, ◌+◌, ◌-◌, ◌*◌, ◌<◌, ◌≤◌}
use native.Mathlib.Nat.{mul-le-mul, mul-le-mul_right, add-mul}
use native.Mathlib.Omega.{arith}
use lib.Dec.{eqb}
use lib.ListN.{length, replicate, length-append, length-replicate}
use borrow.Author.Tests.{not-false, eqb-true, ltb-false}
use Rattle.ccsds.specs.Tables.{code_of}
use Rattle.ccsds.specs.Fill.{wrong_fill}
use Rattle.ccsds.specs.RefusalTable.{number_of}
use Rattle.ccsds.specs.RefusalTable as refusal
use Rattle.ccsds.specs.Refusals.{wrong_code, wrong_width, wrong_length}
use Rattle.ccsds.proofs.Valid.{few_of}
use Rattle.ccsds.proofs.Refusals.{or_false, width_right, fill_right, length_right}
use Rattle.wire.specs.inner.Appended.{Appended}
use Rattle.wire.proofs.AppendedLaws.{then_appended, appended-whole}
use Rattle.tiles.specs.PackRefusals.{first_listed}
use Rattle.tiles.specs.Rows.{room_of, zero_row, joined, narrow, row_conditions}
use Rattle.tiles.specs.Pack.{rows_needed, total, some_zero, wrong_tiles, overfull, tiles_rows, pack_rows, pack_of, pack_refusal}
use Rattle.tiles.specs.inner.Steps.{Wide, Fitting}
use Rattle.tiles.proofs.RefusalList.{parts_none, first-none}
use Rattle.tiles.proofs.RowLaws.{tiles-length, joined_append, zero-rows}

-- none of 1, 2, 15 and 13 applies
pub record Usable (number w fill : ℕ) : Type 0 where
  pub code : wrong_code number ≡ false
  pub width : wrong_width w ≡ false
  pub filled : wrong_fill (code_of number).k fill ≡ false
  pub wide : Wide w
  pub some : 0 < fill
  pub most : fill ≤ (code_of number).k
  pub few : (code_of number).k + (code_of number).m ≤ 3072

pub usable : (number w fill : ℕ) → first_listed (row_conditions number w fill) ≡ 0 → Usable number w fill
unfolding narrow
usable number w fill e =
    let c = first-none (number_of refusal.code) (wrong_code number) _ refl e in
    let v = first-none (number_of refusal.width) (wrong_width w) _ refl c.1 in
    let n = first-none 15 (narrow w) _ refl v.1 in
    let f = first-none (number_of refusal.fill) (wrong_fill (code_of number).k fill) _ refl n.1 in
    let p = fill_right (code_of number).k fill f.0 in
    record {
      code = c.0;
      width = v.0;
      filled = f.0;
      wide = record { least = ltb-false w 5 n.0; most = (width_right w v.0).1 };
      some = p.0;
      most = p.1;
      few = few_of number;
    }

-- the output's size is a number that fits
pub output-size : (number w fill : ℕ) → Usable number w fill → fill * w ≤ 3145728
output-size number w fill u = let f : fill ≤ 3072 = omega (arith, u.most, u.few) in mul-le-mul f u.wide.most

pub record Packable (number w fill bytes : ℕ) (lengths : List ℕ) (outLength : ℕ) : Type 0 where
  pub usable : Usable number w fill
  pub output : outLength ≡ fill * w
  pub some : some_zero lengths ≡ false
  pub sum : total lengths ≡ bytes
  pub rows : rows_needed (room_of w) lengths ≤ fill

pub packable : (number w fill bytes : ℕ) (lengths : List ℕ) (outLength : ℕ) → pack_refusal number w fill bytes lengths outLength ≡ 0
    → Packable number w fill bytes lengths outLength
unfolding pack_refusal wrong_tiles overfull
packable number w fill bytes lengths outLength e =
    let a = parts_none (row_conditions number w fill) _ refl e in
    let b = first-none (number_of refusal.length) (wrong_length outLength (fill * w)) _ refl a.1 in
    let c = first-none 16 (wrong_tiles lengths bytes) _ refl b.1 in
    let d = first-none 17 (overfull (room_of w) lengths fill) _ refl c.1 in
    let f = or_false (some_zero lengths) (not (eqb (total lengths) bytes)) c.0 in
    record {
      usable = usable number w fill a.0;
      output = length_right outLength (fill * w) b.0;
      some = f.0;
      sum = eqb-true (total lengths) bytes (not-false (eqb (total lengths) bytes) f.1);
      rows = ltb-false fill (rows_needed (room_of w) lengths) d.0;
    }

module _ {number w fill bytes : ℕ} {lengths : List ℕ} {outLength : ℕ} (p : Packable number w fill bytes lengths outLength) where
  fits : rows_needed (room_of w) lengths * w ≤ outLength
  fits = omega (arith, p.output, mul-le-mul_right w p.rows)

  pub fitting : Fitting w bytes lengths outLength
  fitting = record { sum = p.sum; rows = omega (arith, p.rows, p.usable.most, p.usable.few); output = fits }

  -- the unused rows and those of the tiles are all rows
  spread : (fill - rows_needed (room_of w) lengths) * w + rows_needed (room_of w) lengths * w ≡ fill * w
  spread =
      let e : fill - rows_needed (room_of w) lengths + rows_needed (room_of w) lengths ≡ fill = omega (arith, p.rows) in
      sym (add-mul (fill - rows_needed (room_of w) lengths) (rows_needed (room_of w) lengths) w) ∙ ap (λ (k : ℕ). k * w) e

  -- what was packed: the rows of the tiles, and zeros
  packed_bytes : (all : List ℕ)
      → pack_of w fill all lengths ≡ joined (tiles_rows w 1 all lengths) ++ replicate ((fill - rows_needed (room_of w) lengths) * w) 0
  unfolding pack_of pack_rows
  packed_bytes all =
      joined_append (tiles_rows w 1 all lengths) (replicate (fill - rows_needed (room_of w) lengths) (zero_row w))
      ∙ ap (λ (x : List ℕ). joined (tiles_rows w 1 all lengths) ++ x) (zero-rows (fill - rows_needed (room_of w) lengths) w)

  -- where the rows of the tiles end
  pub end-within : (all out out' : List ℕ) (end : ℕ) → length out ≡ outLength → Appended out out' 0 end (joined (tiles_rows w 1 all lengths)) → end ≤ length out'
  end-within all out out' end s q = omega (arith, q.to, q.kept, tiles-length w 1 all lengths p.usable.wide, fits)

  -- with zeros behind them they are the whole output
  pub whole-output : (all out out' out'' : List ℕ) (end : ℕ) → length out ≡ outLength → Appended out out' 0 end (joined (tiles_rows w 1 all lengths))
      → Appended out' out'' end (length out') (replicate (length out' - end) 0) → out'' ≡ pack_of w fill all lengths
  whole-output all out out' out'' end s q z =
      let t = tiles-length w 1 all lengths p.usable.wide in
      let e : length out' - end ≡ (fill - rows_needed (room_of w) lengths) * w = omega (arith, q.to, q.kept, t, p.output, spread) in
      appended-whole (then_appended q z) (
      omega (arith, length-append (joined (tiles_rows w 1 all lengths)) (replicate (length out' - end) 0), length-replicate {A = ℕ} (length out' - end) 0, q.to, q.kept, t, fits)
      )
      ∙ ap (λ (k : ℕ). joined (tiles_rows w 1 all lengths) ++ replicate k 0) e ∙ sym (packed_bytes all)

  pub packed_size : (all : List ℕ) → length (pack_of w fill all lengths) ≡ fill * w
  packed_size all =
      let k = (fill - rows_needed (room_of w) lengths) * w in
      ap length (packed_bytes all) ∙ length-append (joined (tiles_rows w 1 all lengths)) (replicate k 0)
      ∙ omega (arith, tiles-length w 1 all lengths p.usable.wide, length-replicate {A = ℕ} k 0, spread)
