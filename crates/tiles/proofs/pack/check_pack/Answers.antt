-- `tiles::pack::check_pack` meets its contract: what calls on rows refuse, then the output's length, the lengths and the rows.
-- Assumes nothing.
use mathlib.Core.Path.{◌≡◌, refl, sym, ◌∙◌}
use mathlib.Core.List.{[], ◌∷◌}
use Prim.Native.Nat.{◌*◌, ◌<◌}
use native.Mathlib.Omega.{arith}
use Rattle.std.proofs.lemmas.Result.{err_from_is_err_and}
use Rattle.ccsds.specs.RefusalTable.{number_of}
use Rattle.ccsds.specs.RefusalTable as refusal
use Rattle.ccsds.specs.Refusals.{wrong_length}
use Rattle.ccsds.proofs.RefusalOrder.{numbered}
use Rattle.ccsds.proofs.Refusals.{length-same, length-wrong}
use Rattle.tiles.specs.PackRefusals.{first_listed}
use Rattle.tiles.specs.Rows.{room_of, row_conditions}
use Rattle.tiles.specs.Pack.{wrong_tiles, overfull, largest, pack_refusal}
use Rattle.tiles.proofs.LengthLaws.{over_full, not_over_full}
use Rattle.tiles.proofs.RefusalList.{part_refuses, part-passed, first_is, first_on, first-end}
use Rattle.tiles.proofs.Packable.{Usable, usable, output-size}
use Rattle.tiles.proofs.pack.check_pack.Goals as goal
use Rattle.tiles.proofs.pack.check_pack.Goals.{In_ok-check_rows, Else-wrong_tiles}

ready : (c : In_ok-check_rows) → let a = c.args in Usable a.number a.w a.fill
ready c = usable _ _ _ (sym c.in_ok-check_rows.ensures)

-- 1, 2, 15 and 13 don't apply; nor does 4; nor 16
passed : (c : In_ok-check_rows) → let a = c.args in
    pack_refusal a.number a.w a.fill a.bytes a.lens.now a.out_len
    ≡ first_listed (
    (number_of refusal.length, wrong_length a.out_len (a.fill * a.w))
    ∷ (16, wrong_tiles a.lens.now a.bytes)
    ∷ (17, overfull (room_of a.w) a.lens.now a.fill)
    ∷ []
    )
unfolding pack_refusal
passed c = let a = c.args in part-passed (row_conditions a.number a.w a.fill) _ _ c.in_ok-check_rows.ensures refl refl

after-tiles : (c : Else-wrong_tiles) → let a = c.args in
    pack_refusal a.number a.w a.fill a.bytes a.lens.now a.out_len
    ≡ first_listed ((17, overfull (room_of a.w) a.lens.now a.fill) ∷ [])
unfolding pack_refusal
after-tiles c =
    let a = c.args in
    part-passed (row_conditions a.number a.w a.fill) _ _ c.in_ok-check_rows.ensures refl refl ∙ first_on _ _ _ (length-same _ _ c.if-out_len-fill.false)
    ∙ first_on _ _ _ (sym c.wrong_tiles.ensures ∙ c.if-wrong_tiles.false)

few : (c : Else-wrong_tiles) → c.args.fill < largest
few c = let r = usable _ _ _ (sym c.in_ok-check_rows.ensures) in omega (arith, r.most, r.few)

pub returns-in_err-check_rows : goal.returns-in_err-check_rows
unfolding pack_refusal
returns-in_err-check_rows c =
    let a = c.args in
    let p = err_from_is_err_and c.from_residual.result c.from_residual.ensures.1 in
    rw (p.1, p.2) (part_refuses (row_conditions a.number a.w a.fill) _ _ c.in_err-check_rows.ensures (numbered _))

pub overflow_mul-fill : goal.overflow_mul-fill
overflow_mul-fill c = let a = c.args in omega (arith, output-size a.number a.w a.fill (ready c))

pub returns-then-out_len-fill : goal.returns-then-out_len-fill
returns-then-out_len-fill c = sym (passed (goal.at.returns-then-out_len-fill c).In_ok-check_rows ∙ first_is _ _ _ (length-wrong _ _ c.if-out_len-fill.true))

pub returns-then-wrong_tiles : goal.returns-then-wrong_tiles
returns-then-wrong_tiles c = sym (passed (goal.at.returns-then-wrong_tiles c).In_ok-check_rows ∙ first_on _ _ _ (length-same _ _ c.if-out_len-fill.false) ∙ first_is _ _ _ (sym c.wrong_tiles.ensures ∙ c.if-wrong_tiles.true))

pub overflow_sub-w : goal.overflow_sub-w
overflow_sub-w c = omega (arith, (ready (goal.at.overflow_sub-w c).In_ok-check_rows).wide.least)

pub sum_rows-requires : goal.sum_rows-requires
sum_rows-requires c = omega (arith, (ready (goal.at.sum_rows-requires c).In_ok-check_rows).wide.least)

pub returns-then-sum_rows-fill : goal.returns-then-sum_rows-fill
returns-then-sum_rows-fill c = let a = c.args in sym (after-tiles (goal.at.returns-then-sum_rows-fill c).Else-wrong_tiles ∙ first_is _ _ _ (over_full (room_of a.w) a.fill _ a.lens.now (few (goal.at.returns-then-sum_rows-fill c).Else-wrong_tiles) c.sum_rows.ensures c.if-sum_rows-fill.true))

pub returns : goal.returns
returns c = let a = c.args in sym (after-tiles (goal.at.returns c).Else-wrong_tiles ∙ first_on _ _ _ (not_over_full (room_of a.w) a.fill _ a.lens.now (few (goal.at.returns c).Else-wrong_tiles) c.sum_rows.ensures c.if-sum_rows-fill.false) ∙ first-end)
