-- `tiles::pack::pack` meets its contract: the rows of the tiles and the zeros behind them fill the output.
-- Assumes nothing.
use mathlib.Core.Path.{refl, sym, ◌∙◌}
use native.Mathlib.Omega.{arith}
use lib.ListN.{length}
use Rattle.std.proofs.lemmas.Result.{err_from_is_err_and}
use Rattle.ccsds.proofs.RefusalOrder.{numbered}
use Rattle.ccsds.proofs.Refusals.{refused-by, kept_by, answered-by, changed_by}
use Rattle.tiles.proofs.Packable.{Packable, packable, fitting, end-within, whole-output}
use Rattle.tiles.proofs.pack.pack.Goals as goal
use Rattle.tiles.proofs.pack.pack.Goals.{In_ok-check_pack}

ready : (c : In_ok-check_pack) → let a = c.args in Packable a.code a.w a.fill (length a.bytes.now) a.lengths.now (length a.out.now)
ready c = packable _ _ _ _ _ _ (sym c.in_ok-check_pack.ensures)

pub returns-in_err-check_pack : goal.returns-in_err-check_pack
returns-in_err-check_pack c =
    let p = err_from_is_err_and c.from_residual.result c.from_residual.ensures.1 in
    let e = c.in_err-check_pack.ensures in
    record { answer = rw (p.1, p.2) (refused-by _ _ e (numbered _) tt); output = kept_by _ _ e (numbered _) _ _ }

pub invariant_of-put_tiles : goal.invariant_of-put_tiles
invariant_of-put_tiles c = record { wide = (ready (goal.at.invariant_of-put_tiles c).In_ok-check_pack).usable.wide }

pub put_tiles-end-requires : goal.put_tiles-end-requires
put_tiles-end-requires c = fitting (ready (goal.at.put_tiles-end-requires c).In_ok-check_pack)

pub put_zeros-requires : goal.put_zeros-requires
put_zeros-requires c =
    let h = end-within (ready (goal.at.put_zeros-requires c).In_ok-check_pack) c.args.bytes.now _ _ _ refl c.put_tiles-end.ensures in
    (omega (arith, h), omega (arith, h))

pub returns : goal.returns
returns c =
    let e = c.in_ok-check_pack.ensures in
    record { answer = answered-by _ _ e refl tt; output = whole-output (ready (goal.at.returns c).In_ok-check_pack) c.args.bytes.now _ _ _ _ refl c.put_tiles-end.ensures c.put_zeros.ensures ∙ changed_by _ _ e refl _ _ }
