-- `unit_reader::read_length` meets its contract: a number that is read ends within the bytes and is small.
-- Assumes nothing.
use Rattle.std.proofs.Common.{◌∙◌, sym, ap, arith}
use Rattle.wire.specs.Sdnv.{sdnv_as}
use Rattle.wire.proofs.SdnvLaws.{is_fine}
use Rattle.unit_reader.proofs.read_length.Goals as goal

pub overflow_add-x : goal.overflow_add-x
overflow_add-x c =
    let f = is_fine c.args.s.now c.args.at (sym c.number_at-answer.ensures ∙ ap sdnv_as c.in-Ok.is) in
    omega (arith, f.ends, f.most, c.well_formed.0.1)
