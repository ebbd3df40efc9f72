-- `encoder::positions::lay` meets its contract: the entries of r classes are counted.
-- Assumes nothing.
use Rattle.std.proofs.Common.{refl, arith}
use Rattle.ccsds.proofs.Valid.{valid_of}
use Rattle.encoder.specs.inner.Positions.{Shaped}
use Rattle.encoder.proofs.Sent.{row-width, shaped}
use Rattle.encoder.proofs.positions.lay.Goals as goal
use Rattle.encoder.proofs.positions.lay.Goals.{After-rows_to}

-- the shape is one
block : (c : After-rows_to) → Shaped (record { number = c.args.number; layout = c.layout_of-layout.result; w = c.args.w; fill = c.args.fill; rows = c.rows_to.result })
block c = shaped _ c.requires.known.0 c.layout_of-layout.ensures c.requires.known.1 c.rows_to.ensures

pub rows_to-requires : goal.rows_to-requires
rows_to-requires c =
    let k = c.requires.known in
    let q = row-width _ _ k.0 c.layout_of-layout.ensures in
    (omega (arith, k.1, (valid_of _ k.0).few), q.0, q.1)

pub enter_rows-requires : goal.enter_rows-requires
enter_rows-requires c = record { shaped = (block (goal.at.enter_rows-requires c).After-rows_to, c.requires.blank) }

pub returns : goal.returns
returns c =
    let t = c.loop-r.invariant in
    record {
      laid = record { shaped = block (goal.at.returns c).After-rows_to; laid = t.laid; whole = λ r h. t.whole r (omega (arith, c.layout_of-layout.ensures.a)) };
      numbers = (refl, refl, refl);
    }
