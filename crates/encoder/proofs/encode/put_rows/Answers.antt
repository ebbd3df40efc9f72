-- `encoder::encode::put_rows` meets its contract: after r turns, r of the symbols are there.
-- Assumes nothing.
use Rattle.std.proofs.Common.{◌≡◌, ℕ, ◌+◌, ◌*◌, ap, add_assoc, arith}
use Rattle.ccsds.specs.Tables.{code_of}
use Rattle.encoder.proofs.Parity.{done_at}
use Rattle.encoder.proofs.encode.put_rows.Goals as goal

pub loop-r-preserved : goal.loop-r-preserved
loop-r-preserved c =
    let p = c.put_row.ensures in
    (p.0, done_at p.1 (add_assoc (c.args.i * (code_of c.args.rows.now.shape.number).a) c.loop-r.r 1))

pub returns : goal.returns
returns c =
    let e : c.loop-r.r ≡ (code_of c.args.rows.now.shape.number).a = omega (arith, c.args.rows.now.laid.shaped.given.a) in
    (c.loop-r.invariant.0, done_at c.loop-r.invariant.1 (ap (λ (k : ℕ). c.args.i * (code_of c.args.rows.now.shape.number).a + k) e))
