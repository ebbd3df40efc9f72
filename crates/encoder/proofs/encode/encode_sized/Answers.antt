-- `encoder::encode::encode_sized` meets its contract: after i turns, i * a parity symbols are there.
-- Assumes nothing.
use Rattle.std.proofs.Common.{◌≡◌, ℕ, ◌*◌, sym, ap, ◌∙◌, suc-mul, add-one, arith}
use Rattle.ccsds.specs.Tables.{code_of}
use Rattle.ccsds.proofs.Valid.{valid_of}
use Rattle.encoder.proofs.Parity.{done_at, done_all, padded-parity}
use Rattle.encoder.proofs.encode.encode_sized.Goals as goal

pub loop-i-preserved : goal.loop-i-preserved
loop-i-preserved c =
    let a = (code_of c.args.rows.now.shape.number).a in
    let p = c.put_rows.ensures in
    (p.0, done_at p.1 (sym (ap (λ (k : ℕ). k * a) (add-one c.loop-i.i) ∙ suc-mul c.loop-i.i a)))

pub returns : goal.returns
returns c =
    let s = c.args.rows.now.laid.shaped in
    let e : c.loop-i.i ≡ (code_of c.args.rows.now.shape.number).q = omega (arith, s.given.q) in
    done_all _ _ _ c.requires.some (done_at c.loop-i.invariant.1 (ap (λ (k : ℕ). k * (code_of c.args.rows.now.shape.number).a) e ∙ (valid_of _ s.known).step))
    ∙ sym (padded-parity _ _ c.args.rows.now.shape.fill _)
