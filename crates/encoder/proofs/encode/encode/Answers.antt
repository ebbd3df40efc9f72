-- `encoder::encode::encode` meets its contract.
-- Assumes nothing.
use Rattle.std.proofs.Common.{◌≡◌, length, sym, refl, ◌∙◌, arith}
use Rattle.std.proofs.lemmas.Result.{err_from_is_err_and}
use Rattle.ccsds.specs.Tables.{code_of}
use Rattle.ccsds.proofs.RefusalOrder.{numbered}
use Rattle.ccsds.proofs.Refusals.{refused-by, kept_by, answered-by, changed_by}
use Rattle.encoder.specs.Encode.{encode_refusal, parity_of}
use Rattle.encoder.specs.inner.Steps.{Sized}
use Rattle.encoder.proofs.EncodeRefusal.{Ready, ready}
use Rattle.encoder.proofs.Sent.{at_numbers}
use Rattle.encoder.proofs.encode.encode.Goals as goal
use Rattle.encoder.proofs.encode.encode.Goals.{In_ok-check_encoder}

pub returns-in_err-check_encoder : goal.returns-in_err-check_encoder
unfolding encode_refusal
returns-in_err-check_encoder c =
    let e = c.in_err-check_encoder.ensures in
    let p = err_from_is_err_and c.from_residual.result c.from_residual.ensures.1 in
    rw (p.1, p.2) (record { answer = refused-by _ _ e (numbered _) tt; parity = kept_by _ _ e (numbered _) _ _ })

sizes : (c : In_ok-check_encoder) → Ready c.args.code c.args.w c.args.fill (length c.args.info.now) (length c.args.parity.now)
unfolding encode_refusal
sizes c = ready _ _ _ _ _ (sym c.in_ok-check_encoder.ensures)

pub lay-shape-requires : goal.lay-shape-requires
lay-shape-requires c = let r = sizes (goal.at.lay-shape-requires c).In_ok-check_encoder in record { known = (r.known, r.sized.most); blank = c.new-table.ensures }

pub encode_sized-requires : goal.encode_sized-requires
encode_sized-requires c =
    let r = sizes (goal.at.encode_sized-requires c).In_ok-check_encoder in
    let s = c.lay-shape.ensures.numbers in
    record {
      some = omega (arith, r.some, s.1);
      sized = at_numbers (λ number w fill. Sized (code_of number) w fill (length c.args.info.now) (length c.args.parity.now)) s.0 s.1 s.2 r.sized;
    }

pub returns : goal.returns
unfolding encode_refusal
returns c =
    let e = c.in_ok-check_encoder.ensures in
    let s = c.lay-shape.ensures.numbers in
    record {
      answer = answered-by _ _ e refl tt;
      parity = at_numbers (λ number w fill. c.encode_sized.new.parity ≡ parity_of (code_of number) w fill c.args.info.now) (sym s.0) (sym s.1) (sym s.2) c.encode_sized.ensures ∙ changed_by _ _ e refl _ _;
    }
