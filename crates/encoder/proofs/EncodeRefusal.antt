-- What is known where encode is not refused.
-- Assumes nothing.
use Rattle.std.proofs.Common.{◌≡◌, ℕ, ◌<◌, sym, refl, ◌∙◌}
use Rattle.ccsds.specs.Tables.{code_of, Known}
use Rattle.encoder.specs.Encode.{encode_refusal}
use Rattle.encoder.specs.inner.Steps.{Sized}
use Rattle.ccsds.proofs.RefusalOrder.{in_order}
use Rattle.ccsds.proofs.Refusals.{code-known, width_right, fill_right, encoder_none}

pub record Ready (number w fill i p : ℕ) : Type 0 where
  pub known : Known number
  pub some : 0 < w
  pub sized : Sized (code_of number) w fill i p

pub ready : (number w fill i p : ℕ) → encode_refusal number w fill i p ≡ 0 → Ready number w fill i p
unfolding encode_refusal
ready number w fill i p e =
    let n = encoder_none number w fill i p (sym (in_order _ refl) ∙ e) in
    let f = fill_right (code_of number).k fill n.2 in
    record { known = code-known number n.0; some = (width_right w n.1).0; sized = record { some = f.0; most = f.1; info = n.3; parity = n.4 } }
