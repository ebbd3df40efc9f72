-- What is known where a symbol is shown, and the two parts that it can be.
-- Assumes nothing.
use mathlib.Core.Path.{◌≡◌, refl, sym, ◌∙◌}
use mathlib.Core.List.{List}
use Prim.Native.Nat.{ℕ, ◌+◌, ◌-◌, ◌*◌, ◌≤◌, ◌<◌}
use native.Mathlib.Nat.{add-sub_cancel_left, add_comm}
use native.Mathlib.Omega.{arith}
use lib.ListN.{length, take, drop}
use denote.Ref.{Bor}
use borrow.Author.Tests.{eq-eqb, ne_eqb, lt-ltb, le-ltb}
use Rattle.ccsds.specs.Codes.{n_of}
use Rattle.ccsds.specs.Tables.{code_of, Known}
use Rattle.ccsds.specs.Fill.{idle_lwc}
use Rattle.ccsds.specs.RefusalTable as refusal
use Rattle.ccsds.specs.Refusals.{encoder_conditions, wrong_position}
use Rattle.sending.specs.Show.{part_of, show_refusal, show_of}
use Rattle.ccsds.proofs.RefusalOrder.{in_order, parts_none, first-none}
use Rattle.ccsds.proofs.Refusals.{code-known, width_right, position_right, encoder_none}
use Rattle.ccsds.proofs.FillLaws.{sent_below}
use Rattle.algebra.proofs.Codeword.{slot}

pub record Showable (number w fill info_len parity_len lwc : ℕ) : Type 0 where
  pub known : Known number
  pub width : (0 < w) × (w ≤ 1024)
  pub information : info_len ≡ fill * w
  pub parity : parity_len ≡ (code_of number).m * w
  pub position : (0 < lwc) × (lwc ≤ n_of (code_of number))
  pub sent : lwc - 1 < (code_of number).k → lwc - 1 < fill

pub showable : (number w fill info_len parity_len lwc : ℕ) → show_refusal number w fill info_len parity_len lwc ≡ 0
    → Showable number w fill info_len parity_len lwc
unfolding show_refusal idle_lwc
showable number w fill info_len parity_len lwc e =
    let a = parts_none (encoder_conditions number w fill info_len parity_len) _ (sym (in_order _ refl) ∙ e) in
    let b = encoder_none number w fill info_len parity_len a.0 in
    let p = first-none refusal.position (wrong_position (n_of (code_of number)) lwc) _ a.1 in
    record {
      known = code-known number b.0;
      width = width_right w b.1;
      information = b.3;
      parity = b.4;
      position = position_right (n_of (code_of number)) lwc p.0;
      sent = sent_below (code_of number).k fill (lwc - 1) (first-none refusal.idle (idle_lwc (code_of number).k fill lwc) _ p.1).0;
    }

-- the symbol lies within its buffer
module _ {number w fill info_len parity_len lwc : ℕ} (s : Showable number w fill info_len parity_len lwc) where
  pub in_information : lwc - 1 < (code_of number).k → (lwc - 1) * w + w ≤ info_len
  in_information h = omega (arith, slot (lwc - 1) fill w (s.sent h), s.information)

  pub in_parity : (code_of number).k ≤ lwc - 1 → (lwc - 1 - (code_of number).k) * w + w ≤ parity_len
  in_parity h =
      let l : lwc - 1 - (code_of number).k < (code_of number).m = omega (arith, s.position) in
      omega (arith, slot (lwc - 1 - (code_of number).k) (code_of number).m w l, s.parity)

-- what is shown, as the code's ranges have it
module _ (number w fill : ℕ) (info parity : Bor (List ℕ)) (lwc : ℕ) where
  pub shows-none : (show_refusal number w fill (length info.now) (length parity.now) lwc ≡ 0 → ⊥)
      → show_of number w fill info parity lwc ≡ part_of info 0 0
  unfolding show_of
  shows-none h = rw (ne_eqb _ _ h)

  module _ (z : show_refusal number w fill (length info.now) (length parity.now) lwc ≡ 0) where
    pub shows-information : lwc - 1 < (code_of number).k → show_of number w fill info parity lwc ≡ part_of info ((lwc - 1) * w) w
    unfolding show_of
    shows-information h = rw (eq-eqb _ _ z, lt-ltb _ _ h)

    pub shows-parity : (code_of number).k ≤ lwc - 1 → show_of number w fill info parity lwc ≡ part_of parity ((lwc - 1 - (code_of number).k) * w) w
    unfolding show_of
    shows-parity h = rw (eq-eqb _ _ z, le-ltb _ _ h)

-- a part by its range
pub part_is : (s : Bor (List ℕ)) (a w : ℕ) → record { start = (s.ref_ptr.0, a + s.ref_ptr.1); bytes = take (a + w - a) (drop a s.now) } ≡ part_of s a w
part_is s a w = rw (add_comm a s.ref_ptr.1, add-sub_cancel_left)
