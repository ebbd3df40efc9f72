-- What is known where a unit can be written.
-- Assumes nothing.
use mathlib.Core.Path.{◌≡◌, refl, sym, ◌∙◌}
use Prim.Native.Nat.{ℕ, ◌≤◌, ◌<◌}
use Rattle.ccsds.specs.Codes.{n_of}
use Rattle.ccsds.specs.Tables.{code_of, Known}
use Rattle.ccsds.specs.Fill.{idle_lwc}
use Rattle.ccsds.specs.Units.{unit_length}
use Rattle.ccsds.specs.RefusalTable as refusal
use Rattle.ccsds.specs.Refusals.{record_conditions, wrong_length, wrong_position}
use Rattle.ccsds.proofs.RefusalOrder.{in_order, parts_none, first-none}
use Rattle.ccsds.proofs.Refusals.{code-known, width_right, label_right, length_right, position_right, record_none}
use Rattle.sending.specs.Writer.{write_refusal}

pub record Writable (number w protocol lsc lwc symbol_len out_len : ℕ) : Type 0 where
  pub known : Known number
  pub width : (0 < w) × (w ≤ 1024)
  pub label : (lsc ≤ 65534) × (protocol ≤ 7)
  pub position : (0 < lwc) × (lwc ≤ n_of (code_of number))
  pub output : out_len ≡ unit_length (code_of number) w
  pub symbol : symbol_len ≡ w

pub writable : (number w protocol lsc fill lwc symbol_len out_len : ℕ) → write_refusal number w protocol lsc fill lwc symbol_len out_len ≡ 0
    → Writable number w protocol lsc lwc symbol_len out_len
unfolding write_refusal
writable number w protocol lsc fill lwc symbol_len out_len e =
    let a = parts_none (record_conditions number w protocol lsc fill) _ (sym (in_order _ refl) ∙ e) in
    let b = record_none number w protocol lsc fill a.0 in
    let c = first-none refusal.length (wrong_length out_len (unit_length (code_of number) w)) _ a.1 in
    let d = first-none refusal.position (wrong_position (n_of (code_of number)) lwc) _ c.1 in
    let i = first-none refusal.idle (idle_lwc (code_of number).k fill lwc) _ d.1 in
    let f = first-none refusal.symbol (wrong_length symbol_len w) _ i.1 in
    record {
      known = code-known number b.0;
      width = width_right w b.1;
      label = label_right protocol lsc b.2;
      position = position_right (n_of (code_of number)) lwc d.0;
      output = length_right out_len (unit_length (code_of number) w) c.0;
      symbol = length_right symbol_len w f.0;
    }
