-- What is claimed of units, beside the contracts. Proved in proofs/: FirstByte and EndsEarly (what decides), UnitClaims and CanonicalUnit.
-- Assumes nothing.
use Rattle.std.specs.Prelude.{◌≡◌, true, false, List, [], ◌∷◌, ◌++◌, ℕ, ◌+◌, ◌*◌, ◌≤◌, ◌<◌, length, drop}
use Rattle.std.proofs.Math.Option.{some}
use Rattle.std.specs.Borrow.{Bor}
use Rattle.ccsds.specs.Codes.{Params, n_of, encode_of}
use Rattle.ccsds.specs.Tables.{code_of}
use Rattle.ccsds.specs.Fill.{wrong_fill, is_idle, padded}
use Rattle.ccsds.specs.RefusalTable.{number_of}
use Rattle.ccsds.specs.RefusalTable as refusal
use Rattle.ccsds.specs.Refusals.{first_of, code_conditions, wrong_code, wrong_width, wrong_label, wrong_length, wrong_position, refused_for, answered}
use Rattle.unit_reader.specs.Reader.{Parts, read_unit}
use Rattle.algebra.specs.Codeword.{symbol_at}
use Rattle.wire.specs.Bytes.{OfBytes}
use Rattle.ccsds.specs.Units.{unit_of, symbol_start, unit_length, unit_bytes}
use Rattle.sending.specs.Writer.{write_refusal}
use Rattle.sending.specs.Show.{part_of, show_refusal, show_of}

-- The first byte that can't be accepted decides: what a unit's bytes say, read or refused, stays so whatever bytes come after them, unless
-- they ended early.
abbrev pub FirstByteDecides : Type 0
FirstByteDecides = (s after : List ℕ) → 6 ≤ length s → (read_unit s ≡ refused_for refusal.extension → ⊥) → read_unit (s ++ after) ≡ read_unit s

-- 6 is kept for bytes that end early: there are bytes that, coming after them, lead to another answer.
abbrev pub EndsEarly : Type 0
EndsEarly = (s : List ℕ) → read_unit s ≡ refused_for refusal.extension → (after : List ℕ) × (read_unit (s ++ after) ≡ refused_for refusal.extension → ⊥)

-- the parts of a unit that write makes
abbrev pub parts_of : Params → ℕ → ℕ → ℕ → ℕ → Parts
parts_of c w protocol lsc lwc =
    record {
      protocol = protocol;
      count = 1;
      lwc = lwc;
      lsc = lsc;
      coding = some (record { w = w; k = c.k; n = n_of c; seed = 0 });
      symbol = symbol_start c w;
    }

-- bytes that are read as a unit of these parts and this symbol
pub record ReadsAs (u : List ℕ) (parts : Parts) (symbol : List ℕ) : Type 0 where
  pub read : read_unit u ≡ answered parts
  pub rest : drop parts.symbol u ≡ symbol

-- what write writes is read as its parts and its symbol
abbrev pub RoundTrip : Type 0
RoundTrip =
    (number w protocol lsc fill lwc : ℕ) (symbol : List ℕ) (out_len : ℕ) → write_refusal number w protocol lsc fill lwc (length symbol) out_len ≡ 0
    → ReadsAs (unit_of (code_of number) w protocol lsc lwc symbol) (parts_of (code_of number) w protocol lsc lwc) symbol

-- a unit of one extension that is read with a code's parameters is, byte for byte, what write makes of its numbers and its symbol
abbrev pub CanonicalUnit : Type 0
CanonicalUnit =
    (c : Params) (w : ℕ) (u : List ℕ) (parts : Parts) → OfBytes u → read_unit u ≡ answered parts
    → parts.count ≡ 1 → parts.coding ≡ some (record { w = w; k = c.k; n = n_of c; seed = 0 })
    → u ≡ unit_of c w parts.protocol parts.lsc parts.lwc (drop parts.symbol u)

-- the LWC of a position
abbrev pub lwc_of : ℕ → ℕ
lwc_of position = position + 1

-- The information symbols that are sent in one buffer and the parity in the other, a label, and a position that is not idle: the symbol that
-- show shows for the position's LWC can be written, into an output of the code's size for units, and the unit is read as one with that LWC
-- whose symbol is the codeword's at the position.
abbrev pub SendsCodeword : Type 0
SendsCodeword =
    (number w protocol lsc fill position : ℕ) (info parity : Bor (List ℕ))
    → wrong_code number ≡ false → wrong_width w ≡ false → wrong_label protocol lsc ≡ false → wrong_fill (code_of number).k fill ≡ false
    → position < n_of (code_of number) → is_idle (code_of number).k fill position ≡ false
    → length info.now ≡ fill * w → parity.now ≡ encode_of (code_of number) w (padded (code_of number).k w fill info.now)
    → let shown = (show_of number w fill info parity (lwc_of position)).bytes in
    (write_refusal number w protocol lsc fill (lwc_of position) (length shown) (unit_bytes number w) ≡ 0)
    × ReadsAs (unit_of (code_of number) w protocol lsc (lwc_of position) shown) (parts_of (code_of number) w protocol lsc (lwc_of position))
    (symbol_at w (padded (code_of number).k w fill info.now ++ parity.now) position)

-- An idle position is never sent: show has the empty part for its LWC, whatever the buffers are, and write refuses it, whatever the symbol is.
abbrev pub IdleNotSent : Type 0
IdleNotSent =
    (number w protocol lsc fill position : ℕ) (info parity : Bor (List ℕ)) (symbol_len : ℕ)
    → wrong_code number ≡ false → wrong_width w ≡ false → wrong_label protocol lsc ≡ false → wrong_fill (code_of number).k fill ≡ false
    → is_idle (code_of number).k fill position ≡ true
    → (show_of number w fill info parity (lwc_of position) ≡ part_of info 0 0)
    × (write_refusal number w protocol lsc fill (lwc_of position) symbol_len (unit_bytes number w) ≡ number_of refusal.idle)

-- With fill k no position is idle: show and write turn down what document 01 says, by its lists, which know neither 13 nor 14.
abbrev pub SendsFull : Type 0
SendsFull =
    (number w protocol lsc lwc info_len parity_len symbol_len out_len : ℕ) → wrong_code number ≡ false
    → let c = code_of number in
    (
    show_refusal number w c.k info_len parity_len lwc
    ≡ first_of (
    code_conditions number w
    ++ (refusal.length, wrong_length info_len (c.k * w))
    ∷ (refusal.length, wrong_length parity_len (c.m * w))
    ∷ (refusal.position, wrong_position (n_of c) lwc)
    ∷ []
    )
    )
    × (
    write_refusal number w protocol lsc c.k lwc symbol_len out_len
    ≡ first_of (
    code_conditions number w
    ++ (refusal.label, wrong_label protocol lsc)
    ∷ (refusal.length, wrong_length out_len (unit_length c w))
    ∷ (refusal.position, wrong_position (n_of c) lwc)
    ∷ (refusal.symbol, wrong_length symbol_len w)
    ∷ []
    )
    )
