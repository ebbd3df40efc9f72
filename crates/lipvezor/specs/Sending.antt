-- Pack, encode, show and write on a block's record, for C and Rust: what each answers, and its output afterwards.
-- Assumes nothing.
use Rattle.std.specs.Prelude.{List, [], ◌∷◌, ◌++◌, ℕ, length}
use Rattle.std.specs.Borrow.{Bor}
use Rattle.ccsds.specs.Codes.{n_of}
use Rattle.ccsds.specs.Tables.{code_of}
use Rattle.ccsds.specs.Fill.{idle_lwc}
use Rattle.ccsds.specs.RefusalTable as refusal
use Rattle.ccsds.specs.Refusals.{Outcome, outcome, first_of, encoder_conditions, wrong_length, wrong_position, afterwards}
use Rattle.sending.specs.Show.{show_of}
use Rattle.ccsds.specs.Units.{unit_of}
use Rattle.sending.specs.Writer.{write_refusal}
use Rattle.tiles.specs.Pack.{pack_of, pack_refusal}
use Rattle.encoder.specs.Encode.{encode_refusal, parity_of}
use Rattle.block.specs.declared.Block.{Block}

pub record Sending : Type 0 where
  pub answer : Outcome Unit
  pub output : List ℕ

-- by the number of the refusal, or 0: a refused call leaves the output as it was
abbrev pub sending_by : ℕ → List ℕ → List ℕ → Sending
sending_by number new old = record { answer = outcome number tt; output = afterwards number new old }

-- of the tiles' joined bytes, their lengths and the output, which becomes the information
abbrev pub packing : Block → List ℕ → List ℕ → List ℕ → Sending
packing b bytes lengths out =
    sending_by (pack_refusal b.code b.w b.fill (length bytes) lengths (length out)) (pack_of b.w b.fill bytes lengths) out

-- of the information and the parity buffer
abbrev pub encoding : Block → List ℕ → List ℕ → Sending
encoding b info parity =
    sending_by (encode_refusal b.code b.w b.fill (length info) (length parity)) (parity_of (code_of b.code) b.w b.fill info) parity

-- The number of show's refusal, or 0: where 1, 2, 13, 4, 9 or 14 would apply show has the empty part; here that is refused, and an output that
-- is not W bytes is 4.
unfoldable pub copy_refusal : ℕ → ℕ → ℕ → ℕ → ℕ → ℕ → ℕ → ℕ
copy_refusal number w fill info_len parity_len lwc out_len =
    first_of (
    encoder_conditions number w fill info_len parity_len
    ++ (refusal.length, wrong_length out_len w)
    ∷ (refusal.position, wrong_position (n_of (code_of number)) lwc)
    ∷ (refusal.idle, idle_lwc (code_of number).k fill lwc)
    ∷ []
    )

-- of the encoder's two buffers, an LWC and the output, which gets a copy of the shown part
abbrev pub showing : Block → Bor (List ℕ) → Bor (List ℕ) → ℕ → List ℕ → Sending
showing b info parity lwc out =
    sending_by (copy_refusal b.code b.w b.fill (length info.now) (length parity.now) lwc (length out))
    (show_of b.code b.w b.fill info parity lwc).bytes out

-- of an LWC, a symbol and the output
abbrev pub writing : Block → ℕ → List ℕ → List ℕ → Sending
writing b lwc symbol out =
    sending_by (write_refusal b.code b.w b.protocol b.lsc b.fill lwc (length symbol) (length out))
    (unit_of (code_of b.code) b.w b.protocol b.lsc lwc symbol) out
