-- Document 01, "Sending", with document 02, job 2: show.
-- Assumes nothing.
use Rattle.std.specs.Prelude.{cond, List, [], ◌∷◌, ◌++◌, ℕ, ◌+◌, ◌-◌, ◌*◌, eqb, ltb, length, take, drop}
use Rattle.std.specs.Borrow.{Bor}
use Rattle.ccsds.specs.Codes.{n_of}
use Rattle.ccsds.specs.Tables.{code_of}
use Rattle.ccsds.specs.Fill.{idle_lwc}
use Rattle.ccsds.specs.RefusalTable as refusal
use Rattle.ccsds.specs.Refusals.{first_of, encoder_conditions, wrong_position}

-- a shared slice: where in memory its first byte stands (a block, and the place in it), and its bytes
pub record Slice : Type 0 where
  pub start : ℕ × ℕ
  pub bytes : List ℕ

abbrev pub slice_as : Bor (List ℕ) → Slice
slice_as s = record { start = s.ref_ptr; bytes = s.now }

-- the part of len bytes of a buffer, from its byte `from` on
abbrev pub part_of : Bor (List ℕ) → ℕ → ℕ → Slice
part_of s from len = record { start = (s.ref_ptr.0, s.ref_ptr.1 + from); bytes = take len (drop from s.now) }

-- where the empty part is shown: of a code's number, a width, a fill, the lengths of the two buffers, and an LWC
unfoldable pub show_refusal : ℕ → ℕ → ℕ → ℕ → ℕ → ℕ → ℕ
show_refusal number w fill info_len parity_len lwc =
    first_of (
    encoder_conditions number w fill info_len parity_len
    ++ (refusal.position, wrong_position (n_of (code_of number)) lwc)
    ∷ (refusal.idle, idle_lwc (code_of number).k fill lwc)
    ∷ []
    )

-- the symbol at a position: information symbol i below k, else parity symbol i - k
abbrev pub symbol_part : ℕ → ℕ → Bor (List ℕ) → Bor (List ℕ) → ℕ → Slice
symbol_part k w info parity i = cond (ltb i k) (part_of info (i * w) w) (part_of parity ((i - k) * w) w)

-- the symbol of an LWC, or the empty part at the start of the information
unfoldable pub show_of : ℕ → ℕ → ℕ → Bor (List ℕ) → Bor (List ℕ) → ℕ → Slice
show_of number w fill info parity lwc =
    cond (eqb (show_refusal number w fill (length info.now) (length parity.now) lwc) 0)
    (symbol_part (code_of number).k w info parity (lwc - 1))
    (part_of info 0 0)
