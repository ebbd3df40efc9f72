-- Document 01, "Sending", with document 02, job 2: write.
-- Assumes nothing.
use Rattle.std.specs.Prelude.{Result, Ok, Err, [], ◌∷◌, ◌++◌, ℕ}
use Rattle.ccsds.specs.Codes.{n_of}
use Rattle.ccsds.specs.Tables.{code_of}
use Rattle.ccsds.specs.Fill.{idle_lwc}
use Rattle.ccsds.specs.Units.{unit_length}
use Rattle.ccsds.specs.RefusalTable as refusal
use Rattle.ccsds.specs.Refusals.{Conditions, first_of, record_conditions, wrong_length, wrong_position, Outcome, refused, answered, refusal_number}
use Rattle.ccsds.specs.declared.refusal.Refusal as answer

-- 4, 9, 14 and 10: of a code's number, a width, a fill, an LWC, and the lengths of the symbol and of the output
abbrev pub unit_conditions : ℕ → ℕ → ℕ → ℕ → ℕ → ℕ → Conditions
unit_conditions number w fill lwc symbol_len out_len =
    (refusal.length, wrong_length out_len (unit_length (code_of number) w))
    ∷ (refusal.position, wrong_position (n_of (code_of number)) lwc)
    ∷ (refusal.idle, idle_lwc (code_of number).k fill lwc)
    ∷ (refusal.symbol, wrong_length symbol_len w)
    ∷ []

-- the number of the refusal, or 0: with a protocol ID and an LSC
unfoldable pub write_refusal : ℕ → ℕ → ℕ → ℕ → ℕ → ℕ → ℕ → ℕ → ℕ
write_refusal number w protocol lsc fill lwc symbol_len out_len =
    first_of (record_conditions number w protocol lsc fill ++ unit_conditions number w fill lwc symbol_len out_len)

-- the cases of write's answer in the paper's words
abbrev pub written_as : Result Unit answer.Refusal → Outcome Unit
written_as (Ok a) = answered tt
written_as (Err r) = refused (refusal_number r)
