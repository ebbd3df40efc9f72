-- Document 01, "Sending", with document 02, job 2: encode.
-- Assumes nothing.
use Rattle.std.specs.Prelude.{ℕ, List, Result}
use Rattle.ccsds.specs.Codes.{Params, encode_of}
use Rattle.ccsds.specs.Fill.{padded}
use Rattle.ccsds.specs.Refusals.{first_of, encoder_conditions, Outcome, outcome_of}
use Rattle.ccsds.specs.declared.refusal.Refusal.{Refusal}

-- the number of the refusal, or 0: of a code's number, a width, a fill, and the lengths of the information and the parity buffer
unfoldable pub encode_refusal : ℕ → ℕ → ℕ → ℕ → ℕ → ℕ
encode_refusal number w fill info_len parity_len = first_of (encoder_conditions number w fill info_len parity_len)

-- the parity bytes of the information symbols u that are sent
abbrev pub parity_of : Params → ℕ → ℕ → List ℕ → List ℕ
parity_of c w fill u = encode_of c w (padded c.k w fill u)

-- encode's answer in the paper's words
abbrev pub encoded_as : Result Unit Refusal → Outcome Unit
encoded_as = outcome_of
