-- Document 01, "The unit": how a unit is laid out. It does not carry the fill.
-- Assumes nothing.
use Rattle.std.specs.Prelude.{cond, ◌||◌, List, [], ◌∷◌, ◌++◌, ℕ, ◌+◌, ◌*◌, length}
use Rattle.ccsds.specs.Codes.{Params, n_of}
use Rattle.ccsds.specs.Tables.{code_of}
use Rattle.ccsds.specs.Refusals.{wrong_code, wrong_width}
use Rattle.wire.specs.Bytes.{two_bytes}
use Rattle.wire.specs.Sdnv.{sdnv_bytes}

-- a header: version 1, protocol ID and reserved bit 0, one extension, LWC, LSC
unfoldable pub header_of : ℕ → ℕ → ℕ → List ℕ
header_of protocol lsc lwc = ((16 + protocol * 2) ∷ []) ++ (1 ∷ []) ++ two_bytes lwc ++ two_bytes lsc

-- the value of type 1: W, k, n and seed 0
unfoldable pub value_bytes : ℕ → ℕ → ℕ → List ℕ
value_bytes w k n = sdnv_bytes w ++ sdnv_bytes k ++ sdnv_bytes n ++ sdnv_bytes 0

-- the extension: type 1, the length of its value, and the value
unfoldable pub extension_of : ℕ → ℕ → ℕ → List ℕ
extension_of w k n = (1 ∷ []) ++ sdnv_bytes (length (value_bytes w k n)) ++ value_bytes w k n

-- the unit of a code's symbol
unfoldable pub unit_of : Params → ℕ → ℕ → ℕ → ℕ → List ℕ → List ℕ
unit_of c w protocol lsc lwc symbol = header_of protocol lsc lwc ++ extension_of w c.k (n_of c) ++ symbol

-- where its symbol starts, and its length
abbrev pub symbol_start : Params → ℕ → ℕ
symbol_start c w = 6 + length (extension_of w c.k (n_of c))

unfoldable pub unit_length : Params → ℕ → ℕ
unit_length c w = symbol_start c w + w

-- the size of an output buffer; 0 for a code or a width that is refused
unfoldable pub unit_bytes : ℕ → ℕ → ℕ
unit_bytes number w = cond (wrong_code number || wrong_width w) 0 (unit_length (code_of number) w)
