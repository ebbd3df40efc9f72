-- What the quick reader of expected units tests and answers. Internal: no public contract cites it.
-- Assumes nothing.
use Rattle.std.specs.Prelude.{◌≡◌, Option, Some, None, Ok, List, ◌++◌, ℕ, ◌+◌, length, drop}
use Rattle.ccsds.specs.Refusals.{Outcome}
use Rattle.unit_reader.specs.Reader.{Parts, read_as}
use Rattle.unit_reader.specs.declared.UnitParts.{UnitParts}

-- r is the position after these bytes, which come after the header
abbrev pub Starts : List ℕ → List ℕ → Option ℕ → Type 0
Starts s bytes (Some r) = (r ≡ 6 + length bytes) × (drop 6 s ≡ bytes ++ drop r s)
Starts s bytes None = Unit {0}

-- what was read is what the unit reader reads
abbrev pub Agrees : Option UnitParts → Outcome Parts → Type 0
Agrees (Some p) r = read_as (Ok p) ≡ r
Agrees None r = Unit {0}
