-- Document 01, "The unit", and document 02, job 6: what the unit reader finds in a unit's bytes alone. Positions count from the unit's
-- first byte. Extensions are read byte by byte, and the first byte that can't be accepted decides: 6 where the bytes end early, 19 for a
-- number, 20 for an extension's kind.
-- Assumes nothing.
use Rattle.std.specs.Prelude.{Result, Ok, Err, Some, None, Bool, true, false, cond, not, ◌&&◌, ◌||◌, List, ℕ, zero, suc, ◌+◌, ◌/◌, ◌%◌, eqb, ltb, leb, length, get_or}
use Rattle.std.specs.Prelude as rust
use Rattle.std.proofs.Math.Option.{Option, none, some}
use Rattle.ccsds.specs.RefusalTable.{Refusal}
use Rattle.ccsds.specs.RefusalTable as refusal
use Rattle.ccsds.specs.Refusals.{Outcome, refused, answered, ◌⟫◌, refused_for, refuse_if, refusal_number}
use Rattle.wire.specs.Bytes.{part, pair_at}
use Rattle.wire.specs.Sdnv.{Number, Reading, finished, unfinished, wrong, number_at}
use Rattle.wire.specs.declared.sdnv.Number as wire
use Rattle.ccsds.specs.declared.refusal.Refusal as answer
use Rattle.unit_reader.specs.declared.Parameters.{Parameters}
use Rattle.unit_reader.specs.declared.Extensions.{Extensions}
use Rattle.unit_reader.specs.declared.UnitParts.{UnitParts}

-- the coding parameters
pub record Coding : Type 0 where
  pub w : ℕ
  pub k : ℕ
  pub n : ℕ
  pub seed : ℕ

-- what one extension or several say: the coding parameters, if a type 1 came, and the position after them
pub record ExtensionsRead : Type 0 where
  pub coding : Option Coding
  pub end : ℕ

-- what a unit says: the header's numbers, the coding parameters, if a type 1 came, and where the symbol starts
pub record Parts : Type 0 where
  pub protocol : ℕ
  pub count : ℕ
  pub lwc : ℕ
  pub lsc : ℕ
  pub coding : Option Coding
  pub symbol : ℕ

-- a reading as an answer: 19 for a byte that can't be accepted, and its own refusal, `early`, where the bytes end early
abbrev pub number_or : Refusal → Reading → Outcome Number
number_or early (finished x) = answered x
number_or early unfinished = refused_for early
number_or early wrong = refused_for refusal.number

-- a length at a position: bytes that end early are 6, and so is a value that reaches past them
unfoldable pub length_at : List ℕ → ℕ → Outcome Number
length_at s at =
    number_or refusal.extension (number_at s at) ⟫ λ len.
    refuse_if refusal.extension (ltb (length s) (len.end + len.value)) (answered len)

-- a number of a type 1's value: one that the value's end cuts off is 20
abbrev pub parameter_at : List ℕ → ℕ → Outcome Number
parameter_at v at = number_or refusal.kind (number_at v at)

-- a type 1's value: exactly four numbers
unfoldable pub coding_of : List ℕ → Outcome Coding
coding_of v =
    parameter_at v 0 ⟫ λ w.
    parameter_at v w.end ⟫ λ k.
    parameter_at v k.end ⟫ λ n.
    parameter_at v n.end ⟫ λ seed.
    refuse_if refusal.kind (not (eqb seed.end (length v)))
    (answered (record { w = w.value; k = k.value; n = n.value; seed = seed.value }))

-- the value of an extension of a type, from position a up to position e
unfoldable pub value_of : List ℕ → ℕ → ℕ → ℕ → Outcome ExtensionsRead
value_of s type a e =
    cond (eqb type 1)
    (coding_of (part s a e) ⟫ λ p. answered (record { coding = some p; end = e }))
    (answered (record { coding = none; end = e }))

-- a type that isn't 1 to 254, or a second 1: `came` says whether a type 1 came before
unfoldable pub wrong_type : Bool → ℕ → Bool
wrong_type came type = eqb type 0 || eqb type 255 || came && eqb type 1

-- one extension at a position: a type, a length, and that many value bytes
unfoldable pub extension_at : List ℕ → Bool → ℕ → Outcome ExtensionsRead
extension_at s came at =
    refuse_if refusal.extension (leb (length s) at)
    (refuse_if refusal.kind (wrong_type came (get_or s at 0))
    (length_at s (at + 1) ⟫ λ len.
    value_of s (get_or s at 0) len.end (len.end + len.value)))

-- whether coding parameters came
abbrev pub is_some : Option Coding → Bool
is_some none = false
is_some (some p) = true

-- the coding parameters after one more extension
abbrev pub after : Option Coding → Option Coding → Option Coding
after before none = before
after before (some p) = some p

-- one more extension
abbrev pub one_more : List ℕ → ExtensionsRead → Outcome ExtensionsRead
one_more s found =
    extension_at s (is_some found.coding) found.end ⟫ λ x.
    answered (record { coding = after found.coding x.coding; end = x.end })

-- the first so many extensions of a unit
unfoldable pub extensions_of : List ℕ → ℕ → Outcome ExtensionsRead
extensions_of s zero = answered (record { coding = none; end = 6 })
extensions_of s (suc count) = extensions_of s count ⟫ one_more s

-- 5, header: under 6 bytes, version not 1, reserved bit set, or extension count 0
unfoldable pub wrong_header : List ℕ → Bool
wrong_header s = ltb (length s) 6 || not (eqb (get_or s 0 0 / 16) 1) || not (eqb (get_or s 0 0 % 2) 0) || eqb (get_or s 1 0) 0

-- the unit in a list of bytes
unfoldable pub read_unit : List ℕ → Outcome Parts
read_unit s =
    refuse_if refusal.header (wrong_header s)
    (extensions_of s (get_or s 1 0) ⟫ λ x.
    answered (record {
      protocol = get_or s 0 0 / 2 % 8;
      count = get_or s 1 0;
      lwc = pair_at s 2;
      lsc = pair_at s 4;
      coding = x.coding;
      symbol = x.end;
    }))

-- ---- the cases of the reader's answers in the paper's words

abbrev pub number_as : Result wire.Number answer.Refusal → Outcome Number
number_as (Ok x) = answered (record { value = x.value; end = x.end })
number_as (Err r) = refused (refusal_number r)

abbrev pub four_as : Parameters → Coding
four_as p = record { w = p.w; k = p.k; n = p.n; seed = p.seed }

abbrev pub coding_as : Result Parameters answer.Refusal → Outcome Coding
coding_as (Ok p) = answered (four_as p)
coding_as (Err r) = refused (refusal_number r)

abbrev pub extension_as : rust.Option Parameters → Option Coding
extension_as (Some p) = some (four_as p)
extension_as None = none

abbrev pub walk_as : Result Extensions answer.Refusal → Outcome ExtensionsRead
walk_as (Ok x) = answered (record { coding = extension_as x.coding; end = x.end })
walk_as (Err r) = refused (refusal_number r)

abbrev pub read_as : Result UnitParts answer.Refusal → Outcome Parts
read_as (Ok p) =
    answered (record {
      protocol = p.protocol;
      count = p.count;
      lwc = p.lwc;
      lsc = p.lsc;
      coding = extension_as p.coding;
      symbol = p.symbol;
    })
read_as (Err r) = refused (refusal_number r)
