-- Document 01, "Why a call is turned down": the conditions, which of them decides, what a call answers, and what it leaves in a lent buffer.
-- Assumes nothing.
use Rattle.std.specs.Prelude.{Result, Ok, Err, Bool, true, false, cond, not, ◌||◌, List, [], ◌∷◌, ◌++◌, ℕ, zero, suc, ◌*◌, eqb, ltb}
use Rattle.ccsds.specs.Tables.{code_of, is_code}
use Rattle.ccsds.specs.Fill.{wrong_fill}
use Rattle.ccsds.specs.RefusalTable.{Refusal, number_of, order}
use Rattle.ccsds.specs.RefusalTable as refusal
use Rattle.ccsds.specs.declared.refusal.Refusal as Answer
use Rattle.ccsds.specs.declared.refusal.Refusal.TheVariants.{Code, Width, Label, Length, Header, Extension, Parameters, Foreign, Position, Symbol, Mark, Conflict, Fill, Idle, Narrow, Tiles, Overfull, Number, Kind}

-- ---- the first that applies

-- a call's conditions, each with the refusal that it leads to; in which sequence they are listed doesn't matter
abbrev pub Conditions : Type 0
Conditions = List (Refusal × Bool)

-- some condition that leads to this refusal holds
unfoldable pub applies : Conditions → Refusal → Bool
applies [] r = false
applies (c ∷ cs) r = cond (eqb (number_of c.0) (number_of r)) (c.1 || applies cs r) (applies cs r)

-- the number of the first refusal of a list that applies; 0 where none does
unfoldable pub first_in : List Refusal → Conditions → ℕ
first_in [] cs = 0
first_in (r ∷ rs) cs = cond (applies cs r) (number_of r) (first_in rs cs)

-- from the top of the table down
unfoldable pub first_of : Conditions → ℕ
first_of cs = first_in order cs

-- ---- the conditions that more than one call uses, by the table's word

-- 1, code
unfoldable pub wrong_code : ℕ → Bool
wrong_code number = not (is_code number)

-- 2, width
unfoldable pub wrong_width : ℕ → Bool
wrong_width w = eqb w 0 || ltb 1024 w

-- 3, label
unfoldable pub wrong_label : ℕ → ℕ → Bool
wrong_label protocol lsc = eqb lsc 0 || ltb 65534 lsc || ltb 7 protocol

-- 4, length: a buffer of `have` elements where `size` are asked for; and 10, symbol: of `have` bytes where W are
unfoldable pub wrong_length : ℕ → ℕ → Bool
wrong_length have size = not (eqb have size)

-- 9, position: of n
unfoldable pub wrong_position : ℕ → ℕ → Bool
wrong_position n lwc = eqb lwc 0 || ltb n lwc

-- ---- the parts of the table that more than one call uses

-- 1 and 2: of a code's number and a width
abbrev pub code_conditions : ℕ → ℕ → Conditions
code_conditions number w = (refusal.code, wrong_code number) ∷ (refusal.width, wrong_width w) ∷ []

-- 1 to 3 and 13: of the numbers of a block's record, with a protocol ID, an LSC and a fill
abbrev pub record_conditions : ℕ → ℕ → ℕ → ℕ → ℕ → Conditions
record_conditions number w protocol lsc fill =
    code_conditions number w
    ++ (refusal.label, wrong_label protocol lsc)
    ∷ (refusal.fill, wrong_fill (code_of number).k fill)
    ∷ []

-- 1, 2, 13 and 4: with a fill and the lengths of the encoder's two buffers
abbrev pub encoder_conditions : ℕ → ℕ → ℕ → ℕ → ℕ → Conditions
encoder_conditions number w fill info_len parity_len =
    code_conditions number w
    ++ (refusal.fill, wrong_fill (code_of number).k fill)
    ∷ (refusal.length, wrong_length info_len (fill * w))
    ∷ (refusal.length, wrong_length parity_len ((code_of number).m * w))
    ∷ []

-- ---- answers and buffers

-- what a call answers: the number of its refusal alone, or its values
pub data Outcome (A : Type 0) : Type 0 where
  refused : ℕ → Outcome A
  answered : A → Outcome A

-- by the number of the refusal, 0 for none
abbrev pub outcome : {A : Type 0} → ℕ → A → Outcome A
outcome zero a = answered a
outcome (suc n) a = refused (suc n)

-- goes on with what was answered; a refusal's number is passed on
infixr 5 ◌⟫◌
abbrev pub ◌⟫◌ : {A B : Type 0} → Outcome A → (A → Outcome B) → Outcome B
refused n ⟫ f = refused n
answered a ⟫ f = f a

-- refused, by the table's word
abbrev pub refused_for : {A : Type 0} → Refusal → Outcome A
refused_for r = refused (number_of r)

-- refused where a condition applies, else as it is
abbrev pub refuse_if : {A : Type 0} → Refusal → Bool → Outcome A → Outcome A
refuse_if r true o = refused_for r
refuse_if r false o = o

-- the number of a refusal that a call answers with
abbrev pub refusal_number : Answer.Refusal → ℕ
refusal_number Code = 1
refusal_number Width = 2
refusal_number Label = 3
refusal_number Length = 4
refusal_number Header = 5
refusal_number Extension = 6
refusal_number Parameters = 7
refusal_number Foreign = 8
refusal_number Position = 9
refusal_number Symbol = 10
refusal_number Mark = 11
refusal_number Conflict = 12
refusal_number Fill = 13
refusal_number Idle = 14
refusal_number Narrow = 15
refusal_number Tiles = 16
refusal_number Overfull = 17
refusal_number Number = 19
refusal_number Kind = 20

-- what a check answers, by the number of the refusal, 0 for none
abbrev pub checked_as : Result Unit Answer.Refusal → ℕ
checked_as (Ok a) = 0
checked_as (Err r) = refusal_number r

-- what a call answers
abbrev pub outcome_of : {A : Type 0} → Result A Answer.Refusal → Outcome A
outcome_of (Ok a) = answered a
outcome_of (Err r) = refused (refusal_number r)

-- a lent buffer after a call, by the number of the refusal: a refused call leaves it as it was
abbrev pub afterwards : ℕ → List ℕ → List ℕ → List ℕ
afterwards zero new old = new
afterwards (suc n) new old = old

-- the size of a buffer of so many symbols of w bytes; 0 for a width that is refused
unfoldable pub bytes_of : ℕ → ℕ → ℕ
bytes_of symbols w = cond (wrong_width w) 0 (symbols * w)

-- the size of the information buffer; 0 for a width or a fill that is refused. For a number that is no code's k is 0, so every fill is refused.
unfoldable pub information_bytes : ℕ → ℕ → ℕ → ℕ
information_bytes number w fill = cond (wrong_width w || wrong_fill (code_of number).k fill) 0 (fill * w)
