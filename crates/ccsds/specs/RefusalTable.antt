-- Document 01, "Why a call is turned down", with document 02, jobs 2 and 6: the refusals by the table's words, their numbers, and the one order in
-- which their conditions are tried. Other files import it as `refusal`.
-- Assumes nothing.
use Rattle.std.specs.Prelude.{List, [], ◌∷◌, ℕ}

pub data Refusal : Type 0 where
  code width label fill length header extension number kind parameters foreign position idle symbol mark conflict : Refusal

abbrev pub number_of : Refusal → ℕ
number_of code = 1
number_of width = 2
number_of label = 3
number_of length = 4
number_of header = 5
number_of extension = 6
number_of parameters = 7
number_of foreign = 8
number_of position = 9
number_of symbol = 10
number_of mark = 11
number_of conflict = 12
number_of fill = 13
number_of idle = 14
number_of number = 19
number_of kind = 20

-- The table from the top down. 13 stands after 3, and 14 after 9. 19 and 20 stand beside 6: there the first byte that can't be accepted decides.
abbrev pub order : List Refusal
order =
    code ∷ width ∷ label ∷ fill ∷ length ∷ header ∷ extension ∷ number ∷ kind ∷ parameters ∷ foreign ∷ position ∷ idle ∷ symbol ∷ mark ∷ conflict ∷ []
