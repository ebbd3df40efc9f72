-- `ccsds::tables::layout_of` meets its contract: each code's numbers are tested against its table once.
-- Assumes nothing.
use Rattle.ccsds.specs.Tables.{code_of, code_in, codes, c0, c1, c2, c4, c5, c7, c8, rows1, rows2, rows4, rows5, rows7, rows8}
use Rattle.ccsds.proofs.FlatTable.{given, no_code, none}
use Rattle.ccsds.proofs.tables.layout_of.Goals as goal

pub returns-in-1 : goal.returns-in-1
unfolding code_of code_in codes c1 rows1
returns-in-1 c = rw c.in-1.is (given (code_of 1) _ tt)

pub returns-in-2 : goal.returns-in-2
unfolding code_of code_in codes c2 rows2
returns-in-2 c = rw c.in-2.is (given (code_of 2) _ tt)

pub returns-in-4 : goal.returns-in-4
unfolding code_of code_in codes c4 rows4
returns-in-4 c = rw c.in-4.is (given (code_of 4) _ tt)

pub returns-in-5 : goal.returns-in-5
unfolding code_of code_in codes c5 rows5
returns-in-5 c = rw c.in-5.is (given (code_of 5) _ tt)

pub returns-in-7 : goal.returns-in-7
unfolding code_of code_in codes c7 rows7
returns-in-7 c = rw c.in-7.is (given (code_of 7) _ tt)

pub returns-in-8 : goal.returns-in-8
unfolding code_of code_in codes c8 rows8
returns-in-8 c = rw c.in-8.is (given (code_of 8) _ tt)

pub returns-in_default : goal.returns-in_default
unfolding c0
returns-in_default c = rw (none _ (no_code _ c.in_default.in_default-own.rest)) (given c0 _ tt)
