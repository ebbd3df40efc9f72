-- `ccsds::tables::put_addresses` meets its contract: each code's rows one after the other.
-- Assumes nothing.
use mathlib.Core.Path.{refl}
use Rattle.ccsds.specs.Tables.{code_of, code_in, codes, c1, c2, c4, c5, c7, c8, rows1, rows2, rows4, rows5, rows7, rows8}
use Rattle.ccsds.proofs.FlatTable.{front_as, no_front}
use Rattle.ccsds.proofs.tables.put_addresses.Goals as goal

pub returns-in-1 : goal.returns-in-1
unfolding code_of code_in codes c1 rows1
returns-in-1 c = front_as _ 1 c.in-1.is refl c.put_front.ensures

pub returns-in-2 : goal.returns-in-2
unfolding code_of code_in codes c2 rows2
returns-in-2 c = front_as _ 2 c.in-2.is refl c.put_front-in-2.ensures

pub returns-in-4 : goal.returns-in-4
unfolding code_of code_in codes c4 rows4
returns-in-4 c = front_as _ 4 c.in-4.is refl c.put_front-in-4.ensures

pub returns-in-5 : goal.returns-in-5
unfolding code_of code_in codes c5 rows5
returns-in-5 c = front_as _ 5 c.in-5.is refl c.put_front-in-5.ensures

pub returns-in-7 : goal.returns-in-7
unfolding code_of code_in codes c7 rows7
returns-in-7 c = front_as _ 7 c.in-7.is refl c.put_front-in-7.ensures

pub returns-in-8 : goal.returns-in-8
unfolding code_of code_in codes c8 rows8
returns-in-8 c = front_as _ 8 c.in-8.is refl c.put_front-in-8.ensures

pub returns-in_default : goal.returns-in_default
returns-in_default c = no_front _ c.in_default.in_default-own.rest c.requires
