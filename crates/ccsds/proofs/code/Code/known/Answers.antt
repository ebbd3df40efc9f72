-- `ccsds::code::Code::known` meets its contract.
-- Assumes nothing.
use mathlib.Core.Path.{sym}
use Rattle.ccsds.specs.Tables.{is_code, number_in, codes}
use Rattle.ccsds.proofs.FlatTable.{no_code}
use Rattle.ccsds.proofs.code.Code.known.Goals as goal

pub returns-in-1 : goal.returns-in-1
unfolding is_code number_in codes
returns-in-1 c = rw c.in-1.is

pub returns-in-2 : goal.returns-in-2
unfolding is_code number_in codes
returns-in-2 c = rw c.in-2.is

pub returns-in-4 : goal.returns-in-4
unfolding is_code number_in codes
returns-in-4 c = rw c.in-4.is

pub returns-in-5 : goal.returns-in-5
unfolding is_code number_in codes
returns-in-5 c = rw c.in-5.is

pub returns-in-7 : goal.returns-in-7
unfolding is_code number_in codes
returns-in-7 c = rw c.in-7.is

pub returns-in-8 : goal.returns-in-8
unfolding is_code number_in codes
returns-in-8 c = rw c.in-8.is

pub returns-in_default : goal.returns-in_default
returns-in_default c = sym (no_code _ c.in_default.in_default-own.rest)
