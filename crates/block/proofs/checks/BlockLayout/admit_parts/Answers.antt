-- `block::checks::BlockLayout::admit_parts` meets its contract.
-- Assumes nothing.
use mathlib.Core.Path.{refl, sym}
use Rattle.ccsds.proofs.RefusalOrder.{numbered}
use native.Mathlib.Omega.{arith}
use lib.ListN.{length}
use Rattle.unit_reader.proofs.ReaderLaws.{symbol-within}
use Rattle.block.specs.inner.Steps.{parts_as, admitted_as}
use Rattle.block.proofs.Exits.{passed_on}
use Rattle.block.proofs.Taking.{Fitting, fitting, turned_down, admitted}
use Rattle.block.proofs.checks.BlockLayout.admit_parts.Goals as goal
use Rattle.block.proofs.checks.BlockLayout.admit_parts.Goals.{In_ok-check_unit}

fits : (c : In_ok-check_unit) → let a = c.args in Fitting a.self.block (parts_as a.p) (length a.unit.now)
fits c = fitting _ _ _ (sym c.in_ok-check_unit.ensures)

pub check_unit-requires : goal.check_unit-requires
check_unit-requires c = symbol-within _ c.requires

pub returns-in_err-check_unit : goal.returns-in_err-check_unit
returns-in_err-check_unit c =
    passed_on (admitted_as c.args.unit.now) c.from_residual.ensures.1 (turned_down _ _ _ _ c.requires c.in_err-check_unit.ensures (numbered _))

pub overflow_sub-result : goal.overflow_sub-result
overflow_sub-result c = omega (arith, (fits (goal.at.overflow_sub-result c).In_ok-check_unit).above)

pub overflow_sub-result-2 : goal.overflow_sub-result-2
overflow_sub-result-2 c = omega (arith, (fits (goal.at.overflow_sub-result-2 c).In_ok-check_unit).symbol)

pub returns : goal.returns
returns c = admitted _ _ _ _ c.requires c.in_ok-check_unit.ensures refl
