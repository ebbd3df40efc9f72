-- `block::checks::BlockLayout::check_block` meets its contract: the record's conditions, then the lengths of the buffers.
-- Assumes nothing.
use native.Mathlib.Nat.{mul-le-mul}
use native.Mathlib.Omega.{arith}
use Rattle.ccsds.specs.Refusals.{checked_as}
use Rattle.ccsds.proofs.RefusalOrder.{numbered}
use Rattle.block.proofs.Exits.{passed_on}
use Rattle.block.proofs.BlockRefusal.{checks_of_lem, record_width, record_refused, symbols-refused, marks-refused, none-refused}
use Rattle.block.proofs.checks.BlockLayout.check_block.Goals as goal

pub returns-in_err-check_record : goal.returns-in_err-check_record
returns-in_err-check_record c =
    passed_on checked_as c.from_residual.ensures.1 (record_refused c.args.self.block _ _ c.in_err-check_record.ensures (numbered _))

pub overflow_mul-n : goal.overflow_mul-n
overflow_mul-n c = omega (arith, mul-le-mul c.args.self.layout_of.few (record_width c.args.self.block c.in_ok-check_record.ensures))

pub returns-then-symbols_len-n : goal.returns-then-symbols_len-n
returns-then-symbols_len-n c =
    symbols-refused c.args.self.block _ _ c.in_ok-check_record.ensures (checks_of_lem _ c.args.self.layout_of) c.if-symbols_len-n.true

pub returns-then-marks_len-n : goal.returns-then-marks_len-n
returns-then-marks_len-n c =
    marks-refused c.args.self.block _ _ c.in_ok-check_record.ensures (checks_of_lem _ c.args.self.layout_of) c.if-symbols_len-n.false c.if-marks_len-n.true

pub returns : goal.returns
returns c =
    none-refused c.args.self.block _ _ c.in_ok-check_record.ensures (checks_of_lem _ c.args.self.layout_of) c.if-symbols_len-n.false c.if-marks_len-n.false
