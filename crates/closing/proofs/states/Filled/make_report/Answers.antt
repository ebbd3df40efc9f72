-- `closing::states::Filled::make_report` meets its contract: no mark is above 2, so what is neither heard nor filled is left.
-- Assumes nothing.
use mathlib.Core.Path.{◌≡◌}
use Prim.Native.Nat.{◌+◌, ◌-◌}
use native.Mathlib.Omega.{arith}
use lib.ListN.{length}
use Rattle.algebra.specs.Lists.{count}
use Rattle.closing.specs.Close.{sent_marks, verdict_as}
use Rattle.closing.proofs.Idle.{idle}
use Rattle.closing.proofs.Marks.{sent_counted, sent_all}
use Rattle.closing.proofs.Closing.{told}
use Rattle.closing.proofs.states.Filled.make_report.Goals as goal
use Rattle.closing.proofs.states.Filled.make_report.Goals.{After-count_marks-parity}

-- the counts of the two parts together
heard : (c : After-count_marks-parity) → let a = c.args in
    c.count_marks-information.result.heard + c.count_marks-parity.result.heard ≡ count 1 (sent_marks a.self.block a.marks.now)
heard c =
    sent_counted c.args.marks.now (idle c.args.self c.requires.within) 1 c.count_marks-information.ensures.0 c.count_marks-parity.ensures.0

filled : (c : After-count_marks-parity) → let a = c.args in
    c.count_marks-information.result.filled + c.count_marks-parity.result.filled ≡ count 2 (sent_marks a.self.block a.marks.now)
filled c =
    sent_counted c.args.marks.now (idle c.args.self c.requires.within) 2 c.count_marks-information.ensures.1 c.count_marks-parity.ensures.1

-- all that are sent are counted
all : (c : After-count_marks-parity) → let a = c.args in
    count 1 (sent_marks a.self.block a.marks.now) + count 2 (sent_marks a.self.block a.marks.now) + count 0 (sent_marks a.self.block a.marks.now) ≡ a.self.block.fill + (length a.marks.now - a.self.k)
all c = sent_all c.args.marks.now (idle c.args.self c.requires.within) c.requires.marks_right.1

pub overflow_add-heard : goal.overflow_add-heard
overflow_add-heard c = omega (arith, heard (goal.at.overflow_add-heard c).After-count_marks-parity, all (goal.at.overflow_add-heard c).After-count_marks-parity)

pub overflow_add-filled : goal.overflow_add-filled
overflow_add-filled c = omega (arith, filled (goal.at.overflow_add-filled c).After-count_marks-parity, all (goal.at.overflow_add-filled c).After-count_marks-parity)

pub overflow_sub-left-2 : goal.overflow_sub-left-2
overflow_sub-left-2 c = omega (arith, heard (goal.at.overflow_sub-left-2 c).After-count_marks-parity, filled (goal.at.overflow_sub-left-2 c).After-count_marks-parity, all (goal.at.overflow_sub-left-2 c).After-count_marks-parity)

pub overflow_sub-left-3 : goal.overflow_sub-left-3
overflow_sub-left-3 c = omega (arith, heard (goal.at.overflow_sub-left-3 c).After-count_marks-parity, filled (goal.at.overflow_sub-left-3 c).After-count_marks-parity, all (goal.at.overflow_sub-left-3 c).After-count_marks-parity)

pub returns : goal.returns
returns c =
    let a = c.args in
    told a.self.block (verdict_as c.verdict_by-verdict.result) a.ok _ _ _ a.marks.now c.verdict_by-verdict.ensures (heard (goal.at.returns c).After-count_marks-parity) (filled (goal.at.returns c).After-count_marks-parity) (omega (arith, heard (goal.at.returns c).After-count_marks-parity, filled (goal.at.returns c).After-count_marks-parity, all (goal.at.returns c).After-count_marks-parity))
