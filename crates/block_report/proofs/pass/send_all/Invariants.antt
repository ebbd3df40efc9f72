-- `block_report::pass::send_all` writes at most one unit for each position.
use Rattle.std.proofs.Common.{◌<◌}
use Rattle.block_report.proofs.pass.send_all.Given as goal

abbrev pub invariant-loop-lwc : goal.invariant-loop-lwc
invariant-loop-lwc l = l.written < l.lwc
