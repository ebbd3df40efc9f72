-- `report::checksum` keeps its sum below the divisor.
use Rattle.std.proofs.Common.{◌<◌}
use Rattle.report.proofs.checksum.Given as goal

abbrev pub invariant-loop-b : goal.invariant-loop-b
invariant-loop-b l = l.d < 4294967291
