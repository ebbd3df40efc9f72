-- `report::fill` keeps the generator's number below its modulus.
use Rattle.std.proofs.Common.{◌<◌}
use Rattle.report.proofs.fill.Given as goal

abbrev pub invariant-loop-b : goal.invariant-loop-b
invariant-loop-b l = l.x < 2147483648
