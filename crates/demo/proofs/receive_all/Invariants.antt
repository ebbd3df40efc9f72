-- `demo::receive_all` keeps at most one unit for each position.
use Rattle.std.proofs.Common.{◌≤◌}
use Rattle.demo.proofs.receive_all.Given as goal

abbrev pub invariant-loop-i : goal.invariant-loop-i
invariant-loop-i l = l.kept ≤ l.i
