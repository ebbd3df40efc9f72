-- `elimination::system::System::forward_pass` meets its contract. The invariant: no more steps than turns, the search starts within the rows, and the solutions are those of the start.
-- Assumes nothing.
use native.Mathlib.Omega.{arith}
use Rattle.elimination.proofs.KeptLaws.{kept_trans}
use Rattle.elimination.proofs.system.System.forward_pass.Goals as goal
use Rattle.elimination.proofs.system.System.forward_pass.Goals.{in-Some-forward_step, in_default-forward_step}

pub loop-t-preserved : goal.loop-t-preserved
loop-t-preserved c = (
  elim c.match-forward_step.branch [ in-Some-forward_step w ↦ omega arith | in_default-forward_step w ↦ omega arith ],
  (omega (arith, c.in-Some.ensures), kept_trans c.loop-t.invariant.1.1 c.forward_step.ensures.kept),
)
