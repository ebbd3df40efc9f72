-- `pivot_equations::system::System::restore_steps` meets its contract: the first t steps hold.
-- Assumes nothing.
use native.Mathlib.Omega.{arith}
use Rattle.pivot_equations.proofs.Restored.{restored-more}
use Rattle.pivot_equations.proofs.system.System.restore_steps.Goals as goal
use Rattle.pivot_equations.proofs.system.System.restore_steps.Goals.{In-loop-t}

pub loop-t-preserved : goal.loop-t-preserved
loop-t-preserved c =
    let i = c.loop-t.invariant in
    let r = c.restore_by.ensures in
    record { size = r.xs_len; from = omega (arith, i.from); to = omega arith; restored = restored-more _ _ c.requires.planned.made i.from (omega arith) i.restored r.replaced }
