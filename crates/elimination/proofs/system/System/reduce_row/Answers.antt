-- `elimination::system::System::reduce_row` meets its contract.
-- Assumes nothing.
use Rattle.elimination.proofs.PivotStepLaws.{step_same, step_where}
use Rattle.elimination.proofs.system.System.reduce_row.Goals as goal

pub returns-then-not-done-r-clause-kept : goal.returns-then-not-done-r-clause-kept
returns-then-not-done-r-clause-kept c =
    let step = c.pivot_step.ensures in
    let fits = c.args.self.now.fits in
    record { buffers = step.buffers; same = step_same _ _ _ _ _ _ _ _ step.step c.requires.r_lt_rows fits.in_rows.within fits.in_rhs }

pub returns-then-not-done-r-clause-reduced_where_after : goal.returns-then-not-done-r-clause-reduced_where_after
returns-then-not-done-r-clause-reduced_where_after c =
    let step = c.pivot_step.ensures in
    let fits = c.args.self.now.fits in
    rw step.buffers.shape (step_where _ _ _ _ _ _ _ _ step.step c.requires.r_lt_rows fits.in_rows.within fits.in_rhs c.args.done.now c.requires.reduced_where)
