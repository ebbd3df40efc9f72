-- `elimination::system::System::reduce_remaining` meets its contract.
-- Assumes nothing.
use Rattle.elimination.proofs.PivotStepLaws.{marked_more}
use Rattle.elimination.proofs.KeptLaws.{kept_trans}
use Rattle.elimination.proofs.system.System.reduce_remaining.Goals as goal

pub loop-j-preserved : goal.loop-j-preserved
loop-j-preserved c =
    let inv = c.loop-j.invariant in
    let call = c.reduce_row.ensures in
    record {
      reduced = call.reduced_where_after;
      marked = marked_more _ _ _ call.row_marked inv.marked;
      kept = kept_trans inv.kept call.kept;
    }
