-- `elimination::system::System::set_singletons` meets its contract.
-- Assumes nothing.
use mathlib.Core.Path.{◌∙◌}
use Rattle.elimination.proofs.KeptLaws.{kept_trans}
use Rattle.elimination.proofs.SystemLaws.{coefficients_trans}
use Rattle.elimination.proofs.SharedUnknownsLaws.{coefficients_masks}
use Rattle.elimination.proofs.system.System.set_singletons.Goals as goal

pub loop-step-preserved : goal.loop-step-preserved
loop-step-preserved c =
    let inv = c.loop-step.invariant in
    let call = c.set_singleton.ensures in
    record {
      kept = kept_trans inv.kept call.kept;
      coefficients = coefficients_trans _ _ _ _ inv.coefficients (rw inv.kept.buffers.shape at call.same_coefficients);
      rhs = call.same_rhs ∙ inv.rhs;
      shared = rw call.kept.buffers.shape (coefficients_masks _ _ _ _ _ call.same_coefficients inv.shared);
      reduced = call.reduced_where_after;
    }
