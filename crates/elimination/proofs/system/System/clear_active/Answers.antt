-- `elimination::system::System::clear_active` meets its contract. The invariant: the solutions are those of the start.
-- Assumes nothing.
use native.Mathlib.Omega.{arith}
use Rattle.elimination.proofs.KeptLaws.{kept_trans}
use Rattle.elimination.proofs.SystemLaws.{add_same}
use Rattle.elimination.proofs.system.System.clear_active.Goals as goal
use Rattle.elimination.proofs.system.System.clear_active.Goals.{then-j-r, else-j-r}

pub loop-i-preserved : goal.loop-i-preserved
loop-i-preserved c =
    let count = c.loop-i.invariant.1.0 in
    let inv = c.loop-i.invariant.1.1 in
    let next = c.in-Some.ensures in
    let fits = c.loop-i.self.fits in (
      omega (arith, next.1.0, c.loop-i.active.few),
      (
        elim c.if-j-r.branch [
          | then-j-r w ↦ rw w.active-is count
          | else-j-r w ↦ rw (w.active-is, w.weigh_sum.ensures) count
        ],
        elim c.if-j-r.branch [
          | then-j-r w ↦ rw w.self-is inv
          | else-j-r w ↦
              let call = w.add_row.ensures in
              rw w.self-is (kept_trans inv (record {
                buffers = call.same_buffers;
                same = add_same _ _ _ _ _ _ _ _ _ (rw inv.buffers.shape c.requires.1) next.1.1 w.if-j-r.false fits.in_rows.within fits.in_rhs call.rows_after call.rhs_after;
              }))
        ],
      ),
    )
