-- `pivot_equations::restore::others` meets its contract: of the first i numbers, those other than p stand at the front.
-- Assumes nothing.
use mathlib.Core.Path.{refl, sym, ◌∙◌}
use native.Mathlib.Omega.{arith}
use Rattle.pivot_equations.proofs.Restored.{others-none, others_skip, others-take, others-at}
use Rattle.pivot_equations.proofs.restore.others.Goals as goal
use Rattle.pivot_equations.proofs.restore.others.Goals.{else-from-p, then-from-p}

pub loop-i-init : goal.loop-i-init
loop-i-init c = (omega arith, others-none _ _)

pub loop-i-preserved : goal.loop-i-preserved
loop-i-preserved c =
    let h = c.loop-i.invariant.1 in
    let e = c.from.ensures in (
      omega arith,
      elim c.if-from-p.branch [ then-from-p v ↦ others-at (others_skip h (omega arith) (sym e ∙ v.if-from-p.true)) refl v.k-is | else-from-p v ↦ others-at (others-take h (omega arith) (λ d. v.if-from-p.false (e ∙ d))) refl v.k-is ],
    )
