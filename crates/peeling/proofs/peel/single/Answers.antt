-- `peeling::peel::single` meets its contract.
-- Assumes nothing.
use Rattle.std.proofs.Common.{sym, ap, ◌∙◌}
use Rattle.peeling.specs.Plan.{kind_of}
use Rattle.peeling.proofs.OpenLaws.{seen_open, seen_closed}
use Rattle.peeling.proofs.peel.single.Goals as goal
use Rattle.peeling.proofs.peel.single.Goals.{then-plan-from, else-plan-from}

pub loop-i-preserved : goal.loop-i-preserved
loop-i-preserved c =
    let F = c.loop-i.invariant in
    let e = ap (kind_of c.args.plan.now) c.from.ensures in
    elim c.if-plan-from.branch [
      | then-plan-from v ↦ rw (v.at-is, v.found-is) (seen_open F (sym e ∙ v.if-plan-from.true))
      | else-plan-from v ↦ rw (v.at-is, v.found-is) (seen_closed F (λ o. v.if-plan-from.false (e ∙ o)))
    ]
