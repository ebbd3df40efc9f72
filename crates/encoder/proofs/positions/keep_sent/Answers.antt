-- `encoder::positions::keep_sent` meets its contract: of the first e positions those below fill are kept, and the rest is as it was.
-- Assumes nothing.
use Rattle.std.proofs.Common.{◌≡◌, ℕ, ◌<◌, refl, ◌∙◌, subst, arith, get_or-set_other}
use Rattle.symbol_sums.specs.Gather.{max_positions}
use Rattle.encoder.specs.inner.Positions.{Kept}
use Rattle.encoder.proofs.Sent.{kept_all, kept_more}
use Rattle.encoder.proofs.positions.keep_sent.Goals as goal
use Rattle.encoder.proofs.positions.keep_sent.Goals.{In-loop-e}

-- there is room for one more
room : (c : In-loop-e) → c.loop-e.kept < max_positions
room c = omega (arith, c.loop-e.invariant.0.few, c.requires.from_le_n.1)

pub loop-e-init : goal.loop-e-init
loop-e-init c = (kept_all _ _ _ c.requires.by_index, λ i h. refl)

pub loop-e-preserved : goal.loop-e-preserved
loop-e-preserved c =
    let l = c.loop-e in
    let r = room (goal.at.loop-e-preserved c).In-loop-e in (
      kept_more _ l.invariant.0 (omega (arith, l.invariant.0.size)) (l.invariant.1 l.e (omega arith)) c.from-kept.ensures,
      λ i h. get_or-set_other l.xs l.kept i _ 0 (λ z. omega (arith, l.invariant.0.few)) ∙ l.invariant.1 i (omega arith),
    )

pub returns : goal.returns
returns c =
    let e : c.loop-e.e ≡ c.args.n = omega (arith, c.loop-e.auto.e-end c.requires.from_le_n.0) in
    subst (λ (t : ℕ). Kept c.args.fill t c.args.xs.now c.loop-e.kept c.loop-e.xs) e c.loop-e.invariant.0
