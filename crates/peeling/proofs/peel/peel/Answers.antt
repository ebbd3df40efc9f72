-- `peeling::peel::peel` meets its contract.
-- Assumes nothing.
use Rattle.std.proofs.Common.{◌≤◌, length, subst, arith}
use mathlib.Core.Path.{subst⁻¹}
use Rattle.encoder.specs.inner.Positions.{checks}
use Rattle.peeling.specs.Peel.{AllKnownIs}
use Rattle.peeling.specs.Values.{Peeled}
use Rattle.peeling.specs.declared.peel.Progress.{Progress}
use Rattle.peeling.proofs.CodeSizes.{few-positions, few-rows}
use Rattle.peeling.proofs.PeelLaws.{nothing-missing}
use Rattle.peeling.proofs.peel.peel.Goals as goal
use Rattle.peeling.proofs.peel.peel.Goals.{Start}

few : (s : Start) → length s.args.states.now ≤ 3072
few s = omega (arith, few-positions s.args.rows.now.shape, s.requires.states_len.0)

pub open_missing-requires : goal.open_missing-requires
open_missing-requires c = (few (goal.at.open_missing-requires c).Start, c.requires.unused)

pub none_missing-requires : goal.none_missing-requires
none_missing-requires c = few (goal.at.none_missing-requires c).Start

pub returns-then-none_missing : goal.returns-then-none_missing
returns-then-none_missing c =
    let o = c.open_missing.ensures in
    subst⁻¹ (λ (g : Progress). Peeled (checks c.args.rows.now.shape) c.args.rows.now.shape.w c.args.symbols.now c.args.states.now c.open_missing.new.plan c.args.symbols.now g.early g.steps g.pivots) c.beginning.ensures
    (nothing-missing (few-positions c.args.rows.now.shape) (few-rows c.args.rows.now.laid) c.requires.states_len.1 c.requires.states_len.0 o (subst (AllKnownIs c.args.states.now) c.if-none_missing.true c.none_missing.ensures))
