-- `decoder::solve::express_all` meets its contract: what the steps depend on stays as the rows behind them are made.
-- Assumes nothing.
use Rattle.decoder.proofs.RowsBehindSteps.{steps_stay}
use Rattle.decoder.proofs.solve.express_all.Goals as goal

pub returns-clause-steps_expressed : goal.returns-clause-steps_expressed
returns-clause-steps_expressed c =
    let p = c.requires.planned in
    steps_stay p.0.made p.0.closed p.1 _ _ _ c.remaining.ensures.same_below c.steps.ensures.steps_expressed
