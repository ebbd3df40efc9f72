-- `pivot_equations::system::System::add_other` meets its contract.
-- Assumes nothing.
use mathlib.Core.Path.{sym, ◌∙◌}
use Rattle.pivot_equations.proofs.RowSums.{added_own}
use Rattle.pivot_equations.proofs.system.System.add_other.Goals as goal

pub returns-then-eq : goal.returns-then-eq
returns-then-eq c = added_own c.args.self.now.plan.now c.args.but c.args.x (sym c.eq.ensures ∙ c.if-eq.true)
