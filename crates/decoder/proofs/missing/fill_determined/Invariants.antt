-- `decoder::missing::fill_determined` meets its contract. The invariant: the first i positions are filled.
-- Assumes nothing.
use Rattle.decoder.proofs.Clearing.{Upto}
use Rattle.decoder.proofs.Filling.{FilledTo}
use Rattle.decoder.proofs.missing.fill_determined.Given as goal

abbrev pub invariant-loop-i : goal.invariant-loop-i
invariant-loop-i l = Upto l.initial.symbols l.initial.states l.symbols l.states l.i × FilledTo l.system.block.now.shape.w l.system.rows.early l.system.rows.packed l.words l.system.plan.now l.initial.symbols l.initial.states l.symbols l.states l.i
