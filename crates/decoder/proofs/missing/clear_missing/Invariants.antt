-- `decoder::missing::clear_missing` meets its contract.
-- Assumes nothing.
use Rattle.decoder.specs.MissingPositions.{Cleared}
use Rattle.decoder.proofs.Clearing.{Upto}
use Rattle.decoder.proofs.missing.clear_missing.Given as goal

abbrev pub invariant-loop-i : goal.invariant-loop-i
invariant-loop-i l = Upto l.initial.symbols l.initial.states l.symbols l.states l.i × Cleared l.w l.initial.symbols l.initial.states l.symbols l.states l.i
