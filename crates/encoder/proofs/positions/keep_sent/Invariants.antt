-- `encoder::positions::keep_sent` meets its contract: of the first e positions those below fill are kept, and the rest is as it was.
-- Assumes nothing.
use Rattle.std.proofs.Common.{◌≡◌, ℕ, ◌≤◌, get_or}
use Rattle.encoder.specs.inner.Positions.{Kept}
use Rattle.encoder.proofs.positions.keep_sent.Given as goal

abbrev pub invariant-loop-e : goal.invariant-loop-e
invariant-loop-e l = Kept l.fill l.e l.initial.xs l.kept l.xs × ((i : ℕ) → l.e ≤ i → get_or l.xs i 0 ≡ get_or l.initial.xs i 0)
