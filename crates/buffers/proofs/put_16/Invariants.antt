-- `buffers::put_16` meets its contract: after i turns, i bytes are put.
-- Assumes nothing.
use mathlib.Core.Path.{◌≡◌}
use Rattle.buffers.specs.Parts.{put}
use Rattle.buffers.proofs.put_16.Given as goal

abbrev pub invariant-loop-i : goal.invariant-loop-i
invariant-loop-i l = l.dst ≡ put l.initial.dst l.at l.t 0 l.i
