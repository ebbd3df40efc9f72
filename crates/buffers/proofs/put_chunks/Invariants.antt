-- `buffers::put_chunks` meets its contract: after k turns, 16 * k bytes are put.
-- Assumes nothing.
use mathlib.Core.Path.{◌≡◌}
use Prim.Native.Nat.{◌*◌}
use Rattle.buffers.specs.Parts.{put}
use Rattle.buffers.proofs.put_chunks.Given as goal

abbrev pub invariant-loop-k : goal.invariant-loop-k
invariant-loop-k l = l.dst ≡ put l.initial.dst l.at l.src l.from (16 * l.k)
