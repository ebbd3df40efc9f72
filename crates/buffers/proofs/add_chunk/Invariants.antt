-- `buffers::add_chunk` meets its contract: after k turns, 16 * k bytes are added.
-- Assumes nothing.
use mathlib.Core.Path.{◌≡◌}
use Prim.Native.Nat.{◌*◌}
use Rattle.buffers.specs.Parts.{added}
use Rattle.buffers.proofs.add_chunk.Given as goal

abbrev pub invariant-loop-k : goal.invariant-loop-k
invariant-loop-k g l = l.buf ≡ added l.initial.buf l.at l.initial.buf l.from (16 * l.k)
