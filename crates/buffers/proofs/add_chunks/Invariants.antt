-- `buffers::add_chunks` meets its contract: after k turns, 16 * k bytes more are added.
-- Assumes nothing.
use mathlib.Core.Path.{◌≡◌}
use mathlib.Core.List.{List}
use Prim.Native.Nat.{ℕ, ◌+◌, ◌*◌}
use Rattle.buffers.specs.Parts.{added}
use Rattle.buffers.proofs.add_chunks.Given as goal

abbrev pub invariant-loop-k : goal.invariant-loop-k
invariant-loop-k g l = (d : List ℕ) → l.initial.buf ≡ added d l.at d l.from l.done → l.buf ≡ added d l.at d l.from (l.done + g.row.N * l.k)
