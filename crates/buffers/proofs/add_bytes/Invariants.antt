-- `buffers::add_bytes` meets its contract: after i turns, i bytes are added.
-- Assumes nothing.
use mathlib.Core.Path.{◌≡◌}
use mathlib.Core.List.{List}
use Prim.Native.Nat.{ℕ}
use Rattle.buffers.specs.Parts.{added}
use Rattle.buffers.proofs.add_bytes.Given as goal

abbrev pub invariant-loop-i : goal.invariant-loop-i
invariant-loop-i l = (d : List ℕ) → l.initial.buf ≡ added d l.at d l.from l.done → l.buf ≡ added d l.at d l.from l.i
