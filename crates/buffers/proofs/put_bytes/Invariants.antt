-- `buffers::put_bytes` meets its contract: i bytes are put.
-- Assumes nothing.
use mathlib.Core.Path.{◌≡◌}
use mathlib.Core.List.{List}
use Prim.Native.Nat.{ℕ}
use Rattle.buffers.specs.Parts.{put}
use Rattle.buffers.proofs.put_bytes.Given as goal

abbrev pub invariant-loop-i : goal.invariant-loop-i
invariant-loop-i l = (d : List ℕ) → l.initial.dst ≡ put d l.at l.src l.from l.done → l.dst ≡ put d l.at l.src l.from l.i
