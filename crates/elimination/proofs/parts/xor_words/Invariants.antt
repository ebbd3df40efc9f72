-- `elimination::parts::xor_words` meets its contract. The invariant: the first i elements are done, which `added` says of i.
-- Assumes nothing.
use mathlib.Core.Path.{◌≡◌}
use Prim.Native.Nat.{◌≤◌}
use lib.ListN.{length}
use Rattle.buffers.specs.Parts.{added}
use Rattle.elimination.proofs.parts.xor_words.Given as goal

abbrev pub invariant-loop-i : goal.invariant-loop-i
invariant-loop-i l = (l.i ≤ l.len) × ((length l.rows ≡ length l.initial.rows) × (l.rows ≡ added l.initial.rows l.to l.initial.rows l.from l.i))
