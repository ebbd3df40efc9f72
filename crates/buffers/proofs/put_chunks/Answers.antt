-- `buffers::put_chunks` meets its contract: after k turns, 16 * k bytes are put.
-- Assumes nothing.
use mathlib.Core.Path.{◌≡◌, refl, ap, ◌∙◌}
use Prim.Native.Nat.{◌+◌, ◌*◌}
use native.Mathlib.Omega.{arith}
use Rattle.buffers.specs.Parts.{put}
use Rattle.buffers.proofs.Put.{put_chunk}
use Rattle.buffers.proofs.put_chunks.Goals as goal

pub loop-k-init : goal.loop-k-init
unfolding put
loop-k-init c = refl

pub loop-k-preserved : goal.loop-k-preserved
loop-k-preserved c =
    let k = c.loop-k.k in
    let e : 16 * k + 16 ≡ 16 * (k + 1) = omega arith in
    put_chunk _ _ _ _ _ 16 c.loop-k.invariant c.part_16-t.ensures c.put_16.ensures ∙ ap (put _ _ _ _) e
