-- `buffers::add_chunk` meets its contract: after k turns, 16 * k bytes are added.
-- Assumes nothing.
use mathlib.Core.Path.{◌≡◌, refl, ap, ◌∙◌}
use Prim.Native.Nat.{◌+◌, ◌*◌}
use native.Mathlib.Omega.{arith}
use Rattle.buffers.specs.Parts.{added}
use Rattle.buffers.proofs.Sums.{within_chunk}
use Rattle.buffers.proofs.add_chunk.Goals as goal

pub loop-k-init : goal.loop-k-init
unfolding added
loop-k-init g c = refl

pub loop-k-preserved : goal.loop-k-preserved
loop-k-preserved g c =
    let k = c.loop-k.k in
    let e : 16 * k + 16 ≡ 16 * (k + 1) = omega arith in
    within_chunk _ _ _ _ _ 16 _ _ c.requires.apart (omega arith) c.loop-k.invariant c.add_within_16.ensures ∙ ap (added _ _ _ _) e

pub returns : goal.returns
returns g c =
    let all : 16 * c.loop-k.k ≡ g.row.N = omega (arith, c.requires.whole.0) in
    c.loop-k.invariant ∙ ap (added _ _ _ _) all
