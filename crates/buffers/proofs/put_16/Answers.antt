-- `buffers::put_16` meets its contract: after i turns, i bytes are put.
-- Assumes nothing.
use mathlib.Core.Path.{◌≡◌, refl, sym, ap, ◌∙◌}
use native.Mathlib.Omega.{arith}
use Rattle.buffers.specs.Parts.{put}
use Rattle.buffers.proofs.Put.{put-more, from_zero}
use Rattle.buffers.proofs.put_16.Goals as goal

pub loop-i-init : goal.loop-i-init
unfolding put
loop-i-init c = refl

pub loop-i-preserved : goal.loop-i-preserved
loop-i-preserved c = put-more _ _ _ 0 _ _ c.loop-i.invariant _ (sym (from_zero c.args.t.now c.loop-i.i))

pub returns : goal.returns
returns c = let e : c.loop-i.i ≡ 16 = omega arith in c.loop-i.invariant ∙ ap (put _ _ _ _) e
