-- `buffers::put_bytes` meets its contract: i bytes are put.
-- Assumes nothing.
use mathlib.Core.Path.{◌≡◌, refl, ap, ◌∙◌}
use native.Mathlib.Omega.{arith}
use Rattle.buffers.specs.Parts.{put}
use Rattle.buffers.proofs.Put.{put-more}
use Rattle.buffers.proofs.put_bytes.Goals as goal

pub loop-i-preserved : goal.loop-i-preserved
loop-i-preserved c = λ d e. put-more _ _ _ _ _ _ (c.loop-i.invariant d e) _ refl

pub returns : goal.returns
returns c =
    let all : c.loop-i.i ≡ c.args.len = omega arith in
    λ d e. c.loop-i.invariant d e ∙ ap (put _ _ _ _) all
