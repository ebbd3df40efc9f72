-- `buffers::add_bytes` meets its contract: after i turns, i bytes are added.
-- Assumes nothing.
use mathlib.Core.Path.{◌≡◌}
use Prim.Native.Nat.{◌<◌}
use native.Mathlib.Omega.{arith}
use Rattle.buffers.proofs.Added.{added_all}
use Rattle.buffers.proofs.Sums.{within_more}
use Rattle.buffers.proofs.add_bytes.Goals as goal

pub loop-i-preserved : goal.loop-i-preserved
loop-i-preserved c =
    let more : c.loop-i.i < c.args.len = omega arith in
    λ d e. within_more d _ _ _ _ _ c.requires.apart more (c.loop-i.invariant d e)

pub returns : goal.returns
returns c =
    let all : c.loop-i.i ≡ c.args.len = omega arith in
    λ d e. added_all _ _ _ _ _ _ _ (c.loop-i.invariant d e) all
