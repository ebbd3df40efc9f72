-- `elimination::parts::xor_words` meets its contract. The invariant: the first i elements are done, which `added` says of i.
-- Assumes nothing.
use mathlib.Core.Path.{refl}
use native.Mathlib.Omega.{arith}
use lib.ListN.{length-set}
use Rattle.buffers.specs.Parts.{added}
use Rattle.buffers.proofs.Sums.{within_more}
use Rattle.elimination.proofs.parts.xor_words.Goals as goal

pub loop-i-init : goal.loop-i-init
unfolding added
loop-i-init c = (omega arith, (refl, refl))

pub loop-i-preserved : goal.loop-i-preserved
loop-i-preserved c =
    let h = c.loop-i.invariant in (omega arith, (simp length-set h.1.0, within_more _ _ _ _ _ _ c.requires.apart (omega arith) h.1.1))
