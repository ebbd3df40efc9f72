-- `symbol_sums::put_sum_parts` meets its contract: c bytes are written.
-- Assumes nothing.
use mathlib.Core.Path.{◌≡◌, sym, subst}
use Prim.Native.Nat.{◌+◌}
use native.Mathlib.Omega.{arith}
use lib.ListN.{length}
use Rattle.symbol_sums.specs.Gather.{SumWritten}
use Rattle.symbol_sums.proofs.Symbols.{sum-join}
use Rattle.symbol_sums.proofs.put_sum_parts.Goals as goal

pub loop-c-preserved : goal.loop-c-preserved
loop-c-preserved g c =
    let a = c.args in
    let n = length a.xs.now in
    let l = c.loop-c in
    let k = g.C.Chunk.SIZE in
    let e : k ≡ c.SIZE-c.result = sym c.SIZE-c.ensures in
    let t = c.loop-c-test.true in (
      omega (arith, t, c.SIZE.ensures, c.SIZE-c.ensures, l.invariant.0),
      λ q h. subst (λ m. SumWritten a.w a.j a.prev a.src.now a.xs.now n 0 (l.c + m) q c.put_sum_part.new.dst) e
          (sum-join a.w a.j a.prev a.src.now a.xs.now n c.requires.prev_lt_j.0 (l.invariant.1 q h) c.put_sum_part.ensures (omega arith) (omega arith) (omega (arith, t, c.SIZE.ensures, l.invariant.0))),
    )
