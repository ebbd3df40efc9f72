-- `symbol_sums::restore_parts` meets its contract: c bytes are written.
-- Assumes nothing.
use mathlib.Core.Path.{◌≡◌, sym, subst}
use Prim.Native.Nat.{◌+◌}
use native.Mathlib.Omega.{arith}
use lib.ListN.{length}
use Rattle.std.specs.Prelude.{None}
use Rattle.symbol_sums.specs.Gather.{SumWritten}
use Rattle.symbol_sums.proofs.Symbols.{restore_join}
use Rattle.symbol_sums.proofs.restore_parts.Goals as goal

pub loop-c-preserved : goal.loop-c-preserved
loop-c-preserved g c =
    let a = c.args in
    let n = length a.xs.now in
    let l = c.loop-c in
    let k = g.C.Chunk.SIZE in
    let e : k ≡ c.SIZE-c.result = sym c.SIZE-c.ensures in
    let t = c.loop-c-test.true in (
      omega (arith, t, c.SIZE.ensures, c.SIZE-c.ensures, l.invariant.0),
      λ q h. subst (λ m. SumWritten a.w a.p None q a.xs.now n 0 (l.c + m) q c.restore_part.new.buf) e
          (restore_join a.w a.p a.xs.now n c.requires.by_index (l.invariant.1 q h) c.restore_part.ensures (omega arith) (omega arith) (omega (arith, t, c.SIZE.ensures, l.invariant.0))),
    )
