-- `symbol_sums::gather` meets its contract: after i turns, i positions are added.
-- Assumes nothing.
use mathlib.Core.Path.{◌≡◌, subst}
use Prim.Native.Nat.{ℕ}
use native.Mathlib.Omega.{arith}
use lib.ListN.{length}
use Rattle.symbol_sums.specs.Gather.{summed}
use Rattle.symbol_sums.proofs.Symbols.{summed_none, summed_next}
use Rattle.symbol_sums.proofs.gather.Goals as goal

pub loop-x-init : goal.loop-x-init
loop-x-init g c = λ f h. subst (λ (u : ℕ → ℕ). g.C.Chunk.holds u c.args.c c.args.start) (summed_none f c.args.w c.args.src.now c.args.xs.now) h

pub plus-t-requires : goal.plus-t-requires
plus-t-requires g c = record { held = (summed c.requires.held.0 c.args.w c.args.src.now c.args.xs.now c.loop-x.x-index, (c.args.c, c.loop-x.invariant c.requires.held.0 c.requires.held.1)); within = omega (arith, c.offset.ensures, c.requires.inside.each c.loop-x.x-index (omega arith), c.requires.c_bound) }

pub loop-x-preserved : goal.loop-x-preserved
loop-x-preserved g c = λ f h. c.plus-t.ensures _ _ _ (c.loop-x.invariant f h) (summed_next f c.args.w c.args.src.now c.args.xs.now c.loop-x.x-index c.offset.ensures)

pub returns : goal.returns
returns g c =
    let a = c.args in
    let e : c.loop-x.x-index ≡ length a.xs.now = omega arith in
    λ f h. subst (λ (i : ℕ). g.C.Chunk.holds (summed f a.w a.src.now a.xs.now i) a.c c.loop-x.t) e (c.loop-x.invariant f h)
