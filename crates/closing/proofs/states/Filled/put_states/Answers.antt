-- `closing::states::Filled::put_states` meets its contract: after i turns, the first i positions are told by their marks; then the idle ones are.
-- Assumes nothing.
use mathlib.Core.Path.{◌≡◌, refl, ◌∙◌}
use mathlib.Core.Bool.{cond}
use native.Mathlib.Omega.{arith}
use Rattle.closing.specs.Close.{is_known}
use Rattle.closing.proofs.Idle.{idle, put_is, by-status}
use Prim.Native.Nat.{◌-◌}
use lib.ListN.{replicate}
use Rattle.std.proofs.Common.{rules}
use Rattle.closing.proofs.states.Filled.put_states.Goals as goal

pub returns : goal.returns
returns c =
    let l = c.loop-i in
    let s = c.args.self in
    let e : c.fill.new.self ≡ replicate (s.k - s.block.fill) 1 = search rules in
    let P = put_is l.states s.block.fill s.k 1 s.fill (omega (arith, c.requires.within, l.invariant.size)) e in
    record {
      size = P.size ∙ l.invariant.size;
      each = by-status (idle c.args.self c.requires.within) (λ i x. cond (is_known x) 1 0) 1 (λ i. refl) c.args.marks.now l.invariant.size (λ i h. l.invariant.each i (omega arith)) P;
    }
