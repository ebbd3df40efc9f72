-- `wire::copy::read_four` meets its contract: four parts of one byte each.
-- Assumes nothing.
use mathlib.Core.Path.{◌∙◌, ap₂}
use mathlib.Core.List.{List, ◌++◌}
use Prim.Native.Nat.{ℕ, ◌+◌}
use native.Mathlib.Omega.{arith}
use Rattle.wire.proofs.AppendedLaws.{part-one, joined}
use Rattle.wire.proofs.copy.read_four.Goals as goal

pub returns : goal.returns
returns c =
    let s = c.args.s.now in
    let f = c.args.from in
    let two = ap₂ (λ (x y : List ℕ). x ++ y) (part-one s f (omega arith)) (part-one s (f + 1) (omega arith)) ∙ joined 1 1 f s in
    let three = ap₂ (λ (x y : List ℕ). x ++ y) two (part-one s (f + 2) (omega arith)) ∙ joined 2 1 f s in
    ap₂ (λ (x y : List ℕ). x ++ y) three (part-one s (f + 3) (omega arith)) ∙ joined 3 1 f s
