-- `elimination::weights::row_weight` meets its contract.
-- Assumes nothing.
use Rattle.std.proofs.Common.{rules}
use mathlib.Core.Path.{◌≡◌}
use native.Mathlib.Omega.{arith}
use Prim.Native.Nat.{ℕ, ◌≤◌}
use lib.ListN.{get_or}
use Rattle.std.specs.List.{sum_by}
use Rattle.std.specs.Int.Count.{ones}
use Rattle.std.proofs.iter.runs.Sources.{sums}
use Rattle.std.proofs.lemmas.List.Elements.{All-from_get_or}
use Rattle.std.proofs.lemmas.List.Sums.{sum_by-le}
use Rattle.std.proofs.lemmas.Nat.{ones-le}
use Rattle.elimination.proofs.weights.row_weight.Goals as goal

pub returns : goal.returns
returns c =
    let l = c.args.row.now in
    let total : c.sum.result ≡ sum_by ones l = search (rules, sums) in
    let light = sum_by-le ones 64 l (All-from_get_or (λ (x : ℕ). ones x ≤ 64) l 0 (λ k h. ones-le 64 (get_or l k 0) (omega (arith, c.type_inv.row k)))) in
    omega (arith, light, total)
