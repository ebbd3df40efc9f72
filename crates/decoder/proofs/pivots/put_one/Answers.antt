-- `decoder::pivots::put_one` meets its contract, by the row's pivot word.
-- Assumes nothing.
use mathlib.Core.List.{List}
use Prim.Native.Nat.{ℕ, ◌+◌, ◌-◌, ◌*◌, ◌<◌, ◌≤◌}
use native.Mathlib.Omega.{arith}
use Rattle.elimination.specs.Reduced.{pivot_word}
use Rattle.peeling.specs.Plan.{Arrays, pivot_of}
use Rattle.pivot_equations.specs.declared.rows.Rows.{Rows}
use Rattle.decoder.specs.Pivots.{PutRoom}
use Rattle.decoder.proofs.pivots.put_one.Goals as goal

-- the row's pivot is one of the block, and so is its position
room : {w bytes symbols i : ℕ} {r : Rows} {l : List ℕ} {plan : Arrays} → PutRoom w r i l bytes plan symbols → 0 < pivot_word l r.packed (r.steps + i)
    → let u = pivot_word l r.packed (r.steps + i) - 1 in (u < 3072) × ((pivot_of plan u < 3072) × (pivot_of plan u * w + w ≤ symbols))
room {i = i} {r} {l} R h = R.pivot (pivot_word l r.packed (r.steps + i) - 1) (omega arith)

pub bounds-plan-u : goal.bounds-plan-u
bounds-plan-u c = omega (arith, room c.requires (omega arith), c.args.plan.now.kinds_len)

pub offset_bounds-plan-u : goal.offset_bounds-plan-u
offset_bounds-plan-u c = omega (arith, room c.requires (omega arith))
