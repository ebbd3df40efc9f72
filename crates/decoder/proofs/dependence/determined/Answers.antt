-- `decoder::dependence::determined` meets its contract, by the position's kind.
-- Assumes nothing.
use mathlib.Core.Path.{refl}
use mathlib.Core.List.{List}
use Prim.Native.Nat.{ℕ, ◌+◌, ◌-◌, ◌*◌, ◌<◌, ◌≤◌}
use native.Mathlib.Nat.{le_trans}
use lib.ListN.{length}
use Rattle.algebra.proofs.Codeword.{slot}
use Rattle.peeling.specs.Plan.{Arrays, kind_of}
use Rattle.pivot_equations.specs.Express.{all_rows}
use Rattle.pivot_equations.specs.declared.rows.Rows.{Rows}
use Rattle.decoder.specs.Pivots.{Readable}
use Rattle.decoder.proofs.Determined.{determined_early, determined-step, determined-pivot, determined-solved}
use Rattle.decoder.proofs.dependence.determined.Goals as goal

-- the row of a kind ends within the words
module _ {r : Rows} {l : List ℕ} {plan : Arrays} {p : ℕ} (fit : all_rows r * (r.packed + 1) ≤ length l) (R : Readable r l plan p) where
  ends : (k : ℕ) → k < all_rows r → k * (r.packed + 1) + (r.packed + 1) ≤ length l
  ends k h = le_trans (slot k (all_rows r) (r.packed + 1) h) fit

  step : r.early < kind_of plan p → kind_of plan p ≤ 1024 → (kind_of plan p - 1) * (r.packed + 1) + (r.packed + 1) ≤ length l
  step late h = ends (kind_of plan p - 1) (R.reads.step late h).1

  row : 4096 < kind_of plan p → (kind_of plan p - 4097) * (r.packed + 1) + (r.packed + 1) ≤ length l
  row h = ends (kind_of plan p - 4097) (R.reads.solved h).1.0

pub returns-then-kind-system : goal.returns-then-kind-system
returns-then-kind-system c = determined_early _ _ _ _ c.if-kind-system.true

pub returns-then-kind-le-LAST_STEP : goal.returns-then-kind-le-LAST_STEP
returns-then-kind-le-LAST_STEP c =
    determined-step c.args.words.now c.args.system.now.rows.packed _ _ c.if-kind-system.false c.if-kind-le-LAST_STEP.true c.no_bits.result c.no_bits.ensures

pub returns-then-kind-le-LAST_PIVOT : goal.returns-then-kind-le-LAST_PIVOT
returns-then-kind-le-LAST_PIVOT c =
    let g : 1024 < kind_of c.args.system.now.plan.now c.args.p = c.if-kind-le-LAST_STEP.false in
    determined-pivot _ _ _ _ c.if-kind-system.false g c.if-kind-le-LAST_PIVOT.true (c.requires.readable.reads.pivot g c.if-kind-le-LAST_PIVOT.true)

pub returns : goal.returns
returns c =
    let h = c.if-kind-le-LAST_PIVOT.false in
    determined-solved _ _ _ _ c.if-kind-system.false h _ refl (c.requires.readable.here h) c.only.result c.only.ensures
