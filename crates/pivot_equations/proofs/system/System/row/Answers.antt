-- `pivot_equations::system::System::row` meets its contract: the expressions of the positions passed are added.
-- Assumes nothing.
use mathlib.Core.Path.{◌≡◌, sym, subst}
use Rattle.std.specs.Prelude.{Option}
use mathlib.Core.List.{List, ◌++◌}
use Prim.Native.Nat.{ℕ, ◌+◌, ◌-◌, ◌*◌, ◌<◌, ◌≤◌}
use native.Mathlib.Omega.{arith}
use lib.ListN.{length, get_or, take, drop, replicate, length-take}
use Rattle.std.proofs.Common.{rules}
use Rattle.std.proofs.lemmas.List.{get_or-take}
use Rattle.ccsds.specs.inner.Layout.{max_n}
use Rattle.algebra.proofs.Codeword.{slot}
use Rattle.pivot_equations.specs.Express.{all_rows, Reads, Added, kind_but}
use Rattle.peeling.specs.Plan.{Arrays}
use Rattle.peeling.proofs.CodeSizes.{few-positions}
use Rattle.pivot_equations.proofs.RowChanges.{reads_same}
use Rattle.pivot_equations.proofs.RowSums.{Cleared, cleared, reads_all_same, sum-none, sum_more, row_is}
use Rattle.pivot_equations.proofs.system.System.row.Goals as goal
use Rattle.pivot_equations.proofs.system.System.row.Goals.{After-fill, In-loop-x}

-- the row is cleared
zeroed : (c : After-fill)
    → let a = c.args in
    let l = a.words.now in
    let r = a.self.now.rows in
    let at = a.e.row * (r.packed + 1) in
    let k = at + (r.packed + 1) - at in
    Cleared l (take at l ++ (c.fill.new.self ++ drop k (drop at l))) r.packed a.e.row
zeroed c =
    let a = c.args in
    let r = a.self.now.rows in
    let at = a.e.row * (r.packed + 1) in
    let fit : at + (r.packed + 1) ≤ length a.words.now = omega (arith, slot a.e.row (all_rows r) (r.packed + 1) c.requires.row_bound.0, c.requires.words_len) in
    let z : c.fill.new.self ≡ replicate (length (take (at + (r.packed + 1) - at) (drop at a.words.now))) 0 = search rules in
    cleared a.words.now c.fill.new.self r.packed a.e.row (at + (r.packed + 1) - at) (omega arith) fit z

-- a position that the loop passes is one of the check row
is-position : (c : In-loop-x) → get_or (take c.of_row-n.result c.of_row-n.new.xs) c.loop-x.x-index 0 < max_n
is-position c =
    let h : c.loop-x.x-index < c.of_row-n.result = omega (arith, length-take c.of_row-n.result c.of_row-n.new.xs) in
    omega (arith, get_or-take c.of_row-n.result c.of_row-n.new.xs c.loop-x.x-index 0 h, c.of_row-n.ensures.below c.loop-x.x-index h, few-positions c.args.self.now.block.now.shape)

-- a position by its number of 16 bits
module _ (plan : Arrays) (but : Option ℕ) {x y : ℕ} (e : x ≡ y) where
  reads-kind : {words : List ℕ} {packed early rows t : ℕ} → Reads words packed early rows t (kind_but plan but x) → Reads words packed early rows t (kind_but plan but y)
  reads-kind {words} {packed} {early} {rows} {t} h = subst (λ (k : ℕ). Reads words packed early rows t (kind_but plan but k)) e h

  added-kind : {words words' : List ℕ} {packed early t : ℕ} → Added words words' packed early t (kind_but plan but x) → Added words words' packed early t (kind_but plan but y)
  added-kind {words} {words'} {packed} {early} {t} h = subst (λ (k : ℕ). Added words words' packed early t (kind_but plan but k)) e h

pub loop-x-init : goal.loop-x-init
loop-x-init c =
    let z = zeroed (goal.at.loop-x-init c).After-fill in
    let n = c.of_row-n.result in
    let xs = c.of_row-n.new.xs in
    (λ k h. let g : k < n = omega (arith, length-take n xs) in (reads_all_same z.only c.requires.reads_all).each _ (rw (get_or-take n xs k 0 g) (c.of_row-n.ensures.below k g)), sum-none z)

pub add_other-requires-clause-t_bound : goal.add_other-requires-clause-t_bound
add_other-requires-clause-t_bound c = (c.requires.row_bound.0, omega (arith, c.from.ensures, is-position (goal.at.add_other-requires-clause-t_bound c).In-loop-x))

pub add_other-requires-clause-reads : goal.add_other-requires-clause-reads
add_other-requires-clause-reads c =
    let l = c.loop-x in
    reads-kind c.args.self.now.plan.now c.args.e.but (sym c.from.ensures) (reads_same l.invariant.1.only (l.invariant.0 l.x-index c.loop-x-test.true))

pub loop-x-preserved : goal.loop-x-preserved
loop-x-preserved c =
    let l = c.loop-x in
    (l.invariant.0, sum_more l.invariant.1 (l.invariant.0 l.x-index c.loop-x-test.true) (added-kind c.args.self.now.plan.now c.args.e.but c.from.ensures c.add_other.ensures))

pub returns-clause-row_is : goal.returns-clause-row_is
returns-clause-row_is c =
    let z = zeroed (goal.at.returns-clause-row_is c).After-fill in
    row_is z.only c.requires.reads_all c.of_row-n.ensures c.loop-x.invariant.1 (omega (arith, length-take c.of_row-n.result c.of_row-n.new.xs, c.of_row-n.ensures.few, c.of_row-n.ensures.size))
