-- `elimination::system::System::clear_column` meets its contract.
-- Assumes nothing.
use mathlib.Core.Path.{refl, sym, ◌∙◌}
use mathlib.Core.List.{List}
use Prim.Native.Nat.{ℕ, ◌+◌, ◌≤◌}
use native.Mathlib.Omega.{arith}
use Rattle.elimination.specs.Column.{add_row_where, has_pivot}
use Rattle.elimination.proofs.ColumnLaws.{has_pivot_ne, has_pivot_ahead, add_row_where-one, add_row_where_skip}
use Rattle.elimination.proofs.KeptLaws.{buffers_refl, buffers_trans}
use Rattle.elimination.proofs.system.System.clear_column.Goals as goal

pub loop-j-init : goal.loop-j-init
unfolding add_row_where
loop-j-init c = record { up_to = omega arith; buffers = buffers_refl; rows = refl; rhs = refl }

pub add_row-requires-clause-r_nonzero : goal.add_row-requires-clause-r_nonzero
add_row-requires-clause-r_nonzero c = has_pivot_ne _ _ _ _ _ c.in-Some.ensures.1.1.0

pub loop-j-preserved : goal.loop-j-preserved
loop-j-preserved c =
    let a = c.args.self.now in
    let s = a.shape in
    let r = c.args.r in
    let h = has_pivot a.rows.now (s.words + 1) r c.args.p in
    let now = c.loop-j in
    let inv = now.invariant in
    let same = inv.buffers.shape in
    let next = rw same at c.in-Some.ensures in
    let call = c.add_row.ensures in
    let small : s.words ≤ s.words + 1 = omega arith in
    let as_before = λ (k : ℕ) (e : now.from ≤ k). has_pivot_ahead a.rows.now now.self.rows.now (s.words + 1) s.words r c.args.p now.from k small inv.rows e in
    let here = sym (as_before c.in-Some.j next.0) ∙ next.1.1.0 in
    let skip = λ (l : List ℕ) (w len : ℕ). add_row_where_skip h l r w len c.in-Some.j now.from next.0 (λ k e f. sym (as_before k e) ∙ next.1.1.1 k e f) in
    record {
      up_to = omega (arith, next.1.0);
      buffers = buffers_trans inv.buffers call.same_buffers;
      rows = add_row_where-one _ _ _ _ _ _ _ _ here (inv.rows ∙ skip _ _ _) (rw same at call.rows_after);
      rhs = add_row_where-one _ _ _ _ _ _ _ _ here (inv.rhs ∙ skip _ _ _) (rw same at call.rhs_after);
    }

pub returns : goal.returns
returns c =
    let a = c.args.self.now in
    let s = a.shape in
    let r = c.args.r in
    let h = has_pivot a.rows.now (s.words + 1) r c.args.p in
    let now = c.loop-j in
    let inv = now.invariant in
    let none = rw inv.buffers.shape at c.in_default.ensures in
    let small : s.words ≤ s.words + 1 = omega arith in
    let as_before = λ (k : ℕ) (e : now.from ≤ k). has_pivot_ahead a.rows.now now.self.rows.now (s.words + 1) s.words r c.args.p now.from k small inv.rows e in
    let skip = λ (l : List ℕ) (w len : ℕ). add_row_where_skip h l r w len s.rows now.from inv.up_to (λ k e f. sym (as_before k e) ∙ none k e f) in
    record { same_buffers = inv.buffers; rows_after = inv.rows ∙ skip _ _ _; rhs_after = inv.rhs ∙ skip _ _ _ }
