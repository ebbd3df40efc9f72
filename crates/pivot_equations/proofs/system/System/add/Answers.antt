-- `pivot_equations::system::System::add` meets its contract, by the position's kind.
-- Assumes nothing.
use Prim.Native.Nat.{◌+◌}
use native.Mathlib.Omega.{arith}
use Rattle.algebra.proofs.Codeword.{slot}
use Rattle.elimination.proofs.ColumnLaws.{rows_beside}
use Rattle.pivot_equations.specs.Express.{all_rows}
use Rattle.pivot_equations.proofs.RowChanges.{add_none, add_step, add_pivot, add_solved}
use Rattle.pivot_equations.proofs.system.System.add.Goals as goal

pub returns-then-kind-self : goal.returns-then-kind-self
returns-then-kind-self c = add_none c.if-kind-self.true

pub xor_words-requires-clause-apart : goal.xor_words-requires-clause-apart
xor_words-requires-clause-apart c =
    let r = c.args.self.now.rows in
    rows_beside _ c.args.t (r.packed + 1) r.packed (c.requires.reads.step c.if-kind-self.false c.if-kind-le-LAST_STEP.true).0 (omega arith)

pub returns-then-kind-le-LAST_STEP : goal.returns-then-kind-le-LAST_STEP
returns-then-kind-le-LAST_STEP c =
    let r = c.args.self.now.rows in
    let b = slot c.args.t (all_rows r) (r.packed + 1) c.requires.t_bound.0 in
    add_step c.args.words.now r.packed r.early (all_rows r) c.args.t _ (omega arith) c.requires.reads c.if-kind-self.false c.if-kind-le-LAST_STEP.true c.xor_words.ensures

pub returns-then-kind-le-LAST_PIVOT : goal.returns-then-kind-le-LAST_PIVOT
returns-then-kind-le-LAST_PIVOT c =
    let r = c.args.self.now.rows in
    let b = slot c.args.t (all_rows r) (r.packed + 1) c.requires.t_bound.0 in
    add_pivot c.args.words.now r.packed r.early (all_rows r) c.args.t _ (omega arith) c.requires.reads c.if-kind-self.false c.if-kind-le-LAST_STEP.false c.if-kind-le-LAST_PIVOT.true c.flip.ensures

pub xor_words-requires-2-clause-apart : goal.xor_words-requires-2-clause-apart
xor_words-requires-2-clause-apart c =
    let r = c.args.self.now.rows in
    rows_beside _ c.args.t (r.packed + 1) r.packed (c.requires.reads.solved c.if-kind-le-LAST_PIVOT.false).0 (omega arith)

pub flip-requires-2 : goal.flip-requires-2
flip-requires-2 c =
    let r = c.args.self.now.rows in
    let h = c.requires.reads.solved c.if-kind-le-LAST_PIVOT.false in omega (arith, slot c.args.t (all_rows r) (r.packed + 1) c.requires.t_bound.0, c.xor_words-2.auto.rows)

pub returns : goal.returns
returns c =
    let r = c.args.self.now.rows in
    let b = slot c.args.t (all_rows r) (r.packed + 1) c.requires.t_bound.0 in
    add_solved c.args.words.now r.packed r.early (all_rows r) c.args.t _ (omega arith) c.requires.reads c.if-kind-self.false c.if-kind-le-LAST_PIVOT.false c.xor_words-2.ensures c.flip-2.ensures
