-- `encoder::positions::ClassTable::enter_rows` meets its contract: the addresses of `row` table rows are entered.
-- Assumes nothing.
use Rattle.std.proofs.Common.{◌≡◌, ℕ, refl, ap, ◌∙◌, arith}
use Rattle.ccsds.specs.Tables.{code_of}
use Rattle.encoder.specs.inner.Positions.{table_entered}
use Rattle.encoder.proofs.ClassTable.{row_more, all_laid}
use Rattle.encoder.proofs.positions.ClassTable.enter_rows.Goals as goal

pub loop-row-init : goal.loop-row-init
unfolding table_entered
loop-row-init c = refl

pub loop-row-preserved : goal.loop-row-preserved
loop-row-preserved c = row_more _ _ _ c.loop-row.invariant c.enter_row.ensures

pub returns : goal.returns
returns c =
    let s = c.requires.shaped.0 in
    let e : c.loop-row.row ≡ c.args.s.rows = omega arith in
    let t = c.loop-row.invariant ∙ ap (λ (n : ℕ). table_entered (code_of c.args.s.number) n c.args.self.now) e in
    all_laid _ s.known _ s.within c.requires.shaped.1 t
