-- `encoder::positions::ClassTable::enter_row` meets its contract: i addresses are entered.
-- Assumes nothing.
use Rattle.std.proofs.Common.{◌≡◌, ℕ, ◌<◌, ◌≤◌, List, [], length, get_or, refl, ap, ◌∙◌, arith}
use Rattle.ccsds.specs.Tables.{code_of}
use Rattle.ccsds.specs.inner.Layout.{max_degree}
use Rattle.ccsds.proofs.Valid.{valid_of}
use Rattle.ccsds.proofs.FlatTable.{row-few}
use Rattle.encoder.specs.inner.Positions.{row_entered}
use Rattle.encoder.proofs.ClassTable.{few-classes, address_fits, address_more}
use Rattle.encoder.proofs.positions.ClassTable.enter_row.Goals as goal
use Rattle.encoder.proofs.positions.ClassTable.enter_row.Goals.{In-loop-i, Start}

few : (s : Start) → length (get_or (code_of s.args.s.number).rows s.args.row []) ≤ max_degree
few s = row-few _ _ s.requires.shaped.0.given _ s.requires.row_in_bounds

-- address i is one of the table row's
inside : (c : In-loop-i) → c.loop-i.i < length (get_or (code_of c.args.s.number).rows c.args.row [])
inside c = omega (arith, ap length c.row-y-items.ensures)

pub loop-i-init : goal.loop-i-init
unfolding row_entered
loop-i-init c = refl

pub enter-requires : goal.enter-requires
enter-requires c =
    let i = inside (goal.at.enter-requires c).In-loop-i in
    let s = c.requires.shaped.0 in
    record {
      a_nonzero = address_fits _ (valid_of _ s.known) _ _ _ _ _ (few-classes _ s.known) c.requires.row_in_bounds i s.given.q s.given.a (c.from.ensures ∙ ap (λ (l : List ℕ). get_or l c.loop-i.i 0) c.row-y-items.ensures);
      row_lt_max_rows = (omega (arith, s.given.short, c.requires.row_in_bounds), omega (arith, i, few (goal.at.enter-requires c).Start));
    }

pub loop-i-preserved : goal.loop-i-preserved
loop-i-preserved c =
    address_more _ _ _ _ c.requires.shaped.0.given.q c.requires.shaped.0.given.a (c.from.ensures ∙ ap (λ (l : List ℕ). get_or l c.loop-i.i 0) c.row-y-items.ensures) c.loop-i.invariant c.enter.ensures

pub returns : goal.returns
returns c =
    let e : c.loop-i.i ≡ length (get_or (code_of c.args.s.number).rows c.args.row []) = omega (arith, ap length c.row-y-items.ensures) in
    c.loop-i.invariant ∙ ap (λ (k : ℕ). row_entered (code_of c.args.s.number) c.args.row k c.args.self.now) e
