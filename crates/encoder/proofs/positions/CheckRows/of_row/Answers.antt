-- `encoder::positions::CheckRows::of_row` meets its contract: the information positions, and then those of the parity symbols.
-- Assumes nothing.
use Rattle.std.proofs.Common.{arith}
use Rattle.encoder.proofs.CheckRow.{some_a, by_quotient}
use Rattle.encoder.proofs.WholeRow.{information-at, first-row, later-row}
use Rattle.encoder.proofs.positions.CheckRows.of_row.Goals as goal

pub divided-i-requires : goal.divided-i-requires
divided-i-requires c = some_a c.args.self.now.laid

pub sent-n-requires : goal.sent-n-requires
sent-n-requires c =
    let b = by_quotient c.args.self.now.laid c.requires.j_bound c.divided-i.ensures.quotient c.divided-i.ensures.remainder in
    record { r_bound = (b.class, b.step) }

pub returns-then-j-eq0 : goal.returns-then-j-eq0
returns-then-j-eq0 c =
    let T = c.args.self.now.laid in
    let b = by_quotient T c.requires.j_bound c.divided-i.ensures.quotient c.divided-i.ensures.remainder in
    first-row _ _ T.shaped.most (information-at c.sent-n.ensures b.row) c.requires.j_bound _ T.shaped.given.k c.if-j-eq0.true

pub returns : goal.returns
returns c =
    let T = c.args.self.now.laid in
    let b = by_quotient T c.requires.j_bound c.divided-i.ensures.quotient c.divided-i.ensures.remainder in
    later-row _ _ T.shaped.most (information-at c.sent-n.ensures b.row) c.requires.j_bound _ T.shaped.given.k (omega arith)
