-- `encoder::positions::CheckRows::information` meets its contract: where the fill ends with a table row, every entry is sent.
-- Assumes nothing.
use Rattle.encoder.proofs.CheckRow.{none-idle}
use Rattle.encoder.proofs.Sent.{table_sent}
use Rattle.encoder.proofs.positions.CheckRows.information.Goals as goal

pub returns-then-s : goal.returns-then-s
returns-then-s c =
    let T = c.args.self.now.laid in
    let b = c.requires.r_bound in
    let e = c.entries.ensures in
    table_sent _ T c.args.i c.args.r b.0 b.1 e (none-idle T b.0 _ e c.if-s.true)
