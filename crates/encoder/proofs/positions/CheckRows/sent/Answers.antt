-- `encoder::positions::CheckRows::sent` meets its contract.
-- Assumes nothing.
use Rattle.std.proofs.Common.{arith}
use Rattle.encoder.proofs.CheckRow.{count_of, whole-below}
use Rattle.encoder.proofs.Sent.{table_sent}
use Rattle.encoder.proofs.positions.CheckRows.sent.Goals as goal

pub keep_sent-requires : goal.keep_sent-requires
keep_sent-requires c =
    let r = c.requires.r_bound.0 in
    let e = c.entries-n.ensures in
    let b = whole-below c.args.self.now.laid r (count_of c.args.self.now.laid r _ e) _ e c.from.ensures in
    record { from_le_n = (b.0, omega (arith, e.few)); by_index = b.1 }

pub returns : goal.returns
returns c =
    table_sent c.args.self.now.shape c.args.self.now.laid c.args.i c.args.r c.requires.r_bound.0 c.requires.r_bound.1 c.entries-n.ensures c.keep_sent.ensures
