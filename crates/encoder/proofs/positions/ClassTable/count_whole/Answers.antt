-- `encoder::positions::ClassTable::count_whole` meets its contract.
-- Assumes nothing.
use Rattle.std.proofs.Common.{ℕ, subst, arith}
use Rattle.encoder.specs.inner.Positions.{Whole}
use Rattle.encoder.proofs.ClassTable.{class_room, noted_more}
use Rattle.encoder.proofs.positions.ClassTable.count_whole.Goals as goal

pub before_last_row-e-requires : goal.before_last_row-e-requires
before_last_row-e-requires c = let r = class_room c.requires.0.laid c.requires.1 in (r.0, omega (arith, c.from-n.ensures, r.1))

pub returns : goal.returns
returns c =
    let w = subst (λ (n : ℕ). Whole c.args.s.fill c.args.r n c.args.self.now.ends c.before_last_row-e.result) c.from-n.ensures c.before_last_row-e.ensures in
    noted_more (omega arith) c.requires.1 c.requires.0 w
