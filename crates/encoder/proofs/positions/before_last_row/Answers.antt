-- `encoder::positions::before_last_row` meets its contract.
-- Assumes nothing.
use Rattle.std.proofs.Common.{◌≡◌, ℕ, ◌+◌, ◌-◌, ◌*◌, get_or, ap, arith}
use Rattle.encoder.specs.inner.Positions.{entry_place}
use Rattle.encoder.proofs.positions.before_last_row.Goals as goal

pub returns-then-from-fill : goal.returns-then-from-fill
returns-then-from-fill c =
    let e = c.loop-e.e - 1 in
    record {
      few = omega arith;
      last = λ h.
          let z : c.args.r * 64 + e ≡ entry_place c.args.r (e + 1 - 1) = omega arith in
          omega (arith, c.from.ensures, ap (λ (t : ℕ). get_or c.args.ends.now t 0) z, c.if-from-fill.true);
    }
