-- `elimination::bits::lowest` meets its contract.
-- Assumes nothing.
use native.Mathlib.Omega.{arith}
use Prim.Native.Nat.{◌+◌, ◌-◌}
use mathlib.Core.Path.{sym, ◌∙◌}
use Rattle.elimination.proofs.BitsLaws.{row-empty, row-found}
use Rattle.elimination.proofs.bits.lowest.Goals as goal

pub returns : goal.returns
returns c = let a = c.args in row-found a.rows.now a.base a.words (a.base + a.words - a.base) (omega arith) (omega arith) c.in_ok-i.i (sym c.first_word.ensures ∙ c.in_ok-i.was) (λ k. omega (arith, c.type_inv.rows k))

pub returns-in_err-i : goal.returns-in_err-i
returns-in_err-i c = let a = c.args in rw c.from_residual.ensures (row-empty a.rows.now a.base a.words (a.base + a.words - a.base) (omega arith) (omega arith) (sym c.first_word.ensures ∙ c.in_err-i.was))
