-- `ccsds::code::bytes` meets its contract.
-- Assumes nothing.
use mathlib.Core.Path.{sym, ◌∙◌}
use native.Mathlib.Nat.{mul-le-mul}
use native.Mathlib.Omega.{arith}
use Rattle.ccsds.proofs.Refusals.{width_right, bytes_right, bytes-wrong}
use Rattle.ccsds.proofs.code.bytes.Goals as goal

pub returns-then-wrong_width : goal.returns-then-wrong_width
returns-then-wrong_width c = sym (bytes-wrong _ _ (sym c.wrong_width.ensures ∙ c.if-wrong_width.true))

pub overflow_mul-result : goal.overflow_mul-result
overflow_mul-result c =
    let w = width_right _ (sym c.wrong_width.ensures ∙ c.if-wrong_width.false) in
    omega (arith, mul-le-mul c.requires w.1)

pub returns : goal.returns
returns c = sym (bytes_right _ _ (sym c.wrong_width.ensures ∙ c.if-wrong_width.false))
