-- `ccsds::code::Code::information_bytes` meets its contract.
-- Assumes nothing.
use mathlib.Core.Path.{◌≡◌, sym, ap, ◌∙◌}
use Prim.Native.Nat.{ℕ}
use native.Mathlib.Omega.{arith}
use Rattle.ccsds.specs.Tables.{code_of}
use Rattle.ccsds.specs.Fill.{wrong_fill}
use Rattle.ccsds.proofs.Refusals.{fill_right, information_right, information-wrong}
use Rattle.ccsds.proofs.Valid.{few_of}
use Rattle.ccsds.proofs.code.Code.information_bytes.Goals as goal
use Rattle.ccsds.proofs.code.Code.information_bytes.Goals.{After-wrong_fill}

fills : (c : After-wrong_fill) → let a = c.args in wrong_fill (code_of a.self.number).k a.fill ≡ c.wrong_fill.result
fills c = sym (c.wrong_fill.ensures ∙ ap (λ (k : ℕ). wrong_fill k c.args.fill) c.k.ensures)

pub returns-then-wrong_fill : goal.returns-then-wrong_fill
returns-then-wrong_fill c = sym (information-wrong _ _ _ (fills (goal.at.returns-then-wrong_fill c).After-wrong_fill ∙ c.if-wrong_fill.true))

pub bytes-requires : goal.bytes-requires
bytes-requires c = omega (arith, few_of c.args.self.number, fill_right _ _ (fills (goal.at.bytes-requires c).After-wrong_fill ∙ c.if-wrong_fill.false))

pub returns : goal.returns
returns c = c.bytes.ensures ∙ sym (information_right _ _ _ (fills (goal.at.returns c).After-wrong_fill ∙ c.if-wrong_fill.false))
