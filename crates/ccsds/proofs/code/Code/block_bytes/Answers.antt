-- `ccsds::code::Code::block_bytes` meets its contract.
-- Assumes nothing.
use mathlib.Core.Path.{ap, ◌∙◌}
use Prim.Native.Nat.{ℕ}
use native.Mathlib.Omega.{arith}
use Rattle.ccsds.specs.Refusals.{bytes_of}
use Rattle.ccsds.proofs.Valid.{few_of}
use Rattle.ccsds.proofs.code.Code.block_bytes.Goals as goal

pub bytes-requires : goal.bytes-requires
bytes-requires c = omega (arith, few_of c.args.self.number, c.n.ensures)

pub returns : goal.returns
returns c = c.bytes.ensures ∙ ap (λ (n : ℕ). bytes_of n c.args.w) c.n.ensures
