-- `ccsds::code::Code::work_words` meets its contract.
-- Assumes nothing.
use mathlib.Core.Path.{ap₂}
use Prim.Native.Nat.{ℕ, ◌+◌, ◌*◌, ◌/◌, ◌≤◌}
use native.Mathlib.Nat.{mul-le-mul}
use native.Mathlib.Omega.{arith}
use Rattle.ccsds.proofs.Valid.{few_of}
use Rattle.ccsds.proofs.code.Code.work_words.Goals as goal

pub overflow_mul-result : goal.overflow_mul-result
overflow_mul-result c =
    let few = few_of c.args.self.number in
    let m : c.m.result ≤ 3072 = omega (arith, few, c.m.ensures) in
    let h : c.n.result / 64 + 1 ≤ 1024 = omega (arith, few, c.n.ensures) in
    omega (arith, mul-le-mul m h)

pub returns : goal.returns
returns c = ap₂ (λ (m n : ℕ). m * (n / 64 + 1)) c.m.ensures c.n.ensures
