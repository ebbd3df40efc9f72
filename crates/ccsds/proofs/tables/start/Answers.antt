-- `ccsds::tables::start` meets its contract: each product is of a number up to 64 and one up to 8.
-- Assumes nothing.
use Prim.Native.Nat.{ℕ, ◌*◌, ◌-◌, ◌≤◌}
use native.Mathlib.Nat.{mul-le-mul}
use native.Mathlib.Omega.{arith}
use borrow.Author.Tests.{lt-ltb, le-ltb}
use Rattle.ccsds.proofs.tables.start.Goals as goal

product : {x y : ℕ} → x ≤ 64 → y ≤ 8 → x * y ≤ 512
product h g = mul-le-mul h g

pub overflow_mul-result : goal.overflow_mul-result
overflow_mul-result c = let p = product c.requires.0 c.requires.2 in omega (arith, p)

pub overflow_mul-result-else-row-long : goal.overflow_mul-result-else-row-long
overflow_mul-result-else-row-long c = let p = product c.requires.1 c.requires.2 in omega (arith, p)

pub overflow_mul-result-else-row-long-2 : goal.overflow_mul-result-else-row-long-2
overflow_mul-result-else-row-long-2 c =
    let h : c.args.row - c.args.long ≤ 64 = omega arith in
    let p = product h c.requires.3 in omega (arith, p)

pub overflow_add-result : goal.overflow_add-result
overflow_add-result c =
    let h : c.args.row - c.args.long ≤ 64 = omega arith in
    let p = product h c.requires.3 in
    let p2 = product c.requires.1 c.requires.2 in omega (arith, p, p2)

pub returns-then-row-long-clause-value : goal.returns-then-row-long-clause-value
returns-then-row-long-clause-value c = simp (lt-ltb _ _ c.if-row-long.true)

pub returns-else-row-long-clause-value : goal.returns-else-row-long-clause-value
returns-else-row-long-clause-value c = simp (le-ltb _ _ c.if-row-long.false)

pub returns-then-row-long-clause-room : goal.returns-then-row-long-clause-room
returns-then-row-long-clause-room c = product c.requires.0 c.requires.2

-- both products are of parts of the row's number
pub returns-else-row-long-clause-room : goal.returns-else-row-long-clause-room
returns-else-row-long-clause-room c =
    let a = c.args in
    let p : a.long * a.degree ≤ a.long * 8 = mul-le-mul (omega arith) c.requires.2 in
    let p2 : (a.row - a.long) * a.rest ≤ (a.row - a.long) * 8 = mul-le-mul (omega arith) c.requires.3 in
    omega (arith, p, p2)
