-- `elimination::bits::only` meets its contract. The invariant: the words passed have no unknown but p.
-- Assumes nothing.
use mathlib.Core.Path.{sym, ◌∙◌}
use Prim.Native.Nat.{ℕ, ◌+◌, ◌%◌}
use native.Mathlib.Omega.{arith}
use Rattle.elimination.proofs.BitsLaws.{one_shifted, word-zero, word-only, only-more, other_word, other_digit}
use Rattle.elimination.proofs.bits.only.Goals as goal
use Rattle.elimination.proofs.bits.only.Goals.{then-i-p+else-w-p, else-i-p+else-w-ne0}

pub returns-then-w-p : goal.returns-then-w-p
returns-then-w-p c =
    let k : ℕ = c.args.base + c.loop-i.i in
    other_digit _ _ _ _ _ c.loop-i-test.true c.if-i-p.true c.requires.p_value (omega (arith, c.type_inv.rows k))
    (λ e. c.if-w-p.true (e ∙ sym (one_shifted (c.args.p % 64) (omega arith))))

pub returns-then-w-ne0 : goal.returns-then-w-ne0
returns-then-w-ne0 c =
    let k : ℕ = c.args.base + c.loop-i.i in
    other_word _ _ _ _ _ c.loop-i-test.true c.if-i-p.false (omega arith) (omega (arith, c.type_inv.rows k))

pub loop-i-preserved : goal.loop-i-preserved
loop-i-preserved c =
    let a = c.args in (
      omega arith,
      only-more _ _ _ _ c.loop-i.invariant.1 (elim c.if-i-p.branch [ then-i-p+else-w-p w ↦ word-only a.rows.now a.base _ _ w.if-i-p.true (w.if-w-p.false ∙ one_shifted (a.p % 64) (omega arith)) | else-i-p+else-w-ne0 w ↦ word-zero a.rows.now a.base _ _ w.if-w-ne0.false ]),
    )
