-- `unit_claims::expected::symbol_after` meets its contract, by the two shapes: W in one byte and in two.
-- Assumes nothing.
use Rattle.std.proofs.Common.{◌∙◌, sym, arith, eqb-true}
use mathlib.Core.Bool.{false≢true}
use Rattle.unit_claims.proofs.ExpectedUnit.{four_stand, short-bytes, long-bytes, starts_short, starts_long, where_it_stands}
use Rattle.unit_claims.proofs.expected.symbol_after.Goals as goal
use Rattle.unit_claims.proofs.expected.symbol_after.Goals.{then-first-joined, else-first-joined, then-first-joined-2, else-first-joined-2, then-second-joined, else-second-joined}

pub returns-then-c-lt128 : goal.returns-then-c-lt128
returns-then-c-lt128 c =
    let a = c.args in
    let stand = four_stand a.s.now (λ i. omega (arith, c.type_inv.s i)) in
    rw c.then_some.ensures (where_it_stands a.s.now _ c.if-first-joined.stands 14 (λ t.
    elim c.if-first-joined.branch [
      | then-first-joined w ↦
          starts_short a.s.now _ (stand 6 _ _ _ _ (omega (arith, c.requires)) (omega arith) (omega arith) (omega (arith, a.c.compact.two_k.1)) (sym c.joined_at-first.ensures ∙ w.if-first-joined.true ∙ c.joined.ensures)) (stand 10 _ _ _ _ (omega (arith, c.requires)) (omega (arith, a.c.compact.two_n.1)) (omega arith) (omega arith) (sym c.joined_at-second.ensures ∙ eqb-true _ _ (sym w.stands-is ∙ t) ∙ w.joined-then-first-joined.ensures)) (short-bytes a.c.w a.c.k a.c.n a.c.compact c.if-c-lt128.true)
      | else-first-joined w ↦ absurd (w.if-first-joined.false (eqb-true _ _ (sym w.stands-is ∙ t)))
    ]))

pub returns : goal.returns
returns c =
    let a = c.args in
    let stand = four_stand a.s.now (λ i. omega (arith, c.type_inv.s i)) in
    rw c.then_some-2.ensures (where_it_stands a.s.now _ c.if-second-joined.stands 15 (λ t.
    elim c.if-second-joined.branch [
      | then-second-joined v ↦ elim c.if-first-joined-2.branch [
        | then-first-joined-2 w ↦
            starts_long a.s.now _ c.requires (stand 6 _ _ _ _ (omega (arith, c.requires)) (omega arith) (omega (arith, a.c.compact.few-w)) (omega arith) (sym c.joined_at-first.ensures ∙ w.if-first-joined-2.true ∙ c.joined-2.ensures)) (stand 10 _ _ _ _ (omega (arith, c.requires)) (omega (arith, a.c.compact.two_n.1)) (omega arith) (omega arith) (sym c.joined_at-second.ensures ∙ eqb-true _ _ (sym w.value-is ∙ v.if-second-joined.true) ∙ w.joined-then-first-joined-2.ensures)) (eqb-true _ _ (sym v.stands-is ∙ t)) (long-bytes a.c.w a.c.k a.c.n a.c.compact c.if-c-lt128.false)
        | else-first-joined-2 w ↦ absurd (w.if-first-joined-2.false (eqb-true _ _ (sym w.value-is ∙ v.if-second-joined.true)))
      ]
      | else-second-joined v ↦ absurd (false≢true (sym v.if-second-joined.false ∙ sym v.stands-is ∙ t))
    ]))
