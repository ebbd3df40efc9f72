-- `sending::show::show` meets its contract: where it is not refused, the symbol's part lies within its buffer.
-- Assumes nothing.
use mathlib.Core.Path.{◌≡◌, sym, refl, ◌∙◌}
use mathlib.Core.Bool.{true, false, false≢true}
use Prim.Native.Nat.{◌+◌, ◌-◌, ◌*◌, ◌≤◌, ◌<◌}
use native.Mathlib.Omega.{arith}
use native.Mathlib.Nat.{add-zero}
use lib.ListN.{length}
use Rattle.std.specs.Prelude.{Result, Ok, Err, is_err}
use Rattle.ccsds.specs.Tables.{code_of}
use Rattle.ccsds.specs.Refusals.{checked_as}
use Rattle.ccsds.specs.declared.refusal.Refusal.{Refusal}
use Rattle.ccsds.proofs.RefusalOrder.{numbered}
use Rattle.sending.specs.Show.{show_refusal}
use Rattle.sending.proofs.ShowLaws.{Showable, showable, in_information, in_parity, shows-none, shows-information, shows-parity, part_is}
use Rattle.sending.proofs.show.show.Goals as goal
use Rattle.sending.proofs.show.show.Goals.{Else-is_err, Else-i-k, Then-i-k}

-- an answer by whether it is an error
passes : (r : Result Unit Refusal) → is_err r ≡ false → checked_as r ≡ 0
passes (Ok a) e = refl
passes (Err r) e = absurd (false≢true (sym e))

refuses : (r : Result Unit Refusal) → is_err r ≡ true → checked_as r ≡ 0 → ⊥
refuses (Ok a) e = λ z. false≢true e
refuses (Err r) e = numbered r

zero : (c : Else-is_err) → let a = c.args in show_refusal a.code a.w a.fill (length a.info.now) (length a.parity.now) a.lwc ≡ 0
zero c = sym c.check_show.ensures ∙ passes _ (sym c.is_err.ensures.value ∙ c.if-is_err.false)

known : (c : Else-is_err) → let a = c.args in Showable a.code a.w a.fill (length a.info.now) (length a.parity.now) a.lwc
known c = showable _ _ _ _ _ _ (zero c)

below : (c : Then-i-k) → c.args.lwc - 1 < (code_of c.args.code).k
below c = rw (← c.k-k.ensures) c.if-i-k.true

above : (c : Else-i-k) → (code_of c.args.code).k ≤ c.args.lwc - 1
above c = rw (← c.k-k.ensures) c.if-i-k.false

in-info : (c : Then-i-k) → let a = c.args in (a.lwc - 1) * a.w + a.w ≤ length a.info.now
in-info c = in_information (showable _ _ _ _ _ _ (sym c.check_show.ensures ∙ passes _ (sym c.is_err.ensures.value ∙ c.if-is_err.false))) (below c)

in-par : (c : Else-i-k) → let a = c.args in (a.lwc - 1 - c.k-k.result) * a.w + a.w ≤ length a.parity.now
in-par c = rw c.k-k.ensures (in_parity (showable _ _ _ _ _ _ (sym c.check_show.ensures ∙ passes _ (sym c.is_err.ensures.value ∙ c.if-is_err.false))) (above c))

pub returns-then-is_err : goal.returns-then-is_err
returns-then-is_err c = rw (shows-none _ _ _ c.args.info c.args.parity _ (λ e. refuses _ (sym c.is_err.ensures.value ∙ c.if-is_err.true) (c.check_show.ensures ∙ e)), add-zero)

pub overflow_sub-i : goal.overflow_sub-i
overflow_sub-i c = omega (arith, (known (goal.at.overflow_sub-i c).Else-is_err).position)

pub overflow_mul-a : goal.overflow_mul-a
overflow_mul-a c = omega (arith, in-info c, c.well_formed.1.1.1.0.0)

pub overflow_add-result : goal.overflow_add-result
overflow_add-result c = omega (arith, in-info c, c.well_formed.1.1.1.0.0)

pub slice_bounds-result-end-then-i-k : goal.slice_bounds-result-end-then-i-k
slice_bounds-result-end-then-i-k c = in-info c

pub overflow_mul-a-else-i-k : goal.overflow_mul-a-else-i-k
overflow_mul-a-else-i-k c = omega (arith, in-par c, c.well_formed.1.1.1.1.0.0)

pub overflow_add-result-else-i-k : goal.overflow_add-result-else-i-k
overflow_add-result-else-i-k c = omega (arith, in-par c, c.well_formed.1.1.1.1.0.0)

pub slice_bounds-result-end-else-i-k : goal.slice_bounds-result-end-else-i-k
slice_bounds-result-end-else-i-k c = in-par c

pub returns-then-i-k : goal.returns-then-i-k
returns-then-i-k c =
    let a = c.args in
    part_is a.info ((a.lwc - 1) * a.w) a.w ∙ sym (shows-information a.code a.w a.fill a.info a.parity a.lwc (zero (goal.at.returns-then-i-k c).Else-is_err) (below (goal.at.returns-then-i-k c).Then-i-k))

pub returns-else-i-k : goal.returns-else-i-k
returns-else-i-k c =
    let a = c.args in
    part_is a.parity ((a.lwc - 1 - c.k-k.result) * a.w) a.w
    ∙ sym (rw (← c.k-k.ensures) at (shows-parity a.code a.w a.fill a.info a.parity a.lwc (zero (goal.at.returns-else-i-k c).Else-is_err) (above (goal.at.returns-else-i-k c).Else-i-k)))
