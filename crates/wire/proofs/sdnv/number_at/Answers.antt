-- `wire::sdnv::number_at` meets its contract: what is still to be read says the same as the whole.
-- Assumes nothing.
use mathlib.Core.Path.{◌≡◌, ◌∙◌, sym, ap}
use mathlib.Core.Logic.{inr}
use Prim.Native.Nat.{ℕ, ◌+◌, ◌-◌, ◌*◌, ◌%◌, ◌<◌}
use native.Mathlib.Omega.{arith}
use lib.ListN.{length, get_or}
use Rattle.wire.specs.Sdnv.{finished, sdnv_from}
use Rattle.wire.proofs.SdnvLaws.{ends_early, leads, too_large, last_byte, goes_on, grows}
use Rattle.wire.proofs.sdnv.number_at.Goals as goal
use Rattle.wire.proofs.sdnv.number_at.Goals.{In-Some, After-from-b}

pub returns-in_default : goal.returns-in_default
returns-in_default c =
    let l = c.loop-i in
    sym (ends_early (5 - l.i) l.value c.args.s.now (c.args.at + l.i) (omega arith) c.in_default.ensures.lookup.3) ∙ l.invariant.2

-- there is a byte, and b is its number
inside : (c : In-Some) → c.args.at + c.loop-i.i < length c.args.s.now
inside c = c.in-Some.ensures.lookup.3.0

byte_of : (c : After-from-b) → c.from-b.result ≡ get_or c.args.s.now (c.args.at + c.loop-i.i) 0
byte_of c = c.from-b.ensures ∙ c.in-Some.ensures.lookup.3.1 0

pub returns-then-value-gt4294967295 : goal.returns-then-value-gt4294967295
returns-then-value-gt4294967295 c =
    let l = c.loop-i in
    let e = byte_of (goal.at.returns-then-value-gt4294967295 c).After-from-b in
    let h = inside (goal.at.returns-then-value-gt4294967295 c).In-Some in
    sym (too_large (5 - l.i) l.value c.args.s.now (c.args.at + l.i) (omega arith) h (rw (← e) c.if-b-lt128.true) (rw (← e) c.if-value-gt4294967295.true)) ∙ l.invariant.2

pub returns-then-b-lt128 : goal.returns-then-b-lt128
returns-then-b-lt128 c =
    let l = c.loop-i in
    let e = byte_of (goal.at.returns-then-b-lt128 c).After-from-b in
    let h = inside (goal.at.returns-then-b-lt128 c).In-Some in
    ap (λ (b : ℕ). finished (record { value = l.value * 128 + b % 128; end = c.args.at + l.i + 1 })) e
    ∙ sym (last_byte (5 - l.i) l.value c.args.s.now (c.args.at + l.i) (omega arith) h (rw (← e) c.if-b-lt128.true) (rw (← e) c.if-value-gt4294967295.false)) ∙ l.invariant.2

pub returns-then-value-eq0 : goal.returns-then-value-eq0
returns-then-value-eq0 c =
    let l = c.loop-i in
    let e = byte_of (goal.at.returns-then-value-eq0 c).After-from-b in
    let h = inside (goal.at.returns-then-value-eq0 c).In-Some in
    let b : get_or c.args.s.now (c.args.at + l.i) 0 < 256 = omega (arith, c.type_inv.s (c.args.at + l.i)) in
    sym (leads (5 - l.i) l.value c.args.s.now (c.args.at + l.i) (omega arith) h (omega arith) (omega arith)) ∙ l.invariant.2

pub loop-i-preserved : goal.loop-i-preserved
loop-i-preserved c =
    let l = c.loop-i in
    let s = c.args.s.now in
    let e = byte_of (goal.at.loop-i-preserved c).After-from-b in
    let h = inside (goal.at.loop-i-preserved c).In-Some in
    let g : get_or s (c.args.at + l.i) 0 % 128 < 128 = omega arith in
    let n : 5 - (l.i + 1) ≡ 5 - l.i - 1 = omega arith in
    let a : c.args.at + (l.i + 1) ≡ c.args.at + l.i + 1 = omega arith in (
      inr (omega arith),
      rw e (grows l.value l.i _ l.invariant.1 g),
      rw (e, n, a) (sym (goes_on (5 - l.i) l.value s (c.args.at + l.i) (omega arith) h (rw (← e) c.if-b-lt128.false) (omega arith)) ∙ l.invariant.2),
    )

pub returns : goal.returns
unfolding sdnv_from
returns c =
    let z : 5 - c.loop-i.i ≡ 0 = omega arith in
    rw z at c.loop-i.invariant.2
