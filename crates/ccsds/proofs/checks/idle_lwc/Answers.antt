-- `ccsds::checks::idle_lwc` meets its contract. A fill of 0 is a case of its own: of LWC 0 the position counts as 0.
-- Assumes nothing.
use mathlib.Core.Path.{◌≡◌, sym, ◌∙◌}
use Prim.Native.Nat.{ℕ, ◌-◌, ◌≤◌, ◌<◌}
use native.Mathlib.Decide.{dec_lt}
use native.Mathlib.Omega.{arith}
use lib.Dec.{ltb}
use borrow.Author.Tests.{lt-ltb, le-ltb}
use Rattle.ccsds.specs.Fill.{idle_lwc}
use Rattle.ccsds.proofs.FillLaws.{idle_in, idle-not-below, idle-not_above}
use Rattle.ccsds.proofs.checks.idle_lwc.Goals as goal

module _ (k fill lwc : ℕ) (h : lwc ≤ k) where
  none-sent : fill ≡ 0 → Dec (0 < k) → ltb 0 k ≡ idle_lwc k fill lwc
  unfolding idle_lwc
  none-sent z (yes l) = lt-ltb 0 k l ∙ sym (idle_in k fill (lwc - 1) (omega arith) (omega arith))
  none-sent z (no l) = le-ltb 0 k (omega arith) ∙ sym (idle-not_above k fill (lwc - 1) (omega arith))

  some-sent : (fill ≡ 0 → ⊥) → Dec (fill < lwc) → ltb fill lwc ≡ idle_lwc k fill lwc
  unfolding idle_lwc
  some-sent z (yes l) = lt-ltb fill lwc l ∙ sym (idle_in k fill (lwc - 1) (omega arith) (omega arith))
  some-sent z (no l) = le-ltb fill lwc (omega arith) ∙ sym (idle-not-below k fill (lwc - 1) (omega arith))

pub returns-then-lwc-k : goal.returns-then-lwc-k
unfolding idle_lwc
returns-then-lwc-k c = let a = c.args in sym (idle-not_above a.k a.fill (a.lwc - 1) (omega arith))

pub returns-then-fill-eq0 : goal.returns-then-fill-eq0
returns-then-fill-eq0 c = none-sent _ _ _ c.if-lwc-k.false c.if-fill-eq0.true (dec_lt _ _)

pub returns : goal.returns
returns c = some-sent _ _ _ c.if-lwc-k.false c.if-fill-eq0.false (dec_lt _ _)
