-- `peeling::peel::none_missing` meets its contract: of the first i positions, `known` are known.
-- Assumes nothing.
use Rattle.std.proofs.Common.{◌≡◌, ℕ, ◌+◌, ◌<◌, true, false, ◌≢◌, List, get_or, ap, ◌∙◌, arith, eq-eqb, ne_eqb}
use native.Mathlib.Decide.{dec_lt}
use Rattle.peeling.specs.States.{is_known}
use Rattle.peeling.proofs.peel.none_missing.Goals as goal
use Rattle.peeling.proofs.peel.none_missing.Goals.{else-state-eq-KNOWN, then-state-eq-KNOWN}
use Rattle.peeling.proofs.peel.none_missing.Invariants.{KnownTo}

module _ {states : List ℕ} {i k : ℕ} (h : KnownTo states i k) where
  later : k < i → (p : ℕ) × ((p < i + 1) × (is_known states p ≡ false))
  later l = let s = h.some l in (s.0, (omega (arith, s.1.0), s.1.1))

  known-one : {k' : ℕ} → get_or states i 0 ≡ 1 → k' ≡ k + 1 → KnownTo states (i + 1) k'
  unfolding is_known
  known-one {k'} e d = record { few = omega (arith, h.few); all = λ z p l. go z p l (dec_lt p i); some = λ l. later (omega arith) }
    where
      go : k' ≡ i + 1 → (p : ℕ) → p < i + 1 → Dec (p < i) → is_known states p ≡ true
      go z p l (yes a) = h.all (omega arith) p a
      go z p l (no a) = let q : p ≡ i = omega arith in eq-eqb (get_or states p 0) 1 (ap (λ (x : ℕ). get_or states x 0) q ∙ e)

  known-other : {k' : ℕ} → get_or states i 0 ≢ 1 → k' ≡ k → KnownTo states (i + 1) k'
  unfolding is_known
  known-other e d = record { few = omega (arith, h.few); all = λ z. absurd (omega (arith, h.few)); some = λ l. (i, (omega arith, ne_eqb (get_or states i 0) 1 e)) }

pub loop-state-preserved : goal.loop-state-preserved
loop-state-preserved c =
    let l = c.loop-state in
    elim c.if-state-eq-KNOWN.branch [ then-state-eq-KNOWN v ↦ known-one l.invariant v.if-state-eq-KNOWN.true v.known-is | else-state-eq-KNOWN v ↦ known-other l.invariant v.if-state-eq-KNOWN.false v.known-is ]
