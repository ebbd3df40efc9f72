-- Whether a position depends on no pivot, as `dependence::determined` answers it.
-- Assumes nothing.
use mathlib.Core.Path.{◌≡◌, refl, sym, ap, ap₂, ◌∙◌, subst}
use mathlib.Core.Logic.{⊎_elim}
use mathlib.Core.Bool.{Bool, true, false, xor}
use mathlib.Core.List.{List}
use Prim.Native.Nat.{ℕ, zero, suc, ◌+◌, ◌-◌, ◌*◌, ◌/◌, ◌%◌, ◌^◌, ◌<◌, ◌≤◌}
use native.Mathlib.Omega.{arith}
use lib.Count.{count_trailing_zeros}
use lib.ListN.{length, get_or, take, drop, length-drop}
use borrow.Author.Tests.{eq-eqb, ne_eqb}
use Rattle.std.specs.Int.Bits.{bit_or}
use Rattle.std.specs.List.{fold}
use Rattle.std.proofs.lemmas.List.Sums.{fold_more}
use Rattle.std.proofs.lemmas.List.{get_or-drop}
use lib.Dec.{eqb}
use native.Mathlib.Numerals.{add-one}
use Rattle.buffers.specs.AllZero.{AllZeroIs}
use Rattle.buffers.proofs.AllZeroLaws.{all_more}
use Rattle.elimination.specs.Bits.{test_bit, row_bit, OnlyIs}
use Rattle.elimination.specs.Reduced.{pivot_word}
use Rattle.elimination.proofs.Digits.{test_bit-none, LowestSet, trailing_lowest}
use Rattle.elimination.proofs.Order.{eq_or_ne}
use Rattle.decoder.specs.Pivots.{NoBitsIs, DeterminedIs}
use Rattle.pivot_equations.proofs.Dependence.{depends_none, depends_step, depends_pivot, depends_solved}

-- a row has no pivot where its words are all zero
pub no_bits : (l : List ℕ) (at len : ℕ) → ((k : ℕ) → k < len → get_or l (at + k) 0 < 2 ^ 64) → (r : Bool) → AllZeroIs l at len r → NoBitsIs l at len r
unfolding row_bit
no_bits l at len fit true z = λ i h. ap (λ (x : ℕ). test_bit x (i % 64)) (z (i / 64) (omega arith)) ∙ test_bit-none (i % 64)
no_bits l at len fit false (k, (h, ne)) =
    let v : ℕ = get_or l (at + k) 0 in
    let t : ℕ = count_trailing_zeros 64 v in
    let low : LowestSet v 64 t = trailing_lowest 64 v (omega arith) (fit k h) in
    let w : t < 64 = low.within in
    let e : (64 * k + t) / 64 ≡ k = omega arith in
    let f : (64 * k + t) % 64 ≡ t = omega arith in
    (64 * k + t, (omega arith, ap₂ (λ (x y : ℕ). test_bit (get_or l (at + x) 0) y) e f ∙ low.here))

-- the words of a row, all or-ed together, are 0 where each word is
pub all_or : (l : List ℕ) (at len : ℕ) → at + len ≤ length l → AllZeroIs l at len (eqb (fold bit_or 0 (take len (drop at l))) 0)
all_or l at zero h = λ k g. absurd (omega arith)
all_or l at (suc k) h =
    let v : ℕ = fold bit_or 0 (take k (drop at l)) in
    let e : fold bit_or 0 (take (k + 1) (drop at l)) ≡ bit_or v (get_or l (at + k) 0) = fold_more bit_or 0 (drop at l) k 0 (omega (arith, length-drop at l)) ∙ ap (bit_or v) (get_or-drop at l k 0) in
    rw (← add-one) (subst (λ (x : ℕ). AllZeroIs l at (k + 1) (eqb x 0)) (sym e) (all_more l at k v (all_or l at k (omega arith))))

module _ (l : List ℕ) (words early kind : ℕ) where
  pub determined_early : kind ≤ early → DeterminedIs l words early kind true
  determined_early h i k = depends_none l words early kind i h

  module _ (late : early < kind) where
    pub determined-step : kind ≤ 1024 → (r : Bool) → NoBitsIs l ((kind - 1) * (words + 1)) words r → DeterminedIs l words early kind r
    determined-step h true z = λ i k. depends_step l words early kind i late h ∙ z i k
    determined-step h false (i, (k, t)) = (i, (k, depends_step l words early kind i late h ∙ t))

    pub determined-pivot : 1024 < kind → kind ≤ 4096 → kind - 1025 < 64 * words → DeterminedIs l words early kind false
    determined-pivot g h k = (kind - 1025, (k, depends_pivot l words early kind (kind - 1025) (kind - 1025) late (omega arith) (omega arith) ∙ eq-eqb (kind - 1025) (kind - 1025) refl))

    -- the row's own pivot is taken out
    pub determined-solved : 4096 < kind → (u : ℕ) → u ≡ pivot_word l words (kind - 4097) - 1 → row_bit l ((kind - 4097) * (words + 1)) u ≡ true
        → (r : Bool) → OnlyIs (row_bit l ((kind - 4097) * (words + 1))) (64 * words) u r → DeterminedIs l words early kind r
    unfolding xor
    determined-solved g u e own true z = λ i k.
        depends_solved l words early kind i (kind - 4097) u late (omega arith) e
        ∙ ⊎_elim (λ f. ap₂ xor (ap (row_bit l ((kind - 4097) * (words + 1))) f ∙ own) (eq-eqb i u f)) (λ f. ap₂ xor (z i k f) (ne_eqb i u f)) (eq_or_ne i u)
    determined-solved g u e own false (i, (k, (ne, t))) = (i, (k, depends_solved l words early kind i (kind - 4097) u late (omega arith) e ∙ ap₂ xor t (ne_eqb i u ne)))
