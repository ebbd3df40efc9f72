-- Laws of specs/PivotStep.antt.
-- Assumes nothing.
use mathlib.Core.Path.{◌≡◌, refl, sym, ap, ◌∙◌}
use mathlib.Core.Logic.{◌⊎◌, inl, inr, ⊎_elim}
use mathlib.Core.Bool.{Bool, true, false}
use mathlib.Core.List.{List}
use Prim.Native.Nat.{ℕ, ◌+◌, ◌*◌, ◌≤◌, ◌<◌}
use native.Mathlib.Omega.{arith}
use lib.ListN.{length, get_or, set, length-set}
use lib.Seq.{get_or-set_same, get_or-set_other}
use Rattle.std.proofs.Common.{Option, Some, None}
use Rattle.std.proofs.lemmas.Bool.{cases_eq}
use Rattle.algebra.proofs.Codeword.{slot}
use Rattle.elimination.specs.Bits.{row_bit}
use Rattle.elimination.specs.Column.{add_row_where, has_pivot}
use Rattle.elimination.proofs.ColumnLaws.{has_pivot_own}
use Rattle.elimination.specs.System.{SameSolutions}
use Rattle.elimination.proofs.SystemLaws.{add_row_where-same, same_refl, same_trans, coefficients_pivot_set, coefficients_same}
use Rattle.elimination.specs.Reduced.{pivot_at, RowReduced}
use Rattle.elimination.proofs.ReducedLaws.{pivot_set_bit, pivot_set_reduced, cleared_own, cleared_reduced}
use Rattle.elimination.specs.PivotStep.{PivotIs, pivot_word_of, cleared_by, PivotStep, ReducedWhere, RowMarked}

-- ---- a step keeps the solutions

cleared_same : (f : Option ℕ) (l d : List ℕ) (m words width r : ℕ) → r < m → m * (words + 1) ≤ length l → m * width ≤ length d
    → SameSolutions l d (cleared_by f l l m words r (words + 1) words) (cleared_by f l d m words r width width) m words width
cleared_same (Some p) l d m words width r inside rows bytes =
    add_row_where-same (has_pivot l (words + 1) r p) l d m words width r (has_pivot_own l (words + 1) r p r refl) inside rows bytes
cleared_same None l d m words width r inside rows bytes = same_refl

module _ (l d l' d' : List ℕ) (m words width r : ℕ) (step : PivotStep l d l' d' m words width r)
    (inside : r < m) (rows : m * (words + 1) ≤ length l) (bytes : m * width ≤ length d) where
  pub step_same : SameSolutions l d l' d' m words width
  step_same =
      let l₁ : List ℕ = set l (pivot_at words r) (pivot_word_of step.found) in
      let rows₁ : m * (words + 1) ≤ length l₁ = simp length-set rows in
      rw (step.rows, step.rhs)
      (same_trans (coefficients_same l l₁ d m words width (coefficients_pivot_set l words r (pivot_word_of step.found))) (cleared_same step.found l₁ d m words width r inside rows₁ bytes))

  -- ---- and reduces one row more, whichever it is
  step-reduced : (f : Option ℕ) → PivotIs (row_bit l (r * (words + 1))) (64 * words) f
      → (s : ℕ) → s < m → (s ≡ r) ⊎ RowReduced l m words s → RowReduced (cleared_by f (set l (pivot_at words r) (pivot_word_of f)) (set l (pivot_at words r) (pivot_word_of f)) m words r (words + 1) words) m words s
  step-reduced (Some p) low s h w =
      let end : r * (words + 1) + (words + 1) ≤ m * (words + 1) = slot r m (words + 1) inside in
      let l₂ : List ℕ = set l (pivot_at words r) (p + 1) in
      let rows₂ : m * (words + 1) ≤ length l₂ = simp length-set rows in
      let there : row_bit l₂ (r * (words + 1)) p ≡ true = pivot_set_bit l words r (p + 1) r p low.0 ∙ low.1 in
      let own : (e : s ≡ r) → RowReduced (add_row_where (has_pivot l₂ (words + 1) r p) l₂ r (words + 1) words m) m words s =
      λ e. rw e (cleared_own l₂ m words r p inside rows₂ low.0 there (get_or-set_same l (pivot_at words r) (p + 1) 0 (omega arith))) in
      ⊎_elim own
      (λ d. ⊎_elim own (λ ne. cleared_reduced l₂ m words r p inside rows₂ low.0 there s h ne (pivot_set_reduced l words r (p + 1) m s h ne d)) (cases_eq s r)) w
  step-reduced None low s h w =
      let end : r * (words + 1) + (words + 1) ≤ m * (words + 1) = slot r m (words + 1) inside in
      let own : (e : s ≡ r) → RowReduced (set l (pivot_at words r) 0) m words s =
      λ e. rw e (inl (record {
        word = get_or-set_same l (pivot_at words r) 0 0 (omega arith);
        clear = λ q hq. pivot_set_bit l words r 0 r q hq ∙ low q hq;
      })) in
      ⊎_elim own (λ d. ⊎_elim own (λ ne. pivot_set_reduced l words r 0 m s h ne d) (cases_eq s r)) w

  pub step_where : (f : List Bool) → ReducedWhere f l m words → ReducedWhere (set f r true) l' m words
  step_where f red = record {
    long = simp length-set red.long;
    rows = λ s h. ⊎_elim (λ e. inr (rw step.rows (step-reduced step.found step.chosen s h (inl e))))
        (λ ne. ⊎_elim (λ z. inl (get_or-set_other f r s true false ne ∙ z)) (λ d. inr (rw step.rows (step-reduced step.found step.chosen s h (inr d)))) (red.rows s h))
        (cases_eq s r);
  }

-- the account of the rows that are reduced: one row more in order
pub marked_more : (f g : List Bool) (s : ℕ) → RowMarked f g s → ((i : ℕ) → i < s → get_or f i false ≡ false → ⊥) → (i : ℕ) → i < s + 1 → get_or g i false ≡ false → ⊥
marked_more f g s w before i h z = ⊎_elim (λ e. w.here (ap (λ (x : ℕ). get_or g x false) (sym e) ∙ z)) (λ ne. before i (omega arith) (w.kept i z)) (cases_eq i s)
