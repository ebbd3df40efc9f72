-- Laws of specs/SharedUnknowns.antt.
-- Assumes nothing.
use mathlib.Core.Path.{◌≡◌, sym, ap, ◌∙◌}
use mathlib.Core.Logic.{⊎_elim}
use mathlib.Core.Bool.{true, false, true≢false}
use mathlib.Core.List.{List}
use Prim.Native.Nat.{ℕ, ◌+◌, ◌*◌, ◌/◌, ◌%◌, ◌≤◌, ◌<◌}
use native.Mathlib.Nat.{eq-or-lt_of_le}
use native.Mathlib.Omega.{arith}
use lib.ListN.{get_or, set}
use lib.Bits.{bit_or, bit_and}
use Rattle.std.proofs.Common.{Some}
use Rattle.std.proofs.lemmas.Bool.{cases_eq, or_left, or_right, or_parts, and_cases, both_ways, false_from_ne_true}
use Rattle.elimination.specs.Bits.{test_bit, row_bit}
use Rattle.elimination.proofs.Digits.{test_bit_or, test_bit_and}
use Rattle.elimination.specs.Column.{has_pivot}
use Rattle.elimination.proofs.ColumnLaws.{has_pivot_own, has_pivot_other, add_row_where-none}
use Rattle.elimination.specs.System.{SameCoefficients}
use Rattle.elimination.proofs.SystemLaws.{coefficients_pivot_set, coefficients_bit}
use Rattle.elimination.specs.Reduced.{pivot_at}
use Rattle.elimination.specs.PivotStep.{PivotStep}
use Rattle.elimination.specs.SharedUnknowns.{SharedMask, SharedMasks}

-- ---- one row more: the digits seen so far, and those seen twice

abbrev pub SeenMask : ℕ → List ℕ → ℕ → ℕ → ℕ → Type 0
SeenMask v l n words k = (b i : ℕ) → i < n → test_bit (get_or l (i * (words + 1) + k) 0) b ≡ true → test_bit v b ≡ true

module _ (l : List ℕ) (words k n seen shared : ℕ) where
  abbrev word : ℕ → ℕ
  word i = get_or l (i * (words + 1) + k) 0

  pub seen_more : SeenMask seen l n words k → SeenMask (bit_or seen (word n)) l (n + 1) words k
  seen_more s b i h on =
      test_bit_or seen (word n) b
      ∙ ⊎_elim (λ e. or_right (test_bit seen b) (test_bit (word n) b) (ap (λ (x : ℕ). test_bit (word x) b) (sym e) ∙ on)) (λ lt. or_left (test_bit seen b) (test_bit (word n) b) (s b i lt on))
      (eq-or-lt_of_le (let g : i ≤ n = omega arith in g))

  pub shared_more : SeenMask seen l n words k → SharedMask shared l n words k → SharedMask (bit_or shared (bit_and seen (word n))) l (n + 1) words k
  shared_more s old b i j hi hj ne off on =
      let both = sym (test_bit_or shared (bit_and seen (word n)) b) ∙ off in
      let was : test_bit shared b ≡ false = (or_parts (test_bit shared b) (test_bit (bit_and seen (word n)) b) both).0 in
      let apart : test_bit seen b ≡ true → test_bit (word n) b ≡ false =
      λ e. ⊎_elim (λ f. absurd (both_ways _ f e)) (λ f. f) (and_cases (test_bit seen b) (test_bit (word n) b) (sym (test_bit_and seen (word n) b) ∙ (or_parts (test_bit shared b) (test_bit (bit_and seen (word n)) b) both).1)) in
      ⊎_elim
      (λ ei. ⊎_elim
      (λ ej. absurd (ne (ei ∙ sym ej)))
      (λ lj. false_from_ne_true (test_bit (word j) b) (λ t. true≢false (sym on ∙ ap (λ (x : ℕ). test_bit (word x) b) ei ∙ apart (s b j lj t))))
      (eq-or-lt_of_le (let g : j ≤ n = omega arith in g)))
      (λ li. ⊎_elim
      (λ ej. ap (λ (x : ℕ). test_bit (word x) b) ej ∙ apart (s b i li on))
      (λ lj. old b i j li lj ne was on)
      (eq-or-lt_of_le (let g : j ≤ n = omega arith in g)))
      (eq-or-lt_of_le (let g : i ≤ n = omega arith in g))

-- ---- pivot words take no part

pub coefficients_masks : (f l l' : List ℕ) (m words : ℕ) → SameCoefficients l l' words → SharedMasks f l m words words → SharedMasks f l' m words words
coefficients_masks f l l' m words same s i h b p q hp hq ne off on =
    ap (λ (x : ℕ). test_bit x b) (same q i h) ∙ s i h b p q hp hq ne off (ap (λ (x : ℕ). test_bit x b) (sym (same p i h)) ∙ on)

-- ---- an unknown that is in one row only: clearing its column changes nothing

pub singleton_step : (f l : List ℕ) (m words r p : ℕ) → r < m → p < 64 * words → SharedMasks f l m words words → test_bit (get_or f (p / 64) 0) (p % 64) ≡ false
    → row_bit l (r * (words + 1)) p ≡ true → (d : List ℕ) (width : ℕ) → PivotStep l d (set l (pivot_at words r) (p + 1)) d m words width r
unfolding row_bit
singleton_step f l m words r p inside within s off on d width =
    let l₂ : List ℕ = set l (pivot_at words r) (p + 1) in
    let same : SameCoefficients l l₂ words = coefficients_pivot_set l words r (p + 1) in
    let none : (k : ℕ) → k < m → has_pivot l₂ (words + 1) r p k ≡ false =
    λ k h. ⊎_elim (λ e. has_pivot_own l₂ (words + 1) r p k e)
    (λ ne. has_pivot_other l₂ (words + 1) r p k ne ∙ coefficients_bit l l₂ words same k p within ∙ s (p / 64) (omega arith) (p % 64) r k inside h (λ e. ne (sym e)) off on) (cases_eq k r) in
    record {
      found = Some p;
      chosen = (within, on);
      rows = add_row_where-none (has_pivot l₂ (words + 1) r p) l₂ r (words + 1) words m none;
      rhs = add_row_where-none (has_pivot l₂ (words + 1) r p) d r width width m none;
    }
