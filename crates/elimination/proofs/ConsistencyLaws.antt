-- Laws of specs/Consistency.antt.
-- Assumes nothing.
use mathlib.Core.Path.{◌≡◌, sym, ap, ◌∙◌}
use mathlib.Core.Logic.{inl, inr}
use mathlib.Core.Bool.{true}
use mathlib.Core.List.{List}
use Prim.Native.Nat.{ℕ, ◌+◌, ◌*◌, ◌<◌}
use native.Mathlib.Omega.{arith}
use Rattle.elimination.specs.Bits.{row_bit}
use Rattle.elimination.specs.Reduced.{pivot_word, RowReduced}

-- a reduced row with pivot word p + 1 has its pivot at p
pub word-pivot : (l : List ℕ) (m words s p : ℕ) → RowReduced l m words s → pivot_word l words s ≡ p + 1 → (p < 64 * words) × (row_bit l (s * (words + 1)) p ≡ true)
word-pivot l m words s p (inl e) z = absurd (omega (arith, e.word))
word-pivot l m words s p (inr v) z =
    let same : v.at ≡ p = omega (arith, v.word) in
    let w : v.at < 64 * words = v.within in (omega arith, ap (row_bit l (s * (words + 1))) (sym same) ∙ v.here)
