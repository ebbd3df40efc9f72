-- Laws of specs/Reduced.antt.
-- Assumes nothing.
use mathlib.Core.Path.{◌≡◌, refl, sym, ap, ap₂, ◌∙◌}
use mathlib.Core.Logic.{◌≢◌, inl, inr}
use mathlib.Core.Bool.{Bool, true, false, cond, xor}
use mathlib.Core.List.{List}
use Prim.Native.Nat.{ℕ, ◌+◌, ◌*◌, ◌≤◌, ◌<◌}
use native.Mathlib.Omega.{arith}
use lib.ListN.{length, set}
use lib.Seq.{get_or-set_other}
use Rattle.elimination.specs.Bits.{row_bit}
use Rattle.elimination.specs.Column.{add_row_where, has_pivot}
use Rattle.elimination.proofs.ColumnLaws.{has_pivot_own, has_pivot_other, rows_apart, add_row_where-rest, add_row_where_bit}
use Rattle.elimination.proofs.SystemLaws.{coefficients_pivot_set, coefficients_bit}
use Rattle.elimination.specs.Reduced.{pivot_word, pivot_at, ZeroRow, Pivot, RowReduced}

-- ---- a row stays reduced where its pivot word stays, and its unknowns, if it has none, or its pivot's column, if it has one

carry : (l l' : List ℕ) (m words s : ℕ) → s < m → pivot_word l' words s ≡ pivot_word l words s
    → (ZeroRow l words s → (q : ℕ) → q < 64 * words → row_bit l' (s * (words + 1)) q ≡ row_bit l (s * (words + 1)) q)
    → ((p : Pivot l m words s) (j : ℕ) → j < m → row_bit l' (j * (words + 1)) p.at ≡ row_bit l (j * (words + 1)) p.at)
    → RowReduced l m words s → RowReduced l' m words s
carry l l' m words s hs word row column (inl e) = inl (record { word = word ∙ e.word; clear = λ q h. row e q h ∙ e.clear q h })
carry l l' m words s hs word row column (inr p) = inr (record {
  at = p.at;
  word = word ∙ p.word;
  within = p.within;
  here = column p s hs ∙ p.here;
  others = λ j hj ne. column p j hj ∙ p.others j hj ne;
})

-- ---- a pivot word changes no unknown, and no other pivot word

module _ (l : List ℕ) (words r v : ℕ) where
  abbrev pivot_set : List ℕ
  pivot_set = set l (pivot_at words r) v

  pub pivot_set_bit : (j q : ℕ) → q < 64 * words → row_bit pivot_set (j * (words + 1)) q ≡ row_bit l (j * (words + 1)) q
  pivot_set_bit = coefficients_bit l pivot_set words (coefficients_pivot_set l words r v)

  pivot_set_else : (s : ℕ) → s ≢ r → pivot_word pivot_set words s ≡ pivot_word l words s
  pivot_set_else s ne = get_or-set_other l (pivot_at words r) (pivot_at words s) v 0 (λ e. rows_apart s r (words + 1) ne words words (omega arith) (omega arith) e)

  pub pivot_set_reduced : (m s : ℕ) → s < m → s ≢ r → RowReduced l m words s → RowReduced pivot_set m words s
  pivot_set_reduced m s hs ne =
      carry l pivot_set m words s hs (pivot_set_else s ne) (λ e q h. pivot_set_bit s q h) (λ p j hj. pivot_set_bit j p.at p.within)

-- ---- the column of an unknown p of row r, cleared

xor_off : (t a : Bool) → cond t (xor a false) a ≡ a
unfolding xor
xor_off true true = refl
xor_off true false = refl
xor_off false a = refl

xor_on : (a : Bool) → cond a (xor a true) a ≡ false
unfolding xor
xor_on true = refl
xor_on false = refl

module _ (l : List ℕ) (m words r p : ℕ) (inside : r < m) (rows : m * (words + 1) ≤ length l) (within : p < 64 * words)
    (set_there : row_bit l (r * (words + 1)) p ≡ true) where
  abbrev w : ℕ
  w = words + 1

  abbrev cleared : List ℕ
  cleared = add_row_where (has_pivot l w r p) l r w words m

  cleared_word : (s : ℕ) → pivot_word cleared words s ≡ pivot_word l words s
  cleared_word s = add_row_where-rest (has_pivot l w r p) l r w words (omega arith) (has_pivot_own l w r p r refl) m s words (omega arith) (omega arith)

  cleared_bit : (j q : ℕ) → j < m → q < 64 * words → row_bit cleared (j * w) q ≡ cond (has_pivot l w r p j) (xor (row_bit l (j * w) q) (row_bit l (r * w) q)) (row_bit l (j * w) q)
  cleared_bit j q hj hq = add_row_where_bit (has_pivot l w r p) l r w words (omega arith) (has_pivot_own l w r p r refl) m j q rows hj (omega arith)

  -- an unknown that row r does not have
  cleared_off : (j q : ℕ) → j < m → q < 64 * words → row_bit l (r * w) q ≡ false → row_bit cleared (j * w) q ≡ row_bit l (j * w) q
  cleared_off j q hj hq e =
      cleared_bit j q hj hq ∙ ap (λ (b : Bool). cond (has_pivot l w r p j) (xor (row_bit l (j * w) q) b) (row_bit l (j * w) q)) e ∙ xor_off (has_pivot l w r p j) (row_bit l (j * w) q)

  -- a row that does not have p, and row r itself
  cleared_miss : (j q : ℕ) → j < m → q < 64 * words → has_pivot l w r p j ≡ false → row_bit cleared (j * w) q ≡ row_bit l (j * w) q
  cleared_miss j q hj hq e = cleared_bit j q hj hq ∙ ap (λ (b : Bool). cond b (xor (row_bit l (j * w) q) (row_bit l (r * w) q)) (row_bit l (j * w) q)) e

  -- unknown p goes from every other row
  cleared_others : (j : ℕ) → j < m → j ≢ r → row_bit cleared (j * w) p ≡ false
  cleared_others j hj ne =
      cleared_bit j p hj within
      ∙ ap₂ (λ (t b : Bool). cond t (xor (row_bit l (j * w) p) b) (row_bit l (j * w) p)) (has_pivot_other l w r p j ne) set_there
      ∙ xor_on (row_bit l (j * w) p)

  pub cleared_own : pivot_word l words r ≡ p + 1 → RowReduced cleared m words r
  cleared_own e = inr (record {
    at = p;
    word = cleared_word r ∙ e;
    within = within;
    here = cleared_miss r p inside within (has_pivot_own l w r p r refl) ∙ set_there;
    others = cleared_others;
  })

  pub cleared_reduced : (s : ℕ) → s < m → s ≢ r → RowReduced l m words s → RowReduced cleared m words s
  cleared_reduced s hs ne =
      carry l cleared m words s hs (cleared_word s) (λ e q h. cleared_miss s q hs h (has_pivot_other l w r p s ne ∙ e.clear p within))
      (λ v j hj. cleared_off j v.at hj v.within (v.others r inside (λ e. ne (sym e))))
