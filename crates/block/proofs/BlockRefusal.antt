-- The refusals that every call on a block uses, each decided by its test, and what is known where none applies.
-- Assumes nothing.
use mathlib.Core.Path.{◌≡◌, refl, sym, ap, ap₂, ◌∙◌}
use mathlib.Core.Bool.{Bool, false, ◌||◌}
use mathlib.Core.List.{[], ◌∷◌}
use Prim.Native.Nat.{ℕ, ◌+◌, ◌*◌, ◌≤◌}
use Rattle.algebra.specs.Staircase.{staircase}
use Rattle.ccsds.specs.Codes.{n_of}
use Rattle.ccsds.specs.Tables.{code_of}
use Rattle.ccsds.specs.Fill.{wrong_fill}
use Rattle.ccsds.specs.RefusalTable as refusal
use Rattle.ccsds.specs.Refusals.{applies, first_in, first_of, record_conditions, wrong_code, wrong_width, wrong_label, wrong_length}
use Rattle.ccsds.specs.inner.Layout.{LayoutOf}
use Rattle.ccsds.specs.declared.tables.Layout.{Layout}
use Rattle.ccsds.proofs.RefusalOrder.{chain, in_order, part_refuses, part-passed, parts_none, first_is, first_on, first-end, first-none}
use Rattle.ccsds.proofs.Refusals.{or_false, width_right, length_right, length-same, length-wrong, record_none}
use Rattle.ccsds.proofs.UnitLaws.{n_of_lem}
use Rattle.block.specs.Block.{checks, wrong_buffers, block_refusal}
use Rattle.block.specs.declared.Block.{Block}

-- the number of positions is the code's
pub checks-n : (b : Block) → (checks b).n ≡ n_of (code_of b.code)
unfolding checks staircase
checks-n b = refl

-- by its layout
pub checks_of_lem : (b : Block) {l : Layout} → LayoutOf (code_of b.code) l → l.k + l.m ≡ (checks b).n
checks_of_lem b g = n_of_lem g ∙ sym (checks-n b)

pub buffers_right : (b : Block) (symbols marks : ℕ) → symbols ≡ (checks b).n * b.w → marks ≡ (checks b).n → wrong_buffers b symbols marks ≡ false
unfolding wrong_buffers
buffers_right b symbols marks e f = ap₂ ◌||◌ (length-same symbols _ e) (length-same marks _ f)

-- ---- by what a check of the record's conditions answered

pub record_width : (b : Block) → 0 ≡ first_of (record_conditions b.code b.w b.protocol b.lsc b.fill) → b.w ≤ 1024
record_width b e =
    (width_right b.w (record_none b.code b.w b.protocol b.lsc b.fill (sym (in_order _ refl) ∙ sym e)).1).1

module _ (b : Block) (symbols marks : ℕ) where
  pub record_refused : {r : ℕ} → r ≡ first_of (record_conditions b.code b.w b.protocol b.lsc b.fill) → (r ≡ 0 → ⊥) → r ≡ block_refusal b symbols marks
  unfolding block_refusal
  record_refused e h = part_refuses (record_conditions b.code b.w b.protocol b.lsc b.fill) _ refl refl _ e h

  -- the buffers, by the n that the code computes
  module _ (e : 0 ≡ first_of (record_conditions b.code b.w b.protocol b.lsc b.fill)) {n : ℕ} (q : n ≡ (checks b).n) where
    on : block_refusal b symbols marks ≡ chain ((refusal.length, wrong_buffers b symbols marks) ∷ [])
    unfolding block_refusal
    on = part-passed (record_conditions b.code b.w b.protocol b.lsc b.fill) _ refl refl 0 e refl

    size : n * b.w ≡ (checks b).n * b.w
    size = ap (λ (n : ℕ). n * b.w) q

    pub symbols-refused : (symbols ≡ n * b.w → ⊥) → 4 ≡ block_refusal b symbols marks
    unfolding wrong_buffers
    symbols-refused h =
        sym (on ∙ first_is _ _ _ (ap (λ (t : Bool). t || wrong_length marks (checks b).n) (length-wrong symbols _ (λ i. h (i ∙ sym size)))))

    module _ (right : symbols ≡ n * b.w) where
      pub marks-refused : (marks ≡ n → ⊥) → 4 ≡ block_refusal b symbols marks
      unfolding wrong_buffers
      marks-refused h =
          sym (on ∙ first_is _ _ _ (ap₂ ◌||◌ (length-same symbols _ (right ∙ size)) (length-wrong marks (checks b).n (λ i. h (i ∙ sym q)))))

      pub none-refused : marks ≡ n → 0 ≡ block_refusal b symbols marks
      none-refused h = sym (on ∙ first_on _ _ _ (buffers_right b symbols marks (right ∙ size) (h ∙ q)) ∙ first-end)

-- ---- where none applies

-- the record's own numbers are right: 1 to 3 and 13 do not apply
pub record Right (b : Block) : Type 0 where
  pub code : wrong_code b.code ≡ false
  pub width : wrong_width b.w ≡ false
  pub label : wrong_label b.protocol b.lsc ≡ false
  pub fill : wrong_fill (code_of b.code).k b.fill ≡ false

pub block_right : (b : Block) (symbols marks : ℕ) → block_refusal b symbols marks ≡ 0
    → Right b × (symbols ≡ (checks b).n * b.w) × (marks ≡ (checks b).n)
unfolding block_refusal wrong_buffers
block_right b symbols marks z =
    let a = parts_none (record_conditions b.code b.w b.protocol b.lsc b.fill) _ (sym (in_order _ refl) ∙ z) in
    let n = record_none b.code b.w b.protocol b.lsc b.fill a.0 in
    let l = or_false (wrong_length symbols ((checks b).n * b.w)) (wrong_length marks (checks b).n) (first-none refusal.length _ _ a.1).0 in
    (record { code = n.0; width = n.1; label = n.2; fill = n.3 }, length_right _ _ l.0, length_right _ _ l.1)

pub not-refused : (b : Block) (symbols marks : ℕ) → Right b → symbols ≡ (checks b).n * b.w → marks ≡ (checks b).n → block_refusal b symbols marks ≡ 0
unfolding block_refusal first_of first_in applies
not-refused b symbols marks r e f = rw (r.code, r.width, r.label, r.fill, buffers_right b symbols marks e f)
