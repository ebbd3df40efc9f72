-- Conditions that are tried as they are listed, and a list's parts likewise.
-- Assumes nothing.
use mathlib.Core.Path.{◌≡◌, refl, sym, ◌∙◌, ap}
use mathlib.Core.Bool.{Bool, true, false, cond, false≢true}
use mathlib.Core.List.{[], ◌∷◌, ◌++◌}
use Prim.Native.Nat.{ℕ, zero, suc}
use native.Mathlib.Omega.{arith}
use lib.Dec.{eqb}
use Rattle.ccsds.specs.RefusalTable.{number_of}
use Rattle.ccsds.specs.RefusalTable as refusal
use Rattle.ccsds.specs.Refusals.{first_of, code_conditions, wrong_code, wrong_width}
use Rattle.ccsds.proofs.RefusalOrder.{chain, in_order}
use Rattle.tiles.specs.PackRefusals.{Numbered, first_listed}

-- no refusal of the list has the number 0
abbrev pub none_zero : Numbered → Bool
none_zero [] = true
none_zero (c ∷ cs) = cond (eqb c.0 0) false (none_zero cs)

-- ---- one after the other

-- the first condition applies
pub first_is : (n : ℕ) (b : Bool) (cs : Numbered) → b ≡ true → first_listed ((n, b) ∷ cs) ≡ n
unfolding first_listed
first_is n b cs e = ap (λ (t : Bool). cond t n (first_listed cs)) e

-- it doesn't
pub first_on : (n : ℕ) (b : Bool) (cs : Numbered) → b ≡ false → first_listed ((n, b) ∷ cs) ≡ first_listed cs
unfolding first_listed
first_on n b cs e = ap (λ (t : Bool). cond t n (first_listed cs)) e

-- there is none
pub first-end : first_listed [] ≡ 0
unfolding first_listed
first-end = refl

-- none applies: not the first, and none after it
pub first-none : (n : ℕ) (b : Bool) (cs : Numbered) → eqb n 0 ≡ false → first_listed ((n, b) ∷ cs) ≡ 0 → (b ≡ false) × (first_listed cs ≡ 0)
unfolding first_listed
first-none n true cs z e = absurd (false≢true (sym z ∙ ap (λ (m : ℕ). eqb m 0) e))
first-none n false cs z e = (refl, e)

-- ---- a list's parts

refuses : (cs ds : Numbered) → (first_listed cs ≡ 0 → ⊥) → first_listed cs ≡ first_listed (cs ++ ds)
unfolding first_listed
refuses [] ds h = absurd (h refl)
refuses (c ∷ cs) ds h = go c.1 h (refuses cs ds)
  where
    go : (b : Bool) → (cond b c.0 (first_listed cs) ≡ 0 → ⊥) → ((first_listed cs ≡ 0 → ⊥) → first_listed cs ≡ first_listed (cs ++ ds))
        → cond b c.0 (first_listed cs) ≡ cond b c.0 (first_listed (cs ++ ds))
    go true h k = refl
    go false h k = k h

passes : (cs ds : Numbered) → none_zero cs ≡ true → first_listed cs ≡ 0 → first_listed (cs ++ ds) ≡ first_listed ds
unfolding first_listed
passes [] ds z e = refl
passes (c ∷ cs) ds z e = go (eqb c.0 0) refl c.1 z e (passes cs ds)
  where
    go : (a : Bool) → eqb c.0 0 ≡ a → (b : Bool) → cond a false (none_zero cs) ≡ true → cond b c.0 (first_listed cs) ≡ 0
        → (none_zero cs ≡ true → first_listed cs ≡ 0 → first_listed (cs ++ ds) ≡ first_listed ds) → cond b c.0 (first_listed (cs ++ ds)) ≡ first_listed ds
    go true q b z e k = absurd (false≢true z)
    go false q true z e k = absurd (false≢true (sym q ∙ ap (λ (n : ℕ). eqb n 0) e))
    go false q false z e k = k z e

-- by what a check of the first part answered: it refuses, or it doesn't
module _ (cs ds : Numbered) (n : ℕ) (e : n ≡ first_listed cs) where
  pub part_refuses : (n ≡ 0 → ⊥) → n ≡ first_listed (cs ++ ds)
  part_refuses h = e ∙ refuses cs ds (λ z. h (e ∙ z))

  pub part-passed : none_zero cs ≡ true → n ≡ 0 → first_listed (cs ++ ds) ≡ first_listed ds
  part-passed s z = passes cs ds s (sym e ∙ z)

-- no part refuses
pub parts_none : (cs ds : Numbered) → none_zero cs ≡ true → first_listed (cs ++ ds) ≡ 0 → (first_listed cs ≡ 0) × (first_listed ds ≡ 0)
parts_none cs ds s e = go (first_listed cs) refl
  where
    go : (n : ℕ) → first_listed cs ≡ n → (first_listed cs ≡ 0) × (first_listed ds ≡ 0)
    go zero q = (q, sym (passes cs ds s q) ∙ e)
    go (suc n) q = let r = refuses cs ds (λ z. omega arith) in absurd (omega arith)

-- ---- the part of the code and the width

-- its conditions
abbrev pub code_part : ℕ → ℕ → Numbered
code_part number w = (number_of refusal.code, wrong_code number) ∷ (number_of refusal.width, wrong_width w) ∷ []

-- they stand as in the table
pub code-listed : (number w : ℕ) → first_of (code_conditions number w) ≡ first_listed (code_part number w)
unfolding chain first_listed
code-listed number w = in_order _ refl
