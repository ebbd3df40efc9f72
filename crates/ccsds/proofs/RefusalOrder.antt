-- A call's conditions that are listed in the table's order are tried one after the other, and a list's parts likewise.
-- Assumes nothing.
use mathlib.Core.Path.{◌≡◌, refl, sym, ap, ◌∙◌}
use mathlib.Core.Bool.{Bool, true, false, cond, ◌||◌, ◌&&◌, not, false≢true}
use mathlib.Core.List.{List, [], ◌∷◌, ◌++◌}
use Prim.Native.Nat.{ℕ, zero, suc}
use native.Mathlib.Omega.{arith}
use lib.Dec.{eqb}
use borrow.Author.Tests.{eqb-true}
use Rattle.ccsds.specs.RefusalTable.{Refusal, number_of, order}
use Rattle.ccsds.specs.RefusalTable as refusal
use Rattle.ccsds.specs.declared.refusal.Refusal as Answer
use Rattle.ccsds.specs.declared.refusal.Refusal.TheVariants.{Code, Width, Label, Length, Header, Extension, Parameters, Foreign, Position, Symbol, Mark, Conflict, Fill, Idle, Narrow, Tiles, Overfull, Number, Kind}
use Rattle.ccsds.specs.Refusals.{Conditions, applies, first_in, first_of, refusal_number}

-- the number of the first condition that holds, in the sequence of the list
unfoldable pub chain : Conditions → ℕ
chain [] = 0
chain (c ∷ cs) = cond c.1 (number_of c.0) (chain cs)

-- ---- lists in the table's order

-- the list without the conditions of r that it begins with
abbrev pub past : Refusal → Conditions → Conditions
past r [] = []
past r (c ∷ cs) = cond (eqb (number_of c.0) (number_of r)) (past r cs) (c ∷ cs)

abbrev pub named : Conditions → Refusal → Bool
named [] r = false
named (c ∷ cs) r = cond (eqb (number_of c.0) (number_of r)) true (named cs r)

abbrev pub is_empty : Conditions → Bool
is_empty [] = true
is_empty (c ∷ cs) = false

-- the list names refusals of rs alone, in their order
abbrev pub sorted : List Refusal → Conditions → Bool
sorted [] cs = is_empty cs
sorted (r ∷ rs) cs = not (named (past r cs) r) && sorted rs (past r cs)

and_true : (a b : Bool) → a && b ≡ true → (a ≡ true) × (b ≡ true)
and_true true b e = (refl, e)
and_true false b e = absurd (false≢true e)

not-true : (a : Bool) → not a ≡ true → a ≡ false
not-true true e = absurd (false≢true e)
not-true false e = refl

not_named : (cs : Conditions) (r : Refusal) → named cs r ≡ false → applies cs r ≡ false
unfolding applies
not_named [] r e = refl
not_named (c ∷ cs) r e = go (eqb (number_of c.0) (number_of r)) e (not_named cs r)
  where
    go : (b : Bool) → cond b true (named cs r) ≡ false → (named cs r ≡ false → applies cs r ≡ false) → cond b (c.1 || applies cs r) (applies cs r) ≡ false
    go true e h = absurd (false≢true (sym e))
    go false e h = h e

-- a condition that does not hold can be left out
left_out : (rs : List Refusal) (s : Refusal) (cs : Conditions) → first_in rs ((s, false) ∷ cs) ≡ first_in rs cs
unfolding first_in applies
left_out [] s cs = refl
left_out (r ∷ rs) s cs = rw (same (eqb (number_of s) (number_of r)) (applies cs r), left_out rs s cs)
  where
    same : (b a : Bool) → cond b a a ≡ a
    same true a = refl
    same false a = refl

-- one refusal of the order, with what follows it
first_run : (r : Refusal) (rs : List Refusal) → ((ds : Conditions) → sorted rs ds ≡ true → first_in rs ds ≡ chain ds)
    → (cs : Conditions) → not (named (past r cs) r) && sorted rs (past r cs) ≡ true → cond (applies cs r) (number_of r) (first_in rs cs) ≡ chain cs
unfolding applies chain
first_run r rs h [] e = h [] e
first_run r rs h (c ∷ cs) e = go c.0 c.1 (eqb (number_of c.0) (number_of r)) refl e (first_run r rs h cs)
  where
    go : (s : Refusal) (t b : Bool) → eqb (number_of s) (number_of r) ≡ b
        → not (named (cond b (past r cs) ((s, t) ∷ cs)) r) && sorted rs (cond b (past r cs) ((s, t) ∷ cs)) ≡ true
        → (not (named (past r cs) r) && sorted rs (past r cs) ≡ true → cond (applies cs r) (number_of r) (first_in rs cs) ≡ chain cs)
        → cond (cond b (t || applies cs r) (applies cs r)) (number_of r) (first_in rs ((s, t) ∷ cs)) ≡ cond t (number_of s) (chain cs)
    go s true true q e k = sym (eqb-true _ _ q)
    go s false true q e k = ap (λ (n : ℕ). cond (applies cs r) (number_of r) n) (left_out rs s cs) ∙ k e
    go s t false q e k =
        let p = and_true (not (named ((s, t) ∷ cs) r)) (sorted rs ((s, t) ∷ cs)) e in
        let z : named cs r ≡ false = rw q at (not-true (named ((s, t) ∷ cs) r) p.0) in
        ap (λ (b : Bool). cond b (number_of r) (first_in rs ((s, t) ∷ cs))) (not_named cs r z) ∙ h ((s, t) ∷ cs) p.1

in_order_of : (rs : List Refusal) (cs : Conditions) → sorted rs cs ≡ true → first_in rs cs ≡ chain cs
unfolding first_in chain
in_order_of [] [] e = refl
in_order_of [] (c ∷ cs) e = absurd (false≢true e)
in_order_of (r ∷ rs) cs e = first_run r rs (in_order_of rs) cs e

pub in_order : (cs : Conditions) → sorted order cs ≡ true → first_of cs ≡ chain cs
unfolding first_of
in_order cs e = in_order_of order cs e

-- ---- one after the other

-- the number of a refusal, or the next where there is none
abbrev or_else : ℕ → ℕ → ℕ
or_else zero next = next
or_else (suc number) next = suc number

no_zero : (r : Refusal) → number_of r ≡ 0 → ⊥
no_zero refusal.code e = omega arith
no_zero refusal.width e = omega arith
no_zero refusal.label e = omega arith
no_zero refusal.fill e = omega arith
no_zero refusal.length e = omega arith
no_zero refusal.header e = omega arith
no_zero refusal.extension e = omega arith
no_zero refusal.number e = omega arith
no_zero refusal.kind e = omega arith
no_zero refusal.parameters e = omega arith
no_zero refusal.foreign e = omega arith
no_zero refusal.position e = omega arith
no_zero refusal.idle e = omega arith
no_zero refusal.symbol e = omega arith
no_zero refusal.mark e = omega arith
no_zero refusal.conflict e = omega arith

pub numbered : (r : Answer.Refusal) → refusal_number r ≡ 0 → ⊥
numbered Code e = omega arith
numbered Width e = omega arith
numbered Label e = omega arith
numbered Length e = omega arith
numbered Header e = omega arith
numbered Extension e = omega arith
numbered Parameters e = omega arith
numbered Foreign e = omega arith
numbered Position e = omega arith
numbered Symbol e = omega arith
numbered Mark e = omega arith
numbered Conflict e = omega arith
numbered Fill e = omega arith
numbered Idle e = omega arith
numbered Narrow e = omega arith
numbered Tiles e = omega arith
numbered Overfull e = omega arith
numbered Number e = omega arith
numbered Kind e = omega arith

or_else_lem : (n next : ℕ) → (n ≡ 0 → ⊥) → n ≡ or_else n next
or_else_lem zero next h = absurd (h refl)
or_else_lem (suc n) next h = refl

parts : (cs ds : Conditions) → chain (cs ++ ds) ≡ or_else (chain cs) (chain ds)
unfolding chain
parts [] ds = refl
parts (c ∷ cs) ds = go c.1 (parts cs ds)
  where
    go : (b : Bool) → chain (cs ++ ds) ≡ or_else (chain cs) (chain ds)
        → cond b (number_of c.0) (chain (cs ++ ds)) ≡ or_else (cond b (number_of c.0) (chain cs)) (chain ds)
    go true h = or_else_lem (number_of c.0) (chain ds) (no_zero c.0)
    go false h = h

-- by what a check of the first part answered: it refuses, or it doesn't
module _ (cs ds : Conditions) (one : sorted order cs ≡ true) (both : sorted order (cs ++ ds) ≡ true) (n : ℕ) (e : n ≡ first_of cs) where
  pub part_refuses : (n ≡ 0 → ⊥) → n ≡ first_of (cs ++ ds)
  part_refuses h = or_else_lem n (chain ds) h ∙ ap (λ (m : ℕ). or_else m (chain ds)) (e ∙ in_order cs one) ∙ sym (parts cs ds) ∙ sym (in_order (cs ++ ds) both)

  pub part-passed : n ≡ 0 → first_of (cs ++ ds) ≡ chain ds
  part-passed z = in_order (cs ++ ds) both ∙ parts cs ds ∙ ap (λ (m : ℕ). or_else m (chain ds)) (sym (in_order cs one) ∙ sym e ∙ z)

-- no part refuses
pub parts_none : (cs ds : Conditions) → chain (cs ++ ds) ≡ 0 → (chain cs ≡ 0) × (chain ds ≡ 0)
parts_none cs ds e = go (chain cs) refl (sym (parts cs ds) ∙ e)
  where
    go : (n : ℕ) → chain cs ≡ n → or_else n (chain ds) ≡ 0 → (chain cs ≡ 0) × (chain ds ≡ 0)
    go zero q f = (q, f)
    go (suc n) q f = absurd (omega arith)

-- the first condition applies
pub first_is : (r : Refusal) (b : Bool) (cs : Conditions) → b ≡ true → chain ((r, b) ∷ cs) ≡ number_of r
unfolding chain
first_is r b cs e = ap (λ (t : Bool). cond t (number_of r) (chain cs)) e

-- it doesn't
pub first_on : (r : Refusal) (b : Bool) (cs : Conditions) → b ≡ false → chain ((r, b) ∷ cs) ≡ chain cs
unfolding chain
first_on r b cs e = ap (λ (t : Bool). cond t (number_of r) (chain cs)) e

-- there is none
pub first-end : chain [] ≡ 0
unfolding chain
first-end = refl

-- none applies: not the first, and none after it
pub first-none : (r : Refusal) (b : Bool) (cs : Conditions) → chain ((r, b) ∷ cs) ≡ 0 → (b ≡ false) × (chain cs ≡ 0)
unfolding chain
first-none r true cs e = absurd (no_zero r e)
first-none r false cs e = (refl, e)
