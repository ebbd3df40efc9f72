-- Marks: how many are v, and whether one is wrong.
-- Assumes nothing.
use mathlib.Core.Path.{◌≡◌, refl, sym, ap, ap₂, ◌∙◌, subst}
use mathlib.Core.Bool.{Bool, true, false, ◌||◌, cond}
use mathlib.Core.List.{List, [], ◌∷◌, ◌++◌}
use Prim.Native.Nat.{ℕ, zero, suc, ◌+◌, ◌-◌, ◌≤◌, ◌<◌}
use native.Mathlib.Numerals.{add-one}
use native.Mathlib.Omega.{arith}
use lib.ListN.{length, get_or, take, drop, replicate, length-drop}
use lib.Seq.{take_all, drop-cons, drop-length, length-take-le, get_or-take, get_or-drop}
use lib.Dec.{eqb}
use borrow.Author.Tests.{le-ltb, eq-eqb, ne_eqb}
use Rattle.std.specs.List.{fold}
use Rattle.algebra.specs.Lists.{count}
use Rattle.algebra.proofs.Counts.{count_all}
use Rattle.block.specs.Status.{wrong_mark}
use Rattle.closing.specs.Close.{wrong_marks, sent_marks}
use Rattle.closing.specs.inner.Idle.{IdleIn}
use Rattle.block.specs.declared.Block.{Block}
use Rattle.closing.proofs.Idle.{part_set}

-- ---- counts of two lists, and of the positions that are sent

count_append : (v : ℕ) (x y : List ℕ) → count v (x ++ y) ≡ count v x + count v y
unfolding count
count_append v [] y = omega arith
count_append v (a ∷ x) y = go (eqb a v) (count_append v x y)
  where
    go : (t : Bool) → count v (x ++ y) ≡ count v x + count v y
        → cond t (suc (count v (x ++ y))) (count v (x ++ y)) ≡ cond t (suc (count v x)) (count v x) + count v y
    go true e = omega arith
    go false e = e

count-others : (v a : ℕ) → eqb a v ≡ false → (n : ℕ) → count v (replicate n a) ≡ 0
unfolding count
count-others v a e zero = refl
count-others v a e (suc n) = rw e (count-others v a e n)

module _ {b : Block} {k : ℕ} (marks : List ℕ) (I : IdleIn b k (length marks)) where
  sent_are : sent_marks b marks ≡ take b.fill marks ++ drop k marks
  unfolding sent_marks
  sent_are = ap (λ (n : ℕ). take b.fill marks ++ drop n marks) (sym I.information)

  sent_count : (v : ℕ) → count v (sent_marks b marks) ≡ count v (take b.fill marks) + count v (drop k marks)
  sent_count v = ap (count v) sent_are ∙ count_append v (take b.fill marks) (drop k marks)

  -- by the counts of the two parts, as the code has them
  pub sent_counted : (v : ℕ) {x y : ℕ} → x ≡ count v (take b.fill marks) → y ≡ count v (take (length marks - k) (drop k marks))
      → x + y ≡ count v (sent_marks b marks)
  sent_counted v p q =
      ap₂ ◌+◌ p (q ∙ ap (count v) (take_all (length marks - k) (drop k marks) (omega (arith, length-drop k marks)))) ∙ sym (sent_count v)

  -- with other marks at the idle positions
  pub idle-count : (v a : ℕ) → eqb a v ≡ false → count v (part_set marks b.fill k a) ≡ count v (sent_marks b marks)
  idle-count v a e =
      count_append v (take b.fill marks ++ replicate (k - b.fill) a) (drop k marks)
      ∙ omega (arith, count_append v (take b.fill marks) (replicate (k - b.fill) a), count-others v a e (k - b.fill), sent_count v)

  -- where no mark is above 2, those sent are all heard, filled or left
  pub sent_all : ((i : ℕ) → i < length marks → get_or marks i 0 ≤ 2)
      → count 1 (sent_marks b marks) + count 2 (sent_marks b marks) + count 0 (sent_marks b marks) ≡ b.fill + (length marks - k)
  sent_all h =
      let f : length (take b.fill marks) ≡ b.fill = length-take-le b.fill marks (omega (arith, I.fill, I.within)) in
      let p = count_all (take b.fill marks) (λ i g.
      subst (λ (v : ℕ). v ≤ 2) (sym (get_or-take b.fill marks i 0 (omega arith))) (h i (omega (arith, I.fill, I.within)))) in
      let q = count_all (drop k marks) (λ i g.
      subst (λ (v : ℕ). v ≤ 2) (sym (get_or-drop k marks i 0)) (h (k + i) (omega (arith, length-drop k marks)))) in
      omega (arith, p, q, length-drop k marks, sent_count 0, sent_count 1, sent_count 2)

-- ---- one after the other

module _ (l : List ℕ) where
  -- past the end there is none
  pub count-end : (v i n : ℕ) → i ≡ length l → n + count v (drop i l) ≡ count v l → n ≡ count v l
  unfolding count
  count-end v i n h e =
      let z : count v (drop i l) ≡ 0 = ap (λ (j : ℕ). count v (drop j l)) h ∙ ap (count v) (drop-length l) in
      omega arith

  module _ (i : ℕ) (h : i < length l) where
    one_off : drop i l ≡ get_or l i 0 ∷ drop (i + 1) l
    one_off = rw (add-one, drop-cons l i 0)

    -- one that is v, and one that is not
    pub count-one : (v n n' : ℕ) → get_or l i 0 ≡ v → n' ≡ n + 1 → n + count v (drop i l) ≡ count v l → n' + count v (drop (i + 1) l) ≡ count v l
    unfolding count
    count-one v n n' q f e =
        let z : count v (drop i l) ≡ suc (count v (drop (i + 1) l)) = ap (count v) one_off ∙ rw (eq-eqb (get_or l i 0) v q) in
        omega arith

    pub count_other : (v n n' : ℕ) → (get_or l i 0 ≡ v → ⊥) → n' ≡ n → n + count v (drop i l) ≡ count v l → n' + count v (drop (i + 1) l) ≡ count v l
    unfolding count
    count_other v n n' q f e =
        let z : count v (drop i l) ≡ count v (drop (i + 1) l) = ap (count v) one_off ∙ rw (ne_eqb (get_or l i 0) v q) in
        omega arith

-- a wrong one so far, or one still to come
pub wrong_fold : (t : Bool) (l : List ℕ) → fold (λ (wrong : Bool) (mark : ℕ). wrong || wrong_mark mark) t l ≡ t || wrong_marks l
unfolding wrong_marks
wrong_fold true [] = refl
wrong_fold false [] = refl
wrong_fold true (mark ∷ l) = wrong_fold true l
wrong_fold false (mark ∷ l) = wrong_fold (wrong_mark mark) l

-- no mark is wrong
pub marks_right : (l : List ℕ) → ((i : ℕ) → get_or l i 0 ≤ 2) → wrong_marks l ≡ false
unfolding wrong_marks wrong_mark
marks_right [] h = refl
marks_right (mark ∷ l) h = rw (le-ltb 2 mark (h zero), marks_right l (λ i. h (suc i)))
