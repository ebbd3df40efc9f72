-- What changes where one row of specs/Express.antt changes, and what a position depends on then.
-- Assumes nothing.
use mathlib.Core.Path.{◌≡◌, refl, sym, ap, ap₂, ◌∙◌}
use mathlib.Core.Logic.{inl, inr, ◌≢◌, ⊎_elim}
use mathlib.Core.Bool.{Bool, true, false, xor}
use mathlib.Core.List.{List}
use Prim.Native.Nat.{ℕ, ◌+◌, ◌-◌, ◌*◌, ◌/◌, ◌%◌, ◌^◌, ◌<◌, ◌≤◌}
use native.Mathlib.Omega.{arith}
use borrow.Author.Tests.{eq-eqb, ne_eqb}
use lib.Dec.{eqb}
use lib.ListN.{length, get_or, set, length-set}
use lib.Seq.{get_or-set_same, get_or-set_other}
use Rattle.algebra.specs.Sums.{◌⊕◌}
use Rattle.buffers.specs.Parts.{added}
use Rattle.buffers.proofs.Added.{added-length, added_out, added_in}
use Rattle.elimination.specs.Bits.{test_bit, row_bit}
use Rattle.elimination.specs.Reduced.{pivot_word}
use Rattle.elimination.proofs.Order.{lt_or_le, eq_or_ne}
use Rattle.elimination.proofs.Digits.{test_bit-xor, test_bit_pow}
use Rattle.elimination.proofs.ColumnLaws.{rows_beside}
use Rattle.pivot_equations.specs.Express.{depends_on, Reads, OnlyRow, Added, flip_row_bit}
use Rattle.pivot_equations.proofs.Dependence.{depends_none, depends_step, depends_pivot, depends_solved}

-- ---- tests

pub xor-false : (a : Bool) → xor a false ≡ a
unfolding xor
xor-false true = refl
xor-false false = refl

xor_assoc : (a b c : Bool) → xor (xor a b) c ≡ xor a (xor b c)
unfolding xor
xor_assoc true true true = refl
xor_assoc true true false = refl
xor_assoc true false true = refl
xor_assoc true false false = refl
xor_assoc false true true = refl
xor_assoc false true false = refl
xor_assoc false false true = refl
xor_assoc false false false = refl

-- ---- one row changes

module _ {l l' : List ℕ} {words t : ℕ} (only : OnlyRow l l' words t) where
  -- another row
  pub word_other : (r k : ℕ) → r ≢ t → k < words + 1 → get_or l' (r * (words + 1) + k) 0 ≡ get_or l (r * (words + 1) + k) 0
  word_other r k ne h =
      only.outside (r * (words + 1) + k)
      (⊎_elim (λ a. inl (omega arith)) (λ b. inr (omega arith)) (rows_beside r t (words + 1) (words + 1) ne (omega arith)).either)

  pub bit_other : (r i : ℕ) → r ≢ t → i < 64 * words → row_bit l' (r * (words + 1)) i ≡ row_bit l (r * (words + 1)) i
  unfolding row_bit
  bit_other r i ne h = ap (λ (x : ℕ). test_bit x (i % 64)) (word_other r (i / 64) ne (omega arith))

pub only_none : {l : List ℕ} {words t : ℕ} → OnlyRow l l words t
only_none = record { size = refl; outside = λ k h. refl }

pub only-more : {l l' l'' : List ℕ} {words t : ℕ} → OnlyRow l l' words t → OnlyRow l' l'' words t → OnlyRow l l'' words t
only-more a b = record { size = b.size ∙ a.size; outside = λ k h. b.outside k h ∙ a.outside k h }

-- row t has f added
pub record Changed (l l' : List ℕ) (words t : ℕ) (f : ℕ → Bool) : Type 0 where
  pub only : OnlyRow l l' words t
  pub bits : (i : ℕ) → i < 64 * words → row_bit l' (t * (words + 1)) i ≡ xor (row_bit l (t * (words + 1)) i) (f i)

pub changed_none : {l : List ℕ} {words t : ℕ} → Changed l l words t (λ i. false)
changed_none {l} {words} {t} = record { only = only_none; bits = λ i h. sym (xor-false (row_bit l (t * (words + 1)) i)) }

pub changed_more : {l l' l'' : List ℕ} {words t : ℕ} {f g : ℕ → Bool} → Changed l l' words t f → Changed l' l'' words t g → Changed l l'' words t (λ i. xor (f i) (g i))
changed_more {l} {words} {t} {f} {g} a b = record {
  only = only-more a.only b.only;
  bits = λ i h. b.bits i h ∙ ap (λ (x : Bool). xor x (g i)) (a.bits i h) ∙ xor_assoc (row_bit l (t * (words + 1)) i) (f i) (g i);
}

-- another row is added
pub row-added : (l : List ℕ) (words t r : ℕ) → t * (words + 1) + (words + 1) ≤ length l
    → Changed l (added l (t * (words + 1)) l (r * (words + 1)) words) words t (row_bit l (r * (words + 1)))
unfolding row_bit
row-added l words t r fit = record {
  only = record {
    size = added-length l (t * (words + 1)) l (r * (words + 1)) words;
    outside = λ k h. added_out l (t * (words + 1)) l (r * (words + 1)) words k (λ b g e. ⊎_elim (λ lo. omega arith) (λ hi. omega arith) h);
  };
  bits = λ i h.
      ap (λ (x : ℕ). test_bit x (i % 64)) (added_in l (t * (words + 1)) l (r * (words + 1)) words (i / 64) (omega arith) (omega arith))
      ∙ test_bit-xor (get_or l (t * (words + 1) + i / 64) 0) (get_or l (r * (words + 1) + i / 64) 0) (i % 64);
}

-- an unknown is flipped
module _ (l : List ℕ) (base u : ℕ) where
  flip_else : (k : ℕ) → k ≢ base + u / 64 → get_or (flip_row_bit l base u) k 0 ≡ get_or l k 0
  unfolding flip_row_bit
  flip_else k ne = get_or-set_other l (base + u / 64) k _ 0 ne

  pub length_flip : length (flip_row_bit l base u) ≡ length l
  unfolding flip_row_bit
  length_flip = simp length-set

  flip_here : base + u / 64 < length l → (i : ℕ) → i / 64 ≡ u / 64 → row_bit (flip_row_bit l base u) base i ≡ xor (row_bit l base i) (eqb (i % 64) (u % 64))
  unfolding row_bit flip_row_bit
  flip_here fit i e =
      ap (λ (x : ℕ). test_bit (get_or (set l (base + u / 64) (get_or l (base + u / 64) 0 ⊕ 2 ^ (u % 64))) (base + x) 0) (i % 64)) e
      ∙ ap (λ (x : ℕ). test_bit x (i % 64)) (get_or-set_same l (base + u / 64) _ 0 fit)
      ∙ test_bit-xor (get_or l (base + u / 64) 0) (2 ^ (u % 64)) (i % 64)
      ∙ ap₂ (λ (x : ℕ) (b : Bool). xor (test_bit (get_or l (base + x) 0) (i % 64)) b) (sym e) (test_bit_pow (u % 64) (i % 64))

  flip_bit : base + u / 64 < length l → (i : ℕ) → row_bit (flip_row_bit l base u) base i ≡ xor (row_bit l base i) (eqb i u)
  unfolding row_bit
  flip_bit fit i = ⊎_elim (λ e. flip_here fit i e ∙ ap (xor (row_bit l base i)) (same e)) other (eq_or_ne (i / 64) (u / 64))
    where
      same : i / 64 ≡ u / 64 → eqb (i % 64) (u % 64) ≡ eqb i u
      same e =
          ⊎_elim (λ s. eq-eqb (i % 64) (u % 64) (ap (λ (x : ℕ). x % 64) s) ∙ sym (eq-eqb i u s)) (λ ne. ne_eqb (i % 64) (u % 64) (λ s. ne (omega arith)) ∙ sym (ne_eqb i u ne))
          (eq_or_ne i u)

      other : (i / 64 ≡ u / 64 → ⊥) → row_bit (flip_row_bit l base u) base i ≡ xor (row_bit l base i) (eqb i u)
      other ne =
          ap (λ (x : ℕ). test_bit x (i % 64)) (flip_else (base + i / 64) (λ e. ne (omega arith))) ∙ sym (xor-false (row_bit l base i))
          ∙ ap (xor (row_bit l base i)) (sym (ne_eqb i u (λ s. ne (ap (λ (x : ℕ). x / 64) s))))

pub row_flipped : (l : List ℕ) (words t u : ℕ) → t * (words + 1) + (words + 1) ≤ length l → u < 64 * words
    → Changed l (flip_row_bit l (t * (words + 1)) u) words t (λ i. eqb i u)
row_flipped l words t u fit h = record {
  only = record {
    size = length_flip l (t * (words + 1)) u;
    outside = λ k o. flip_else l (t * (words + 1)) u k (λ e. ⊎_elim (λ lo. omega arith) (λ hi. omega arith) o);
  };
  bits = λ i g. flip_bit l (t * (words + 1)) u (omega arith) i;
}

-- ---- what a position of a kind depends on

-- row t has a position of a kind added
pub added-kind : {l l' : List ℕ} {words early t kind : ℕ} {f : ℕ → Bool} → Changed l l' words t f → ((i : ℕ) → depends_on l words early kind i ≡ f i)
    → Added l l' words early t kind
added-kind {l} {words} {t} a same = record {
  only = a.only;
  bits = λ i h. a.bits i h ∙ ap (xor (row_bit l (t * (words + 1)) i)) (sym (same i));
}

module _ (l : List ℕ) {l' : List ℕ} (words early rows t kind : ℕ) (fit : t * (words + 1) + (words + 1) ≤ length l) (r : Reads l words early rows t kind) where
  pub add_step : early < kind → kind ≤ 1024 → l' ≡ added l (t * (words + 1)) l ((kind - 1) * (words + 1)) words → Added l l' words early t kind
  add_step h g e = rw e (added-kind (row-added l words t (kind - 1) fit) (λ i. depends_step l words early kind i h g))

  pub add_pivot : early < kind → 1024 < kind → kind ≤ 4096 → l' ≡ flip_row_bit l (t * (words + 1)) (kind - 1025) → Added l l' words early t kind
  add_pivot h g k e = rw e (added-kind (row_flipped l words t (kind - 1025) fit (r.pivot g k)) (λ i. depends_pivot l words early kind i (kind - 1025) h (omega arith) (omega arith)))

  pub add_solved : {l'' : List ℕ} → early < kind → 4096 < kind → l'' ≡ added l (t * (words + 1)) l ((kind - 4097) * (words + 1)) words
      → l' ≡ flip_row_bit l'' (t * (words + 1)) (pivot_word l words (kind - 4097) - 1) → Added l l' words early t kind
  add_solved {l''} h k e f =
      let one : Changed l l'' words t (row_bit l ((kind - 4097) * (words + 1))) = rw e (row-added l words t (kind - 4097) fit) in
      let n : length l'' ≡ length l = one.only.size in
      let s = (r.solved k).1.1 in
      let two : Changed l'' l' words t (λ i. eqb i (pivot_word l words (kind - 4097) - 1)) =
      rw f (row_flipped l'' words t (pivot_word l words (kind - 4097) - 1) (omega arith) (omega arith)) in
      added-kind (changed_more one two) (λ i. depends_solved l words early kind i (kind - 4097) (pivot_word l words (kind - 4097) - 1) h (omega arith) refl)

pub add_none : {l : List ℕ} {words early t kind : ℕ} → kind ≤ early → Added l l words early t kind
add_none {l} {words} {early} {kind} h = added-kind changed_none (λ i. depends_none l words early kind i h)

-- where row t is not read, its changes change nothing
module _ {l l' : List ℕ} {words early rows t kind : ℕ} (only : OnlyRow l l' words t) (r : Reads l words early rows t kind) where
  same_word : 4096 < kind → pivot_word l' words (kind - 4097) ≡ pivot_word l words (kind - 4097)
  same_word h = word_other only (kind - 4097) words (r.solved h).0 (omega arith)

  pub reads_same : Reads l' words early rows t kind
  reads_same = record {
    step = r.step;
    pivot = r.pivot;
    solved = λ h. let s = r.solved h in (s.0, (s.1.0, rw (same_word h) s.1.1));
  }

  pub depends_same : (i : ℕ) → i < 64 * words → depends_on l' words early kind i ≡ depends_on l words early kind i
  depends_same i h =
      ⊎_elim (λ some. ⊎_elim (high some) (low some) (lt_or_le 1024 kind))
      (λ none. depends_none l' words early kind i none ∙ sym (depends_none l words early kind i none)) (lt_or_le early kind)
    where
      low : early < kind → kind ≤ 1024 → depends_on l' words early kind i ≡ depends_on l words early kind i
      low some g =
          depends_step l' words early kind i some g ∙ bit_other only (kind - 1) i (r.step some g).0 h
          ∙ sym (depends_step l words early kind i some g)

      high : early < kind → 1024 < kind → depends_on l' words early kind i ≡ depends_on l words early kind i
      high some g =
          ⊎_elim
          (λ s. depends_solved l' words early kind i (kind - 4097) (pivot_word l words (kind - 4097) - 1) some (omega arith) (ap (λ (x : ℕ). x - 1) (sym (same_word s)))
          ∙ ap (λ (b : Bool). xor b (eqb i (pivot_word l words (kind - 4097) - 1))) (bit_other only (kind - 4097) i (r.solved s).0 h)
          ∙ sym (depends_solved l words early kind i (kind - 4097) (pivot_word l words (kind - 4097) - 1) some (omega arith) refl))
          (λ u. depends_pivot l' words early kind i (kind - 1025) some (omega arith) (omega arith)
          ∙ sym (depends_pivot l words early kind i (kind - 1025) some (omega arith) (omega arith))) (lt_or_le 4096 kind)
