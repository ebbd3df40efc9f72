-- Filling a block's missing positions one after the other.
-- Assumes nothing.
use mathlib.Core.Path.{◌≡◌, refl, sym, ap, ◌∙◌}
use mathlib.Core.Logic.{inl, inr, ⊎_elim}
use mathlib.Core.Bool.{true, false, cond, false≢true}
use mathlib.Core.List.{List}
use Prim.Native.Nat.{ℕ, ◌+◌, ◌*◌, ◌≤◌, ◌<◌}
use native.Mathlib.Omega.{arith}
use lib.Dec.{eqb}
use lib.ListN.{length, get_or, set}
use lib.Seq.{get_or-set_same, get_or-set_other}
use Rattle.peeling.specs.States.{is_known}
use Rattle.elimination.proofs.Order.{eq_or_ne}
use Rattle.peeling.specs.Plan.{Arrays, kind_of}
use Rattle.pivot_equations.specs.declared.rows.Rows.{Rows}
use Rattle.decoder.specs.Pivots.{DeterminedIs}
use Rattle.decoder.specs.MissingPositions.{Untouched, FilledAt, FilledOne}
use Rattle.peeling.proofs.Zeroing.{zeros_at}
use Rattle.peeling.proofs.SymbolLaws.{replaced_other, zero-symbol}

-- ---- states only: states k of which the first i are filled

pub record MarksTo (states k : List ℕ) (i : ℕ) : Type 0 where
  pub done : (p : ℕ) → p < i → get_or k p 0 ≡ cond (is_known states p) 1 2
  pub rest : (p : ℕ) → i ≤ p → get_or k p 0 ≡ get_or states p 0

pub states-more : (states k : List ℕ) (i v : ℕ) → i < length k → v ≡ cond (eqb (get_or k i 0) 1) 1 2 → MarksTo states k i → MarksTo states (set k i v) (i + 1)
unfolding is_known
states-more states k i v h e M = record {
  done = λ p l. ⊎_elim
      (λ f. rw f (get_or-set_same k i v 0 h ∙ e ∙ ap (λ (x : ℕ). cond (eqb x 1) 1 2) (M.rest i (omega arith))))
      (λ ne. get_or-set_other k i p v 0 ne ∙ M.done p (omega arith)) (eq_or_ne p i);
  rest = λ p l. get_or-set_other k i p v 0 (λ f. omega arith) ∙ M.rest p (omega arith);
}

-- ---- states and symbols

module _ {w : ℕ} {s states x k x' k' : List ℕ} {i : ℕ} where
  pub untouched_join : Untouched w s states x k i → Untouched w x k x' k' i → Untouched w s states x' k' i
  untouched_join f g = record { state = g.state ∙ f.state; bytes = λ b h. g.bytes b h ∙ f.bytes b h }

pub same_known : {w : ℕ} {s states x k : List ℕ} {p : ℕ} → Untouched w s states x k p → is_known k p ≡ is_known states p
unfolding is_known
same_known f = ap (λ (v : ℕ). eqb v 1) f.state

module _ (w early words : ℕ) (l : List ℕ) (plan : Arrays) (s states x k x' k' : List ℕ) where
  -- before it, position p was as at first
  from_first : (p : ℕ) → Untouched w s states x k p → FilledAt w early words l plan x k x' k' p → FilledAt w early words l plan s states x' k' p
  from_first p f g = record {
    known = λ h. untouched_join f (g.known (same_known f ∙ h));
    missing = λ h. ⊎_elim
        (λ t. inl (record { determined = t.determined; state = t.state; bytes = λ b q. t.bytes b q ∙ f.bytes b q }))
        (λ t. inr t) (g.missing (same_known f ∙ h));
  }

  -- after it, position p stays as it is
  to_last : (p : ℕ) → Untouched w x k x' k' p → FilledAt w early words l plan s states x k p → FilledAt w early words l plan s states x' k' p
  to_last p f g = record {
    known = λ h. untouched_join (g.known h) f;
    missing = λ h. ⊎_elim
        (λ t. inl (record { determined = t.determined; state = f.state ∙ t.state; bytes = λ b q. f.bytes b q ∙ t.bytes b q }))
        (λ t. inr (record {
          determined = t.determined;
          leaves = record { state = f.state ∙ t.leaves.state; bytes = λ b q. f.bytes b q ∙ t.leaves.bytes b q };
        })) (g.missing h);
  }

-- the first i positions are filled, and the others as they were
pub record FilledTo (w early words : ℕ) (l : List ℕ) (plan : Arrays) (s states x k : List ℕ) (i : ℕ) : Type 0 where
  pub done : (p : ℕ) → p < i → FilledAt w early words l plan s states x k p
  pub rest : (p : ℕ) → i ≤ p → Untouched w s states x k p

pub filled_none : (w early words : ℕ) (l : List ℕ) (plan : Arrays) (s states : List ℕ) → FilledTo w early words l plan s states s states 0
filled_none w early words l plan s states = record { done = λ p h. absurd (omega arith); rest = λ p h. record { state = refl; bytes = λ b q. refl } }

pub filled_more : (w : ℕ) (r : Rows) (l : List ℕ) (plan : Arrays) (s states x k x' k' : List ℕ) (i : ℕ) → FilledTo w r.early r.packed l plan s states x k i
    → FilledOne w r l plan x k x' k' i → FilledTo w r.early r.packed l plan s states x' k' (i + 1)
filled_more w r l plan s states x k x' k' i F O = record {
  done = λ p h. ⊎_elim
      (λ e. rw e (from_first w r.early r.packed l plan s states x k x' k' i (F.rest i (omega arith)) O.at))
      (λ ne. to_last w r.early r.packed l plan s states x k x' k' p (O.others p ne) (F.done p (omega arith))) (eq_or_ne p i);
  rest = λ p h. untouched_join (F.rest p (omega arith)) (O.others p (λ e. omega arith));
}

-- ---- one position, as the code has it

module _ (w : ℕ) (r : Rows) (l : List ℕ) (plan : Arrays) (s states : List ℕ) (p : ℕ) where
  pub one_known : is_known states p ≡ true → FilledOne w r l plan s states s states p
  one_known t = record {
    at = record { known = λ h. same p; missing = λ h. absurd (false≢true (sym h ∙ t)) };
    others = λ i ne. same i;
  }
    where
      same : (i : ℕ) → Untouched w s states s states i
      same i = record { state = refl; bytes = λ b q. refl }

  module _ (t : is_known states p ≡ false) (h : p < length states) where
    pub one-determined : DeterminedIs l r.packed r.early (kind_of plan p) true → FilledOne w r l plan s states s (set states p 2) p
    one-determined d = record {
      at = record {
        known = λ e. absurd (false≢true (sym t ∙ e));
        missing = λ e. inl (record { determined = d; state = get_or-set_same states p 2 0 h; bytes = λ b q. refl });
      };
      others = λ i ne. record { state = get_or-set_other states p i 2 0 ne; bytes = λ b q. refl };
    }

    pub one_left : p * w + w ≤ length s → DeterminedIs l r.packed r.early (kind_of plan p) false → (x k : List ℕ)
        → x ≡ cond (is_known states p) s (zeros_at s (p * w) w) → k ≡ cond (is_known states p) states (set states p 0) → FilledOne w r l plan s states x k p
    one_left fit d x k ex ek = rw (ex, ek, t) (record {
      at = record {
        known = λ e. absurd (false≢true (sym t ∙ e));
        missing = λ e. inr (record { determined = d; leaves = record { state = get_or-set_same states p 0 0 h; bytes = (zero-symbol s p w fit).each } });
      };
      others = λ i ne. record { state = get_or-set_other states p i 0 0 ne; bytes = λ b q. replaced_other (zero-symbol s p w fit) i b ne q };
    })
