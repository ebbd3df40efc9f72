-- The block whose every missing position a step settles, with no pivot: each codeword that agrees has the symbols found, and these agree just when
-- the check rows that no step used add up to zero.
-- Assumes nothing.
use mathlib.Core.Path.{◌≡◌, sym, ap₂, ◌∙◌, subst}
use mathlib.Core.Logic.{◌⊎◌, inl, inr}
use mathlib.Core.Bool.{true, false}
use mathlib.Core.List.{List}
use Prim.Native.Nat.{ℕ, ◌<◌}
use native.Mathlib.Omega.{arith}
use lib.ListN.{get_or}
use Rattle.algebra.specs.Sums.{◌⊕◌, sum}
use Rattle.algebra.specs.Codeword.{Checks, byte_at, row_sum}
use Rattle.algebra.specs.Unique.{Some, Common}
use Rattle.decoder.specs.Outcome.{AgreesWith}
use Rattle.algebra.proofs.Sums.{unit, self, eq_of_add, sum_ext}
use Rattle.peeling.specs.Plan.{Arrays, Plan, Closed, row_of, used_by}
use Rattle.peeling.specs.Values.{Values, HoldIs}
use Rattle.decoder.proofs.Triangle.{vanishes, plan_triangular, sum_add}

module _ (c : Checks) (w : ℕ) (block states : List ℕ) (plan : Arrays) (symbols : List ℕ) (early steps pivots : ℕ) (none : pivots ≡ 0)
    (P : Plan c states plan early steps pivots) (closed : Closed c plan) (L : Values c w block states plan symbols steps pivots) where
  -- the rows of the steps settle all that is missing
  pub steps-only-same : (x : List ℕ) → AgreesWith c w block states x → (p b : ℕ) → p < c.n → b < w → byte_at w x b p ≡ byte_at w symbols b p
  unfolding row_sum
  steps-only-same x a p b h l =
      eq_of_add (byte_at w x b p) (byte_at w symbols b p)
      (vanishes (plan_triangular P closed) (λ q. byte_at w x b q ⊕ byte_at w symbols b q)
      (λ q g e. ap₂ ◌⊕◌ (a.same q g e b l) (L.known-byte q b g l e) ∙ self (byte_at w block b q))
      (λ u g. absurd (omega arith))
      (λ t g. sum_add (c.has (row_of plan t)) (byte_at w x b) (byte_at w symbols b) c.n
      ∙ ap₂ ◌⊕◌ (a.rows (row_of plan t) (P.step t g).row b l) (L.holds t b g l) ∙ unit 0)
      p h)

  pub steps-only-common : (i : ℕ) → i < c.n → Common w (AgreesWith c w block states) i
  steps-only-common i h x y ax ay b l = steps-only-same x ax i b h l ∙ sym (steps-only-same y ay i b h l)

  pub steps-only-agrees : ((t : ℕ) → get_or symbols t 0 < 256) → HoldIs c w plan symbols true → AgreesWith c w block states symbols
  unfolding row_sum
  steps-only-agrees bs hold = record {
    size = L.size;
    bytes = bs;
    rows = λ j h b l. go j h b l (P.used j h);
    same = λ i h e b l. L.known-byte i b h l e;
  }
    where
      go : (j : ℕ) → j < c.m → (b : ℕ) → b < w → (used_by plan j ≡ 0) ⊎ ((t : ℕ) × ((t < steps) × (row_of plan t ≡ j)))
          → sum (c.has j) (byte_at w symbols b) c.n ≡ 0
      go j h b l (inl e) = hold j b h e l
      go j h b l (inr f) = subst (λ (k : ℕ). sum (c.has k) (byte_at w symbols b) c.n ≡ 0) f.1.1 (L.holds f.0 b f.1.0 l)

  pub steps-only_refuted : HoldIs c w plan symbols false → ¬ Some (AgreesWith c w block states)
  unfolding row_sum
  steps-only_refuted (j, (b, (h, (e, (l, d))))) (x, a) =
      d (sum_ext (c.has j) (byte_at w symbols b) (byte_at w x b) c.n (λ p g. sym (steps-only-same x a p b g l)) ∙ a.rows j h b l)
