-- The sums of the check rows that no step used: whether they are zero, and where they stand.
-- Assumes nothing.
use mathlib.Core.Path.{◌≡◌, refl, sym, ap, ◌∙◌}
use mathlib.Core.Logic.{◌≢◌, inl}
use mathlib.Core.Bool.{Bool, true, false, not, false≢true}
use mathlib.Core.List.{List}
use Prim.Native.Nat.{ℕ, ◌+◌, ◌*◌, ◌<◌, ◌≤◌}
use native.Mathlib.Nat.{not-suc-le-zero}
use native.Mathlib.Decide.{dec_lt}
use native.Mathlib.Omega.{arith}
use lib.ListN.{length, get_or, take}
use Rattle.algebra.specs.Sums.{◌⊕◌}
use Rattle.algebra.specs.Codeword.{Checks, byte_at}
use Rattle.algebra.proofs.Sums.{unit_l}
use Rattle.algebra.proofs.Codeword.{slot}
use Rattle.symbol_sums.specs.Gather.{gathered, Replaced, CancelIs, byte_before}
use Rattle.symbol_sums.proofs.Fronts.{gathered_front}
use Rattle.peeling.proofs.PlanLaws.{used_as}
use Rattle.std.specs.Prelude.{None}
use Rattle.encoder.specs.inner.Positions.{RowOf}
use Rattle.peeling.specs.Plan.{Arrays, used_by, unused_below}
use Rattle.peeling.specs.Values.{row_sum, HoldIs, Sides}
use Rattle.pivot_equations.specs.Unused.{SidesTo}
use Rattle.peeling.proofs.UnusedRows.{unused-none, unused-one, unused_le, unused-below}

-- whether a step used check row j, as the plan holds it
pub is_unused : (plan : Arrays) (j : ℕ) → get_or plan.used j false ≡ false → used_by plan j ≡ 0
is_unused plan j e = used_as plan j false e

pub is_used : (plan : Arrays) (j : ℕ) → get_or plan.used j false ≡ true → used_by plan j ≢ 0
is_used plan j e z = omega (arith, used_as plan j true e, z)

-- ---- whether they are zero

-- a row's sum, from its positions
sum_is : {c : Checks} {j n : ℕ} {xs : List ℕ} (w : ℕ) (symbols : List ℕ) → RowOf c j n xs → (b : ℕ) → gathered (byte_at w symbols b) xs n ≡ row_sum c w symbols j b
sum_is w symbols r b = r.total (byte_at w symbols b)

front_is : {c : Checks} {j n : ℕ} {xs : List ℕ} (w : ℕ) (symbols : List ℕ) → RowOf c j n xs → (b : ℕ)
    → gathered (byte_at w symbols b) (take n xs) (length (take n xs)) ≡ row_sum c w symbols j b
front_is {n = n} {xs} w symbols r b = gathered_front (byte_at w symbols b) xs n (omega (arith, r.few, r.size)) ∙ sum_is w symbols r b

module _ (c : Checks) (w : ℕ) (plan : Arrays) (symbols : List ℕ) where
  -- those of the first j rows that no step used add up to zero
  abbrev pub Passed : ℕ → Type 0
  Passed j = (x b : ℕ) → x < j → used_by plan x ≡ 0 → b < w → row_sum c w symbols x b ≡ 0

  pass_more : {j : ℕ} → Passed j → (used_by plan j ≡ 0 → (b : ℕ) → b < w → row_sum c w symbols j b ≡ 0) → Passed (j + 1)
  pass_more {j} h z x b l u g = go (dec_lt x j)
    where
      go : Dec (x < j) → row_sum c w symbols x b ≡ 0
      go (yes d) = h x b d u g
      go (no d) =
          let q : x ≡ j = omega arith in
          ap (λ (y : ℕ). row_sum c w symbols y b) q ∙ z (ap (used_by plan) (sym q) ∙ u) b g

  pub pass_used : {j : ℕ} → Passed j → used_by plan j ≢ 0 → Passed (j + 1)
  pass_used h ne = pass_more h (λ e. absurd (ne e))

  pub pass_row : {j n : ℕ} {xs : List ℕ} → Passed j → RowOf c j n xs → (r : Bool) → CancelIs w symbols (take n xs) (length (take n xs)) r → not r ≡ false → Passed (j + 1)
  pass_row h r false z e = absurd (false≢true (sym e))
  pass_row h r true z e = pass_more h (λ u b g. sym (front_is w symbols r b) ∙ z b g)

  pub pass_not : {j n : ℕ} {xs : List ℕ} → j < c.m → used_by plan j ≡ 0 → RowOf c j n xs → (r : Bool) → CancelIs w symbols (take n xs) (length (take n xs)) r → not r ≡ true → HoldIs c w plan symbols false
  pass_not l u r true z e = absurd (false≢true e)
  pass_not {j} l u r false z e = (j, (z.0, (l, (u, (z.1.0, λ q. z.1.1 (front_is w symbols r z.0 ∙ q))))))

  -- ---- their sums

  pub sides-none : (d : List ℕ) → length d ≡ c.m * w → SidesTo c w plan symbols d 0 0
  unfolding unused_below
  sides-none d e = record { size = e; count = refl; each = λ x b l. absurd (not-suc-le-zero l) }

  pub sides-used : {d : List ℕ} {j i : ℕ} → SidesTo c w plan symbols d j i → used_by plan j ≢ 0 → SidesTo c w plan symbols d (j + 1) i
  sides-used {d} {j} s u = record {
    size = s.size;
    count = s.count ∙ sym (unused-none plan j u);
    each = λ x b l e g. go x b l e g (dec_lt x j);
  }
    where
      go : (x b : ℕ) → x < j + 1 → used_by plan x ≡ 0 → b < w → Dec (x < j) → get_or d (unused_below plan x * w + b) 0 ≡ row_sum c w symbols x b
      go x b l e g (yes k) = s.each x b k e g
      go x b l e g (no k) = let q : j ≡ x = omega arith in absurd (u (ap (used_by plan) q ∙ e))

  -- there is room for the next
  pub sides-room : {d : List ℕ} {j i : ℕ} → SidesTo c w plan symbols d j i → j < c.m → i * w + w ≤ length d
  sides-room {d} {j} {i} s l = omega (arith, slot i c.m w (omega (arith, s.count, unused_le plan j)), s.size)

  pub sides-put : {d d' xs : List ℕ} {j i n : ℕ} → SidesTo c w plan symbols d j i → used_by plan j ≡ 0 → RowOf c j n xs
      → Replaced (λ b. byte_before w d None b ⊕ gathered (byte_at w symbols b) (take n xs) (length (take n xs))) w i d d' → SidesTo c w plan symbols d' (j + 1) (i + 1)
  sides-put {d} {d'} {xs} {j} {i} {n} s u r p = record {
    size = p.size ∙ s.size;
    count = ap (λ (k : ℕ). k + 1) s.count ∙ sym (unused-one plan j u);
    each = λ x b l e g. go x b l e g (dec_lt x j);
  }
    where
      go : (x b : ℕ) → x < j + 1 → used_by plan x ≡ 0 → b < w → Dec (x < j) → get_or d' (unused_below plan x * w + b) 0 ≡ row_sum c w symbols x b
      go x b l e g (yes k) =
          p.outside (unused_below plan x * w + b) (inl (omega (arith, slot (unused_below plan x) i w (omega (arith, s.count, unused-below plan x j k e)))))
          ∙ s.each x b k e g
      go x b l e g (no k) =
          let q : x ≡ j = omega arith in
          ap (λ (y : ℕ). get_or d' (y * w + b) 0) (ap (unused_below plan) q ∙ sym s.count) ∙ p.each b g ∙ unit_l (gathered (byte_at w symbols b) (take n xs) (length (take n xs)))
          ∙ front_is w symbols r b ∙ ap (λ (y : ℕ). row_sum c w symbols y b) (sym q)

  pub sides_all : {d : List ℕ} {j i : ℕ} → SidesTo c w plan symbols d j i → j ≡ c.m → Sides c w plan symbols d
  sides_all s q = λ x b l e g. s.each x b (omega arith) e g
