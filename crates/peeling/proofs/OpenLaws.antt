-- Opening the missing positions, and the only open one of some positions.
-- Assumes nothing.
use Rattle.std.proofs.Common.{false, take, length-take-le, ◌≡◌, ℕ, ◌+◌, ◌<◌, ◌≤◌, Bool, cond, eqb, ◌≢◌, List, length, get_or, set, sym, ap, ◌∙◌, arith, get_or-set_other, get_or-set_same}
use Rattle.std.proofs.lemmas.List.{get_or-take}
use mathlib.Core.Path.{subst⁻¹}
use native.Mathlib.Decide.{ℕ_discrete, dec_lt}
use Rattle.peeling.specs.States.{is_known}
use Rattle.peeling.specs.Plan.{Arrays, kind_of}
use Rattle.peeling.specs.Peel.{NothingUsed, OnlyOpen}

-- ---- the first x positions are opened where they are missing

pub record Opening (states : List ℕ) (plan : Arrays) (x : ℕ) : Type 0 where
  pub each : (p : ℕ) → p < x → kind_of plan p ≡ cond (is_known states p) 0 65535
  pub unused : NothingUsed plan

pub opening-more : {states : List ℕ} {plan plan' : Arrays} {x : ℕ} (v : ℕ) → Opening states plan x → x < 3072 → v ≡ cond (eqb (get_or states x 0) 1) 0 65535
    → plan'.kinds ≡ set plan.kinds x v → plan'.used ≡ plan.used → Opening states plan' (x + 1)
unfolding is_known
opening-more {states} {plan} {plan'} {x} v O h e k u =
    record {
      each = λ p l. ap (λ (s : List ℕ). get_or s p 0) k ∙ go p l (ℕ_discrete p x);
      unused = λ j. ap (λ (s : List Bool). cond (get_or s j false) 1 0) u ∙ O.unused j;
    }
  where
    go : (p : ℕ) → p < x + 1 → Dec (p ≡ x) → get_or (set plan.kinds x v) p 0 ≡ cond (is_known states p) 0 65535
    go p l (yes d) =
        ap (λ (k : ℕ). get_or (set plan.kinds x v) k 0) d ∙ get_or-set_same plan.kinds x v 0 (omega (arith, plan.kinds_len)) ∙ e
        ∙ ap (λ (k : ℕ). cond (eqb (get_or states k 0) 1) 0 65535) (sym d)
    go p l (no d) = get_or-set_other plan.kinds x p v 0 d ∙ O.each p (omega arith)

-- ---- the open ones of the first i positions of xs: how many, and the last

pub record Seen (plan : Arrays) (xs : List ℕ) (i at found : ℕ) : Type 0 where
  pub few : found ≤ i
  pub none : found ≡ 0 → (k : ℕ) → k < i → kind_of plan (get_or xs k 0) ≢ 65535
  pub only : found ≡ 1 → (at < i) × ((kind_of plan (get_or xs at 0) ≡ 65535) × ((k : ℕ) → k < i → k ≢ at → kind_of plan (get_or xs k 0) ≢ 65535))

-- of each of the first i + 1
below_next : (P : ℕ → Type 0) (i : ℕ) → ((k : ℕ) → k < i → P k) → P i → (k : ℕ) → k < i + 1 → P k
below_next P i below here k h = go (dec_lt k i)
  where
    go : Dec (k < i) → P k
    go (yes l) = below k l
    go (no l) = let d : k ≡ i = omega arith in subst⁻¹ P d here

module _ {plan : Arrays} {xs : List ℕ} {i at found : ℕ} (F : Seen plan xs i at found) where
  pub seen_open : kind_of plan (get_or xs i 0) ≡ 65535 → Seen plan xs (i + 1) i (found + 1)
  seen_open e =
      record {
        few = omega (arith, F.few);
        none = λ z. absurd (omega arith);
        only = λ z.
            let n = F.none (omega arith) in
            (omega arith, (e, λ k h d. n k (omega arith)));
      }

  pub seen_closed : kind_of plan (get_or xs i 0) ≢ 65535 → Seen plan xs (i + 1) at found
  seen_closed d =
      record {
        few = omega (arith, F.few);
        none = λ z. below_next (λ k. kind_of plan (get_or xs k 0) ≢ 65535) i (F.none z) d;
        only = λ z.
            let o = F.only z in
            (omega (arith, o.0), (o.1.0, below_next (λ k. k ≢ at → kind_of plan (get_or xs k 0) ≢ 65535) i o.1.1 (λ n. d)));
      }

-- of the front of xs, so of xs
pub only_taken : {plan : Arrays} {xs : List ℕ} {n i : ℕ} → n ≤ length xs → OnlyOpen plan (take n xs) (length (take n xs)) i → OnlyOpen plan xs n i
only_taken {plan} {xs} {n} {i} h o =
    let s : length (take n xs) ≡ n = length-take-le n xs h in
    let b : i < n = omega (arith, s, o.below) in
    record {
      below = b;
      open_kind = ap (kind_of plan) (sym (get_or-take n xs i 0 b)) ∙ o.open_kind;
      others = λ k l d e. o.others k (omega (arith, s)) d (ap (kind_of plan) (get_or-take n xs k 0 l) ∙ e);
    }
