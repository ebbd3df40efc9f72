-- The outcome of decoding as a relation: what each verdict says of the codewords that agree, and what each position holds afterwards. At most one
-- outcome meets it, and the one by `agreeing` does.
-- Assumes nothing.
use mathlib.Core.Path.{◌≡◌, refl, sym, ◌∙◌, subst}
use mathlib.Core.Logic.{◌↔◌}
use mathlib.Core.Bool.{Bool, true, false, cond}
use mathlib.Core.List.{List}
use Prim.Native.Nat.{ℕ, ◌*◌, ◌<◌}
use native.Mathlib.Decide.{ℕ_discrete}
use lib.ListN.{length, get_or}
use lib.Seq.{ext_get_or}
use Rattle.algebra.specs.Codeword.{Checks, byte_at}
use Rattle.algebra.specs.Agreeing.{Verdict, whole, ambiguous, inconsistent, agreeing, verdict_of, determined, filled_symbols}
use Rattle.algebra.specs.Unique.{Some, JustOne, Two, Common}
use Rattle.algebra.proofs.Lists.{length-tab, get_d_tab}
use Rattle.algebra.proofs.Codeword.{ext_byte_at}
use Rattle.algebra.proofs.Agreeing.{length_symbols, at-known, at-determined, at_left, common-determined, not-determined, verdict-inconsistent, verdict-whole, verdict-ambiguous}
use Rattle.peeling.specs.States.{is_known}
use Rattle.decoder.specs.Outcome.{AgreesWith, states_after}

-- verdict v, with these symbol bytes and states afterwards
pub record Closes (c : Checks) (w : ℕ) (s states : List ℕ) (v : Verdict) (s' states' : List ℕ) : Type 0 where
  pub is_inconsistent : (v ≡ inconsistent) ↔ (¬ Some (AgreesWith c w s states))
  pub is_whole : (v ≡ whole) ↔ JustOne (AgreesWith c w s states)
  pub is_ambiguous : (v ≡ ambiguous) ↔ Two (AgreesWith c w s states)
  pub length-states : length states' ≡ c.n
  pub length-bytes : length s' ≡ c.n * w
  -- known positions stay as they are
  pub known-state : (i : ℕ) → i < c.n → is_known states i ≡ true → get_or states' i 0 ≡ 1
  pub known-byte : (i b : ℕ) → i < c.n → b < w → is_known states i ≡ true → byte_at w s' b i ≡ byte_at w s b i
  -- another position is filled where some codeword agrees and all that agree have the same symbol there
  pub filled-state : (i : ℕ) → i < c.n → is_known states i ≡ false → Some (AgreesWith c w s states) → Common w (AgreesWith c w s states) i → get_or states' i 0 ≡ 2
  pub filled-byte : (i b : ℕ) → i < c.n → b < w → is_known states i ≡ false → (x : List ℕ) → AgreesWith c w s states x → Common w (AgreesWith c w s states) i
      → byte_at w s' b i ≡ byte_at w x b i
  -- and else left
  pub left-state : (i : ℕ) → i < c.n → is_known states i ≡ false → ¬ (Some (AgreesWith c w s states) × Common w (AgreesWith c w s states) i) → get_or states' i 0 ≡ 0
  pub left-byte : (i b : ℕ) → i < c.n → b < w → is_known states i ≡ false → ¬ (Some (AgreesWith c w s states) × Common w (AgreesWith c w s states) i)
      → byte_at w s' b i ≡ 0

-- ---- at most one outcome

-- equality of numbers is decided, so it may be shown by two cases that cannot both fail
either : {A : Type 0} (a b : ℕ) → (A → a ≡ b) → (¬ A → a ≡ b) → a ≡ b
either {A} a b f g = go (ℕ_discrete a b)
  where
    go : Dec (a ≡ b) → a ≡ b
    go (yes e) = e
    go (no e) = absurd (e (g (λ x. e (f x))))

module _ (c : Checks) (w : ℕ) (s states : List ℕ) where
  module _ (v₁ v₂ : Verdict) (s₁ states₁ s₂ states₂ : List ℕ) (P : Closes c w s states v₁ s₁ states₁) (Q : Closes c w s states v₂ s₂ states₂) where
    same-verdict : (v : Verdict) → v₁ ≡ v → v ≡ v₂
    same-verdict whole e = sym (Q.is_whole.1 (P.is_whole.0 e))
    same-verdict ambiguous e = sym (Q.is_ambiguous.1 (P.is_ambiguous.0 e))
    same-verdict inconsistent e = sym (Q.is_inconsistent.1 (P.is_inconsistent.0 e))

    same-state : (i : ℕ) → i < c.n → (a : Bool) → is_known states i ≡ a → get_or states₁ i 0 ≡ get_or states₂ i 0
    same-state i h true e = P.known-state i h e ∙ sym (Q.known-state i h e)
    same-state i h false e =
        either {A = Some (AgreesWith c w s states) × Common w (AgreesWith c w s states) i} (get_or states₁ i 0) (get_or states₂ i 0)
        (λ a. P.filled-state i h e a.0 a.1 ∙ sym (Q.filled-state i h e a.0 a.1))
        (λ a. P.left-state i h e a ∙ sym (Q.left-state i h e a))

    same_byte : (i b : ℕ) → i < c.n → b < w → (a : Bool) → is_known states i ≡ a → byte_at w s₁ b i ≡ byte_at w s₂ b i
    same_byte i b h l true e = P.known-byte i b h l e ∙ sym (Q.known-byte i b h l e)
    same_byte i b h l false e =
        either {A = Some (AgreesWith c w s states) × Common w (AgreesWith c w s states) i} (byte_at w s₁ b i) (byte_at w s₂ b i)
        (λ a. P.filled-byte i b h l e a.0.0 a.0.1 a.1 ∙ sym (Q.filled-byte i b h l e a.0.0 a.0.1 a.1))
        (λ a. P.left-byte i b h l e a ∙ sym (Q.left-byte i b h l e a))

    pub closes_once : 0 < w → (v₁ ≡ v₂) × (s₁ ≡ s₂) × (states₁ ≡ states₂)
    closes_once pos = (
      same-verdict v₁ refl,
      ext_byte_at c.n w s₁ s₂ pos P.length-bytes Q.length-bytes (λ i b h l. same_byte i b h l (is_known states i) refl),
      ext_get_or 0 states₁ states₂ (P.length-states ∙ sym Q.length-states)
          (λ i h. same-state i (subst (λ (u : ℕ). i < u) P.length-states h) (is_known states i) refl),
    )

-- ---- the outcome by `agreeing`

module _ (c : Checks) (w : ℕ) (s states : List ℕ) where
  -- the state at a position, by whether it is known and whether it is determined
  state-at : (i : ℕ) → i < c.n → (a d : Bool) → is_known states i ≡ a → determined w (agreeing c w (is_known states) s) i ≡ d
      → get_or (states_after c w s states) i 0 ≡ cond a 1 (cond d 2 0)
  unfolding states_after
  state-at i h a d e f =
      get_d_tab c.n (λ j. cond (is_known states j) 1 (cond (determined w (agreeing c w (is_known states) s) j) 2 0)) 0 i h ∙ rw (e, f)

  pub block-closes : Closes c w s states (verdict_of (agreeing c w (is_known states) s)) (filled_symbols c w (is_known states) s) (states_after c w s states)
  unfolding states_after
  block-closes = record {
    is_inconsistent = verdict-inconsistent c w (is_known states) s;
    is_whole = verdict-whole c w (is_known states) s;
    is_ambiguous = verdict-ambiguous c w (is_known states) s;
    length-states = length-tab c.n _;
    length-bytes = length_symbols c w (is_known states) s;
    known-state = λ i h e. state-at i h true _ e refl;
    known-byte = λ i b h l e. at-known c w (is_known states) s i h e b l;
    filled-state = λ i h e x u. state-at i h false true e (common-determined c w (is_known states) s i x.0 x.1 u).0;
    filled-byte = λ i b h l e x a u.
        let q = common-determined c w (is_known states) s i x a u in at-determined c w (is_known states) s i h e q.0 b l ∙ q.1 b l;
    left-state = λ i h e n. state-at i h false false e (not-determined c w (is_known states) s i n);
    left-byte = λ i b h l e n. at_left c w (is_known states) s i h e (not-determined c w (is_known states) s i n) b l;
  }
