-- What the decoder leaves is what the agreeing codewords say: an outcome meets the relation `Closes`, which just one does.
-- Assumes nothing.
use mathlib.Core.Path.{◌≡◌, refl, sym, ap, ◌∙◌, subst}
use mathlib.Core.Logic.{◌↔◌, ◌≢◌, ⊎_elim}
use mathlib.Core.Bool.{Bool, true, false, cond}
use mathlib.Core.List.{List, [], ◌∷◌}
use Prim.Native.Nat.{ℕ, zero, suc, ◌<◌}
use native.Mathlib.Nat.{suc-ne-zero, zero-lt-suc}
use native.Mathlib.Omega.{arith}
use lib.Dec.{eqb}
use lib.ListN.{length, get_or}
use Rattle.algebra.specs.Codeword.{Checks, byte_at}
use Rattle.algebra.specs.Lists.{count}
use Rattle.algebra.specs.Agreeing.{Verdict, whole, ambiguous, inconsistent, agreeing, verdict_of, filled_symbols}
use Rattle.algebra.specs.Unique.{JustOne, Two, Common}
use Rattle.algebra.proofs.Lists.{eqb_iff}
use Rattle.algebra.proofs.Agreeing.{agreeing_equal}
use Rattle.algebra.proofs.Counts.{count_none}
use Rattle.peeling.specs.States.{is_known}
use Rattle.decoder.specs.Outcome.{AgreesWith, Fills, Leaves, Differs, Refuted, Confirmed, Outcome, verdict_by, states_after, Decoded}
use Rattle.decoder.proofs.Closes.{Closes, closes_once, block-closes}

-- where the count of v is not zero, v stands somewhere
counted : (v : ℕ) (l : List ℕ) (k : ℕ) → count v l ≡ suc k → (i : ℕ) × ((i < length l) × (get_or l i 0 ≡ v))
unfolding count
counted v [] k e = absurd (suc-ne-zero k (sym e))
counted v (a ∷ l) k e = go (eqb a v) refl e (counted v l k)
  where
    go : (d : Bool) → eqb a v ≡ d → cond d (suc (count v l)) (count v l) ≡ suc k
        → (count v l ≡ suc k → (i : ℕ) × ((i < length l) × (get_or l i 0 ≡ v))) → (i : ℕ) × ((i < suc (length l)) × (get_or (a ∷ l) i 0 ≡ v))
    go true q e ih = (zero, (zero-lt-suc (length l), (eqb_iff a v).0 q))
    go false q e ih = let f = ih e in (suc f.0, (omega (arith, f.1.0), f.1.1))

-- two verdicts are not equal
inconsistent-whole : inconsistent ≢ whole
inconsistent-whole e = let z : ◌≡◌ {A = ℕ} 0 1 = cc in omega arith

inconsistent-ambiguous : inconsistent ≢ ambiguous
inconsistent-ambiguous e = let z : ◌≡◌ {A = ℕ} 0 1 = cc in omega arith

whole-ambiguous : whole ≢ ambiguous
whole-ambiguous e = let z : ◌≡◌ {A = ℕ} 0 1 = cc in omega arith

module _ (c : Checks) (w : ℕ) (block states s m : List ℕ) where
  refuted_closes : Refuted c w block states s m → Closes c w block states inconsistent s m
  refuted_closes R = record {
    is_inconsistent = (λ e. R.none, λ n. refl);
    is_whole = (λ e. absurd (inconsistent-whole e), λ a. absurd (R.none (a.0, a.1)));
    is_ambiguous = (λ e. absurd (inconsistent-ambiguous e), λ a. absurd (R.none (a.0, a.2)));
    length-states = R.states-size;
    length-bytes = R.symbols-size;
    known-state = λ i h e. (R.known i h e).state;
    known-byte = λ i b h l e. (R.known i h e).bytes b l;
    filled-state = λ i h e a u. absurd (R.none a);
    filled-byte = λ i b h l e x a u. absurd (R.none (x, a));
    left-state = λ i h e n. (R.missing i h e).state;
    left-byte = λ i b h l e n. (R.missing i h e).bytes b l;
  }

  -- just one and two exclude each other
  one-not_two : JustOne (AgreesWith c w block states) → ¬ Two (AgreesWith c w block states)
  one-not_two o t = t.4 (o.2 t.0 t.2 ∙ sym (o.2 t.1 t.3))

  module _ (x : List ℕ) (C : Confirmed c w block states x s m) where
    -- a position that is left is not common to all
    not-common : (i : ℕ) → Differs c w block states x i → ¬ Common w (AgreesWith c w block states) i
    not-common i d u = d.1.1.1.1 (u d.0 x d.1.0 C.agrees d.1.1.0 d.1.1.1.0)

    filled : (i : ℕ) → i < c.n → is_known states i ≡ false → Common w (AgreesWith c w block states) i → Fills c w block states x s m i
    filled i h e u = ⊎_elim (λ f. f) (λ l. absurd (not-common i l.1 u)) (C.missing i h e)

    left : (i : ℕ) → i < c.n → is_known states i ≡ false → ¬ Common w (AgreesWith c w block states) i → Leaves w s m i
    left i h e n = ⊎_elim (λ f. absurd (n f.common)) (λ l. l.0) (C.missing i h e)

    -- no state is 0: every missing position is filled
    just_one : 0 < w → count 0 m ≡ 0 → JustOne (AgreesWith c w block states)
    just_one pos z = (
      x,
      C.agrees,
      λ y a. agreeing_equal c w (is_known states) block pos y x a C.agrees (λ i h e. ⊎_elim (λ f. f.common y x a C.agrees) (λ l. absurd (none i h l.0)) (C.missing i h e)),
    )
      where
        none : (i : ℕ) → i < c.n → ¬ Leaves w s m i
        none i h l = (count_none 0 m).0 z i (subst (λ (n : ℕ). i < n) (sym C.states-size) h) l.state

    -- some state is 0: two differ there
    two : (k : ℕ) → count 0 m ≡ suc k → Two (AgreesWith c w block states)
    two k z = let f = counted 0 m k z in at f.0 (subst (λ (n : ℕ). f.0 < n) C.states-size f.1.0) f.1.1 (is_known states f.0) refl
      where
        differ : (i : ℕ) → Differs c w block states x i → Two (AgreesWith c w block states)
        differ i d = (x, d.0, C.agrees, d.1.0, λ e. d.1.1.1.1 (ap (λ (y : List ℕ). byte_at w y d.1.1.0 i) (sym e)))

        other : (i v : ℕ) → get_or m i 0 ≡ 0 → get_or m i 0 ≡ suc v → ⊥
        other i v q e = omega arith

        at : (i : ℕ) → i < c.n → get_or m i 0 ≡ 0 → (a : Bool) → is_known states i ≡ a → Two (AgreesWith c w block states)
        at i h q true e = absurd (other i 0 q (C.known i h e).state)
        at i h q false e = ⊎_elim (λ f. absurd (other i 1 q f.state)) (λ l. differ i l.1) (C.missing i h e)

    confirmed_closes : (v : Verdict) → v ≢ inconsistent → ((v ≡ whole) ↔ JustOne (AgreesWith c w block states)) → ((v ≡ ambiguous) ↔ Two (AgreesWith c w block states))
        → Closes c w block states v s m
    confirmed_closes v d o t = record {
      is_inconsistent = (λ e. absurd (d e), λ n. absurd (n (x, C.agrees)));
      is_whole = o;
      is_ambiguous = t;
      length-states = C.states-size;
      length-bytes = C.symbols-size;
      known-state = λ i h e. (C.known i h e).state;
      known-byte = λ i b h l e. (C.known i h e).bytes b l;
      filled-state = λ i h e a u. (filled i h e u).state;
      filled-byte = λ i b h l e y a u. let f = filled i h e u in f.bytes b l ∙ u x y C.agrees a b l;
      left-state = λ i h e n. (left i h e (λ u. n ((x, C.agrees), u))).state;
      left-byte = λ i b h l e n. (left i h e (λ u. n ((x, C.agrees), u))).bytes b l;
    }

    by_count : 0 < w → (k : ℕ) → count 0 m ≡ k → Closes c w block states (verdict_by true k) s m
    by_count pos zero e =
        let o = just_one pos e in
        confirmed_closes whole (λ q. inconsistent-whole (sym q)) (λ q. o, λ a. refl) (λ q. absurd (whole-ambiguous q), λ a. absurd (one-not_two o a))
    by_count pos (suc k) e =
        let t = two k e in
        confirmed_closes ambiguous (λ q. inconsistent-ambiguous (sym q)) (λ q. absurd (whole-ambiguous (sym q)), λ a. absurd (one-not_two a t)) (λ q. t, λ a. refl)

  closes_decoded : (ok : Bool) → 0 < w → Closes c w block states (verdict_by ok (count 0 m)) s m → Decoded c w block states s m ok
  closes_decoded ok pos C =
      let e = closes_once c w block states (verdict_by ok (count 0 m)) (verdict_of (agreeing c w (is_known states) block)) s m (filled_symbols c w (is_known states) block) (states_after c w block states) C
      (block-closes c w block states) pos in
      record { symbols_are = e.1; states_are = e.2; verdict_is = e.0 }

pub decoded : (c : Checks) (w : ℕ) (block states symbols' states' : List ℕ) (ok : Bool) → 0 < w → Outcome c w block states symbols' states' ok
    → Decoded c w block states symbols' states' ok
decoded c w block states s m false pos R = closes_decoded c w block states s m false pos (refuted_closes c w block states s m R)
decoded c w block states s m true pos X = closes_decoded c w block states s m true pos (by_count c w block states s m X.0 X.1 pos (count 0 m) refl)
