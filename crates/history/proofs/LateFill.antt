-- A fill that is learned late, from the theorem about lists of calls: a call with the smaller fill sees in the state that the calls with the
-- larger one left what the list says for the smaller one, and so do all further ones.
-- Assumes nothing.
use mathlib.Core.Path.{◌≡◌, refl, sym, ap, ap₂, ◌∙◌, subst}
use mathlib.Core.Bool.{Bool, true, false, ◌||◌, cond, false≢true}
use mathlib.Core.List.{List, [], ◌∷◌, ◌++◌}
use mathlib.Core.Option.{Option, none, some}
use Prim.Native.Nat.{ℕ, zero, suc, ◌-◌, ◌≤◌, ◌<◌}
use native.Mathlib.Omega.{arith}
use lib.ListN.{length, get_or, drop}
use borrow.Author.Tests.{ne_eqb}
use Rattle.ccsds.specs.Tables.{code_of}
use Rattle.ccsds.specs.Fill.{idle_lwc}
use Rattle.ccsds.specs.Refusals.{Outcome, refused, answered, outcome, ◌⟫◌}
use Rattle.unit_reader.specs.Reader.{Coding, Parts, read_unit}
use Rattle.ccsds.proofs.FillLaws.{idle_in, idle_range}
use Rattle.block.specs.Block.{checks, idle_at}
use Rattle.block.specs.Status.{idle, heard, missing, status_by}
use Rattle.block.specs.Open.{open_of}
use Rattle.block.specs.Take.{wrong_parameters, foreign, unit_refusal, AdmittedUnit, admission}
use Rattle.history.specs.Calls.{take_unit, close_with, History, State, opened, run, is_at, symbol_of, heard_at, kept_at, state_of}
use Rattle.history.specs.LateFill.{Alike, LateFill}
use Rattle.block.specs.declared.Block.{Block}
use Rattle.block.proofs.BlockRefusal.{Right}
use Rattle.history.proofs.FromTheList.{verdict-given, Shows, heard_sent, marks-size, symbols-size, small, status_is, heard-byte, shows, close_next, close_answer, next-shows, answer_is, opens, from_the_list}

module _ (b : Block) (r : Right b) (h : History) (s : State) (S : Shows b h s) where
  -- two states in which a call sees the same list are alike
  states_alike : (t : State) → Shows b h t → Alike b s t
  states_alike t T = record {
    answers = λ c. answer_is b r h s S c ∙ sym (answer_is b r h t T c);
    leaves = λ words bytes q e.
        let g = (verdict-given b h words bytes q (sym (close_answer b r h s S words bytes) ∙ e)).0 in
        close_next b r h s S words bytes g ∙ sym (close_next b r h t T words bytes g);
  }

  -- after further calls the next one sees the longer list
  run-shows : (g : History) → Shows b (g ++ h) (run b s g)
  unfolding run
  run-shows [] = S
  run-shows (c ∷ g) = next-shows b r (g ++ h) (run b s g) (run-shows g) c

-- the record with fill f
abbrev with_fill : Block → ℕ → Block
with_fill b f = record { code = b.code; w = b.w; protocol = b.protocol; lsc = b.lsc; fill = f }

-- two units are both admitted at position i, with the same symbol, or neither is
record AlikeAt (i : ℕ) (a a' : Outcome AdmittedUnit) : Type 0 where
  there : is_at a i ≡ is_at a' i
  holds : cond (is_at a i) (symbol_of a) [] ≡ cond (is_at a' i) (symbol_of a') []

neither : (i : ℕ) (a a' : Outcome AdmittedUnit) → is_at a i ≡ false → is_at a' i ≡ false → AlikeAt i a a'
neither i a a' e e' = record { there = e ∙ sym e'; holds = rw (e, e') }

module _ (b : Block) (f : ℕ) (more : b.fill ≤ f) where
  -- what is not idle by the smaller fill is not by the larger one
  sent_too : (i : ℕ) → idle_at b i ≡ false → idle_at (with_fill b f) i ≡ false
  unfolding idle_at
  sent_too i e = go (idle_at (with_fill b f) i) refl
    where
      go : (t : Bool) → idle_at (with_fill b f) i ≡ t → t ≡ false
      go true q =
          let p = idle_range (code_of b.code).k f i q in
          sym (idle_in (code_of b.code).k b.fill i (omega arith) p.1) ∙ e
      go false q = refl

  -- a unit for such a position is refused alike
  same-parameters : (c : Option Coding) → wrong_parameters (with_fill b f) c ≡ wrong_parameters b c
  unfolding wrong_parameters checks
  same-parameters none = refl
  same-parameters (some c) = refl

  same_refusal : (p : Parts) (len : ℕ) → idle_at b (p.lwc - 1) ≡ false → unit_refusal (with_fill b f) p len ≡ unit_refusal b p len
  unfolding unit_refusal foreign idle_lwc idle_at checks
  same_refusal p len e = rw (same-parameters p.coding, e, sent_too (p.lwc - 1) e)

  -- at a position that is not idle by the smaller fill
  module _ (i : ℕ) (sent : idle_at b i ≡ false) where
    admitted_alike : (unit : List ℕ) → AlikeAt i (admission (with_fill b f) unit) (admission b unit)
    unfolding admission is_at
    admitted_alike unit = go (read_unit unit)
      where
        unless : ℕ → Parts → Outcome AdmittedUnit
        unless n p = outcome n (record { position = p.lwc - 1; symbol = drop (length unit - b.w) unit })

        elsewhere : (n : ℕ) (p : Parts) → idle_at b (p.lwc - 1) ≡ true → is_at (unless n p) i ≡ false
        elsewhere zero p q = ne_eqb (p.lwc - 1) i (λ e. false≢true (sym sent ∙ ap (idle_at b) (sym e) ∙ q))
        elsewhere (suc n) p q = refl

        by : (p : Parts) (t : Bool) → idle_at b (p.lwc - 1) ≡ t
            → AlikeAt i (unless (unit_refusal (with_fill b f) p (length unit)) p) (unless (unit_refusal b p (length unit)) p)
        by p true q = neither i _ _ (elsewhere (unit_refusal (with_fill b f) p (length unit)) p q) (elsewhere (unit_refusal b p (length unit)) p q)
        by p false q = rw (same_refusal p (length unit) q) (record { there = refl; holds = refl })

        go : (r : Outcome Parts)
            → AlikeAt i (r ⟫ λ p. unless (unit_refusal (with_fill b f) p (length unit)) p) (r ⟫ λ p. unless (unit_refusal b p (length unit)) p)
        go (refused n) = record { there = refl; holds = refl }
        go (answered p) = by p (idle_at b (p.lwc - 1)) refl

    -- the same is heard and kept
    alike : (h : History) → (heard_at (with_fill b f) h i ≡ heard_at b h i) × (kept_at (with_fill b f) h i ≡ kept_at b h i)
    unfolding heard_at kept_at
    alike [] = (refl, refl)
    alike (take_unit unit ∷ h) =
        let a = admitted_alike unit in
        let q = alike h in
        (ap₂ ◌||◌ a.there q.0, rw (q.0, q.1, a.holds))
    alike (close_with words bytes ∷ h) = alike h

  -- what a call with the smaller fill sees, after calls with the larger one
  shows_too : Right b → Right (with_fill b f) → (h : History) → Shows b h (state_of (with_fill b f) h)
  unfolding checks
  shows_too r r' h = record {
    bytes_all = symbols-size (with_fill b f) r' h;
    marks_all = marks-size (with_fill b f) r' h;
    marks-small = small (with_fill b f) r' h;
    statuses = λ i k. go i k (idle_at b i) refl;
    heard-bytes = λ i j k l e.
        let a = alike i (heard_sent b r h i e) h in
        heard-byte (with_fill b f) r' h i j k l (a.0 ∙ e) ∙ ap (λ (x : List ℕ). get_or x j 0) a.1;
  }
    where
      go : (i : ℕ) → i < (checks b).n → (t : Bool) → idle_at b i ≡ t
          → cond t idle (status_by (get_or (state_of (with_fill b f) h).marks i 0)) ≡ cond t idle (cond (heard_at b h i) heard missing)
      go i k true q = refl
      go i k false q = rw (sent_too i q, (alike i q h).0) at (status_is (with_fill b f) r' h i k)

pub late_fill : LateFill
late_fill o b symbols marks q o' b' symbols' marks' q' S h g =
    let r' = (opens o' b' symbols' marks' q').1 in
    let e : b ≡ with_fill b' b.fill = rw (S.code, S.w, S.protocol, S.lsc) in
    let s = run b (opened (open_of o symbols marks)) h in
    states_alike b' r' (g ++ h) (run b' s g)
    (run-shows b' r' h s
    (subst (Shows b' h) (sym ((from_the_list o b symbols marks q h).state ∙ ap (λ (c : Block). state_of c h) e))
    (shows_too b' b.fill S.fill r' (subst Right e (opens o b symbols marks q).1) h))
    g)
    (run b' (opened (open_of o' symbols' marks')) (g ++ h))
    (subst (Shows b' (g ++ h)) (sym (from_the_list o' b' symbols' marks' q' (g ++ h)).state) (shows b' r' (g ++ h)))
