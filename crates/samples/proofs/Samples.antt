-- The starred samples hold: one test for each code sample, which antt computes, and one law that turns the test into its statement.
-- Assumes nothing.
use mathlib.Core.Path.{◌≡◌, refl, sym, ap, ◌∙◌}
use mathlib.Core.Bool.{Bool, true, false, xor, ◌&&◌, beq}
use mathlib.Core.Logic.{◌⊎◌, ◌≢◌, inl, inr, ⊎_elim}
use mathlib.Core.List.{List, [], ◌∷◌}
use Prim.Native.Nat.{ℕ, suc, ◌-◌, ◌<◌, ◌≤◌}
use native.Mathlib.Decide.{dec_lt}
use native.Mathlib.Omega.{arith}
use lib.Dec.{T, ltb, ltb→lt}
use Rattle.algebra.specs.Sums.{pick}
use Rattle.algebra.specs.Codeword.{byte_at}
use Rattle.algebra.proofs.Sums.{odd, sum_tests, sum_terms, sum-pick, sum_alone}
use Rattle.algebra.proofs.Staircase.{codeword-parity, parity_odd}
use Rattle.ccsds.specs.Codes.{Params, row_of, check_row_of, touches}
use Rattle.ccsds.specs.Tables.{code_of, code_in, codes, is_code, number_in, c1, c2, c4, c5, c7, c8, rows1, rows2, rows4, rows5, rows7, rows8}
use Rattle.samples.specs.Samples.{CodeSample, CodeHolds, in_runs, SdnvHolds, Sample, of_code, of_sdnv, Each, samples, SingleSymbol}
use Rattle.wire.specs.Sdnv.{sdnv_from, group, sdnv_bytes}
use Rattle.ccsds.proofs.Table.{both_left, both_right, up_to as each, between}
use Rattle.ccsds.proofs.Valid.{Valid, valid_of, up_to, touches_odd}

same : (a b : Bool) → T (beq a b) → a ≡ b
same true true t = refl
same true false t = absurd t
same false true t = absurd t
same false false t = refl

-- information symbol x is in parity symbol j just when a run has j
abbrev right : CodeSample → ℕ → ℕ → Bool
right s x j = beq (up_to (check_row_of (code_of s.code) x) (row_of (code_of s.code) x) j) (in_runs s.runs j)

-- so for each information symbol first .. last and each parity symbol from .. to
abbrev test : CodeSample → Bool
test s = each (λ x. each (right s x) s.from (suc s.to - s.from)) s.first (suc s.last - s.first)

module _ (s : CodeSample) (v : Valid (code_of s.code)) (end : s.to < (code_of s.code).m) (t : T (test s)) where
  entry : (x j : ℕ) → s.first ≤ x → x ≤ s.last → s.from ≤ j → j ≤ s.to → T (right s x j)
  entry x j h₀ h₁ g₀ g₁ = between (right s x) s.from s.to (between (λ y. each (right s y) s.from (suc s.to - s.from)) s.first s.last t x h₀ h₁) j g₀ g₁

  holds : CodeHolds s
  holds w x cw out j b g₀ g₁ hb =
      (codeword-parity c.k c.m (λ r i. touches c i r) w x).0 cw b hb j (omega arith)
      ∙ parity_odd c.k c.m (λ r i. touches c i r) u j
      ∙ sum_tests (λ i. odd (suc j) (touches c i)) bit u c.k (λ i h. touches_odd c v i h j)
      ∙ sum_terms bit (λ i. in_runs s.runs j) u u c.k one
      ∙ sum-pick (in_runs s.runs j) u c.k
    where
      c : Params
      c = code_of s.code

      u : ℕ → ℕ
      u = byte_at w x b

      bit : ℕ → Bool
      bit i = up_to (check_row_of c i) (row_of c i) j

      zero : (t : Bool) → pick t 0 ≡ 0
      zero true = refl
      zero false = refl

      none : (i : ℕ) → u i ≡ 0 → pick (bit i) (u i) ≡ pick (in_runs s.runs j) (u i)
      none i e = ap (pick (bit i)) e ∙ zero (bit i) ∙ sym (ap (pick (in_runs s.runs j)) e ∙ zero (in_runs s.runs j))

      one : (i : ℕ) → i < c.k → pick (bit i) (u i) ≡ pick (in_runs s.runs j) (u i)
      one i h = go (dec_lt i s.first) (dec_lt s.last i)
        where
          go : Dec (i < s.first) → Dec (s.last < i) → pick (bit i) (u i) ≡ pick (in_runs s.runs j) (u i)
          go (yes l) d = none i (out i b (inl l) h hb)
          go (no l) (yes g) = none i (out i b (inr g) h hb)
          go (no l) (no g) = ap (λ (t : Bool). pick t (u i)) (same (bit i) (in_runs s.runs j) (entry i j (omega arith) (omega arith) g₀ g₁))

-- the test of a code sample: its code is one of ours, its parity symbols are the code's, and the test above passes
abbrev passes : CodeSample → Bool
passes s = is_code s.code && (ltb s.to (code_of s.code).m && test s)

holds-true : (b : Bool) → T b → b ≡ true
holds-true true t = refl
holds-true false t = absurd t

code_holds : (s : CodeSample) → T (passes s) → CodeHolds s
code_holds s t =
    let r = both_right (is_code s.code) (ltb s.to (code_of s.code).m && test s) t in
    let l = both_left (is_code s.code) (ltb s.to (code_of s.code).m && test s) t in
    holds s (valid_of s.code (holds-true (is_code s.code) l)) (ltb→lt s.to (code_of s.code).m (both_left (ltb s.to (code_of s.code).m) (test s) r))
    (both_right (ltb s.to (code_of s.code).m) (test s) r)

-- what is to be shown of a row, and that it is enough
abbrev Shown : Sample → Type 0
Shown (of_code s) = T (passes s)
Shown (of_sdnv s) = SdnvHolds s

abbrev AllShown : List Sample → Type 0
AllShown [] = Unit {0}
AllShown (s ∷ ss) = Shown s × AllShown ss

enough : (ss : List Sample) → AllShown ss → Each ss
enough [] t = tt
enough (of_code s ∷ ss) t = (code_holds s t.0, enough ss t.1)
enough (of_sdnv s ∷ ss) t = (t.0, enough ss t.1)

pub all : Each samples
unfolding samples code_of code_in codes is_code number_in c1 c2 c4 c5 c7 c8 rows1 rows2 rows4 rows5 rows7 rows8 row_of check_row_of up_to in_runs xor sdnv_from sdnv_bytes group
all =
    enough samples (tt, (tt, (tt, (tt, (tt, (tt, (tt, (tt, (tt, (tt, (tt, (tt, (tt, (tt, (tt, (tt, (tt, (tt, (tt, (tt, ((refl, refl), ((refl, refl), ((refl, refl), ((refl, refl), ((refl, tt), ((refl, tt), tt))))))))))))))))))))))))))

pub single : SingleSymbol
single s e l h w x cw out j b g₀ g₁ hb =
    h w x cw (λ p d a. out p d (other p a)) j b g₀ g₁ hb
    ∙ ap (pick (in_runs s.runs j)) (sum_alone (byte_at w x b) s.first (code_of s.code).k l (λ p a q. out p b (apart p a) q hb))
  where
    apart : (p : ℕ) → (p < s.first) ⊎ (s.first < p) → p ≢ s.first
    apart p a q = ⊎_elim (λ o. omega arith) (λ o. omega arith) a

    other : (p : ℕ) → (p < s.first) ⊎ (s.last < p) → p ≢ s.first
    other p a = apart p (⊎_elim inl (λ o. inr (omega arith)) a)
