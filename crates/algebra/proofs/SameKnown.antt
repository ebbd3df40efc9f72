-- Which codewords agree depends on the known positions and their symbols alone.
-- Assumes nothing.
use mathlib.Core.Path.{◌≡◌, refl, sym, ap, ap₂, ◌∙◌, fun_ext}
use mathlib.Core.Bool.{Bool, true, false, not, ◌&&◌, ◌||◌, cond}
use mathlib.Core.List.{List}
use Prim.Native.Nat.{ℕ, ◌*◌, ◌<◌}
use lib.Dec.{eqb}
use Rattle.algebra.specs.Codeword.{Checks, byte_at, codeword}
use Rattle.algebra.specs.Words.{filter, words}
use Rattle.algebra.specs.Agreeing.{same_symbol, agrees, agreeing, determined, first, filled_byte, filled_symbols}
use Rattle.algebra.proofs.Lists.{every_cong}
use Rattle.algebra.proofs.Codeword.{ext_byte_at}
use Rattle.algebra.proofs.Agreeing.{byte-at, length_symbols}

-- the same known positions, and the same symbols there
pub record SameKnown (c : Checks) (w : ℕ) (known : ℕ → Bool) (s : List ℕ) (known' : ℕ → Bool) (s' : List ℕ) : Type 0 where
  pub same_known : (i : ℕ) → i < c.n → known i ≡ known' i
  pub same_byte : (i : ℕ) → i < c.n → known i ≡ true → (b : ℕ) → b < w → byte_at w s b i ≡ byte_at w s' b i

module _ (c : Checks) (w : ℕ) (known : ℕ → Bool) (s : List ℕ) (known' : ℕ → Bool) (s' : List ℕ) (H : SameKnown c w known s known' s') where
  same-agrees : (x : List ℕ) → agrees c w known s x ≡ agrees c w known' s' x
  unfolding agrees same_symbol
  same-agrees x =
      every_cong c.n (λ i. not (known i) || same_symbol w x s i) (λ i. not (known' i) || same_symbol w x s' i) (λ i h.
      go (known i) (known' i) (same_symbol w x s i) (same_symbol w x s' i) (H.same_known i h) (λ t.
      every_cong w (λ b. eqb (byte_at w x b i) (byte_at w s b i)) (λ b. eqb (byte_at w x b i) (byte_at w s' b i))
      (λ b l. ap (eqb (byte_at w x b i)) (H.same_byte i h t b l))))
    where
      go : (a a' d d' : Bool) → a ≡ a' → (a ≡ true → d ≡ d') → not a || d ≡ not a' || d'
      go true a' d d' e f = ap₂ (λ (u v : Bool). not u || v) e (f refl)
      go false a' d d' e f = ap (λ (u : Bool). not u || d') e

  pub same-agreeing : agreeing c w known s ≡ agreeing c w known' s'
  unfolding agreeing
  same-agreeing = ap (λ (p : List ℕ → Bool). filter p (words (c.n * w))) (fun_ext (λ x. ap (λ (a : Bool). codeword c w x && a) (same-agrees x)))

  -- and so do the symbols afterwards
  pub same-filled : 0 < w → filled_symbols c w known s ≡ filled_symbols c w known' s'
  unfolding filled_byte
  same-filled pos =
      ext_byte_at c.n w (filled_symbols c w known s) (filled_symbols c w known' s') pos (length_symbols c w known s) (length_symbols c w known' s')
      (λ i b h l. byte-at c w known s i b h l ∙ go i b h l (known i) refl ∙ sym (byte-at c w known' s' i b h l))
    where
      rest : ℕ → ℕ → List (List ℕ) → ℕ
      rest i b L = cond (determined w L i) (byte_at w (first L) b i) 0

      go : (i b : ℕ) → i < c.n → b < w → (a : Bool) → known i ≡ a
          → cond (known i) (byte_at w s b i) (rest i b (agreeing c w known s)) ≡ cond (known' i) (byte_at w s' b i) (rest i b (agreeing c w known' s'))
      go i b h l true e =
          ap (λ (u : Bool). cond u (byte_at w s b i) (rest i b (agreeing c w known s))) e ∙ H.same_byte i h e b l
          ∙ sym (ap (λ (u : Bool). cond u (byte_at w s' b i) (rest i b (agreeing c w known' s'))) (sym (H.same_known i h) ∙ e))
      go i b h l false e =
          ap₂ (λ (u : Bool) (L : List (List ℕ)). cond u (byte_at w s b i) (rest i b L)) e same-agreeing
          ∙ sym (ap (λ (u : Bool). cond u (byte_at w s' b i) (rest i b (agreeing c w known' s'))) (sym (H.same_known i h) ∙ e))
