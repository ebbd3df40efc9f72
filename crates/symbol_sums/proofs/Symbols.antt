-- Sums of symbols, byte by byte, and symbols that are written in parts.
-- Assumes nothing.
use mathlib.Core.Path.{◌≡◌, refl, sym, ap, ap₂, ◌∙◌, subst}
use mathlib.Core.Logic.{◌⊎◌, inl, inr, ◌≢◌}
use mathlib.Core.Bool.{true}
use mathlib.Core.List.{List}
use Prim.Native.Nat.{ℕ, ◌+◌, ◌-◌, ◌*◌, ◌<◌, ◌≤◌}
use native.Mathlib.Nat.{not-suc-le-zero, add_assoc}
use native.Mathlib.Numerals.{add-one}
use native.Mathlib.Decide.{dec_lt}
use native.Mathlib.Omega.{arith}
use lib.Bits.{bit_xor}
use Rattle.std.proofs.Math.Path.{fun_ext}
use lib.ListN.{length, get_or}
use Rattle.std.specs.Prelude.{Some, None, IfSome}
use Rattle.std.specs.declared.option.Option.{Option}
use Rattle.algebra.specs.Sums.{◌⊕◌, sum}
use Rattle.algebra.specs.Codeword.{byte_at}
use Rattle.algebra.proofs.Sums as sums
use Rattle.algebra.proofs.Codeword.{slot}
use Rattle.buffers.specs.Parts.{put, Sum}
use Rattle.symbol_sums.specs.declared.chunk.Chunk64.{Chunk64}
use Rattle.symbol_sums.specs.Gather.{gathered, Replaced, summed, byte_before, Chunk16Is, Written, SumWritten}
use Rattle.symbol_sums.specs.Chunks.{Chunk64Is, PlusBytes}
use Rattle.buffers.proofs.Put.{put-length, put_out, put_in, from_zero}

-- ---- one position after the other

gathered_next : (u : ℕ → ℕ) (xs : List ℕ) (i s : ℕ) → s ⊕ gathered u xs i ⊕ u (get_or xs i 0) ≡ s ⊕ gathered u xs (i + 1)
unfolding sum
gathered_next u xs i s = sums.assoc s (gathered u xs i) (u (get_or xs i 0)) ∙ ap (λ (n : ℕ). s ⊕ gathered u xs n) (sym (add-one i))

-- what `holds` of a chunk (`chunk::Chunk`) says of the positions added so far
module _ (f : ℕ → ℕ) (w : ℕ) (src xs : List ℕ) where
  -- none
  pub summed_none : f ≡ summed f w src xs 0
  unfolding sum summed
  summed_none = fun_ext (λ b. sym (sums.unit (f b)))

  -- one more, which stands at index o
  pub summed_next : {c n : ℕ} (i : ℕ) {o : ℕ} → o ≡ get_or xs i 0 * w + c → PlusBytes (summed f w src xs i) (summed f w src xs (i + 1)) c n src o
  unfolding summed
  summed_next {c} i {o} e = record {
    each = λ b l.
        sym (gathered_next (byte_at w src (c + b)) xs i (f (c + b)))
        ∙ ap (λ (k : ℕ). f (c + b) ⊕ gathered (byte_at w src (c + b)) xs i ⊕ get_or src k 0) (sym (ap (λ (m : ℕ). m + b) e ∙ add_assoc (get_or xs i 0 * w) c b));
  }

-- ---- chunks

-- 16 sums
pub chunk16_plus : {f g : ℕ → ℕ} {c : ℕ} {src t t' : List ℕ} {from : ℕ} → Chunk16Is f c t → PlusBytes f g c 16 src from → Sum t 0 src from 16 t' → Chunk16Is g c t'
chunk16_plus {c = c} {src} {t} {from = from} h p s = record {
  size = s.size;
  each = λ b l. s.each b l ∙ ap (λ (v : ℕ). v ⊕ get_or src (from + b) 0) (from_zero t b ∙ h.each b l) ∙ sym (p.each b l);
}

-- a byte
pub byte_plus : {f g : ℕ → ℕ} {c s : ℕ} {src : List ℕ} {from : ℕ} → s ≡ f c → PlusBytes f g c 1 src from → bit_xor s (get_or src from 0) ≡ g c
unfolding ◌⊕◌
byte_plus {f} {g} {c} {s} {src} {from} h p =
    let z : c + 0 ≡ c = omega arith in
    let y : from + 0 ≡ from = omega arith in
    ap₂ bit_xor (h ∙ ap f (sym z)) (ap (λ (i : ℕ). get_or src i 0) (sym y)) ∙ sym (p.each 0 (omega arith)) ∙ ap g z

-- 16 of 64 bytes
plus_part : {f g : ℕ → ℕ} {c n : ℕ} {src : List ℕ} {from : ℕ} → PlusBytes f g c n src from → (k m : ℕ) → k + m ≤ n → PlusBytes f g (c + k) m src (from + k)
plus_part {f} {g} {c} {src = src} {from} p k m l = record {
  each = λ b h.
      ap g (add_assoc c k b) ∙ p.each (k + b) (omega arith)
      ∙ ap₂ ◌⊕◌ (ap f (sym (add_assoc c k b))) (ap (λ (i : ℕ). get_or src i 0) (sym (add_assoc from k b)));
}

pub chunk64_plus : {f g : ℕ → ℕ} {c : ℕ} {src : List ℕ} {from : ℕ} {s r : Chunk64} → Chunk64Is f c s → PlusBytes f g c 64 src from
    → Sum s.a 0 src from 16 r.a → Sum s.b 0 src (from + 16) 16 r.b → Sum s.c 0 src (from + 32) 16 r.c → Sum s.d 0 src (from + 48) 16 r.d → Chunk64Is g c r
chunk64_plus h p a b c d = record {
  first = chunk16_plus h.first (record { each = λ k l. p.each k (omega arith) }) a;
  second = chunk16_plus h.second (plus_part p 16 16 (omega arith)) b;
  third = chunk16_plus h.third (plus_part p 32 16 (omega arith)) c;
  fourth = chunk16_plus h.fourth (plus_part p 48 16 (omega arith)) d;
}

-- ---- the symbol before

-- it lies in the buffer, as symbol j does, which it comes before
pub prev_within : (w j : ℕ) (prev : Option ℕ) {m : ℕ} → IfSome prev (λ i. i < j) → j * w + w ≤ m → IfSome prev (λ i. i * w + w ≤ m)
prev_within w j None h l = tt
prev_within w j (Some i) h l = omega (arith, slot i j w h, l)

-- its bytes, added to zeros
pub before_plus : (w : ℕ) (p : List ℕ) (i c n : ℕ) → PlusBytes (λ b. 0) (byte_before w p (Some i)) c n p (i * w + c)
before_plus w p i c n = record { each = λ b l. ap (λ (k : ℕ). get_or p k 0) (sym (add_assoc (i * w) c b)) ∙ sym (sums.unit_l (get_or p (i * w + c + b) 0)) }

-- ---- part after part

pub put_written : {f : ℕ → ℕ} {at c : ℕ} {p p' t : List ℕ} → Chunk16Is f c t → at + c + 16 ≤ length p → p' ≡ put p (at + c) t 0 16 → Written f at c 16 p p'
put_written {f} {at} {c} {p} {p'} {t} h l e = record {
  size = ap length e ∙ put-length p (at + c) t 0 16;
  outside = λ i o. ap (λ (x : List ℕ). get_or x i 0) e ∙ put_out p (at + c) t 0 16 i (λ b k q. apart i b k q o);
  each = λ b g.
      ap (λ (x : List ℕ). get_or x (at + (c + b)) 0) e ∙ ap (λ (k : ℕ). get_or (put p (at + c) t 0 16) k 0) (sym (add_assoc at c b))
      ∙ put_in p (at + c) t 0 16 b g l ∙ from_zero t b ∙ h.each b g;
}
  where
    apart : (i b : ℕ) → b < 16 → i ≡ at + c + b → (i < at + c) ⊎ (at + (c + 16) ≤ i) → ⊥
    apart i b k q (inl o) = omega arith
    apart i b k q (inr o) = omega arith

-- n bytes from byte c on were written, and then k from byte i on, some of them perhaps again
written_join : {f g : ℕ → ℕ} {at c n i k : ℕ} {p p' p'' : List ℕ} → Written f at c n p p' → Written g at i k p' p'' → ((b : ℕ) → b < i + k → g b ≡ f b)
    → c ≤ i → i ≤ c + n → c + n ≤ i + k → (m : ℕ) → c + m ≡ i + k → Written f at c m p p''
written_join {f} {g} {at} {c} {n} {i} {k} {p} {p'} {p''} h r same l₁ l₂ l₃ m em = record {
  size = r.size ∙ h.size;
  outside = out;
  each = λ b q. go b q (dec_lt (c + b) i);
}
  where
    out : (t : ℕ) → (t < at + c) ⊎ (at + (c + m) ≤ t) → get_or p'' t 0 ≡ get_or p t 0
    out t (inl o) = r.outside t (inl (omega arith)) ∙ h.outside t (inl o)
    out t (inr o) = r.outside t (inr (omega arith)) ∙ h.outside t (inr (omega arith))

    go : (b : ℕ) → b < m → Dec (c + b < i) → get_or p'' (at + (c + b)) 0 ≡ f (c + b)
    go b q (yes d) = r.outside (at + (c + b)) (inl (omega arith)) ∙ h.each b (omega arith)
    go b q (no d) =
        let z : i + (c + b - i) ≡ c + b = omega arith in
        subst (λ (j : ℕ). get_or p'' (at + j) 0 ≡ f j) z (r.each (c + b - i) (omega arith) ∙ same (i + (c + b - i)) (omega arith))

-- the next 16 bytes
written_next : {f : ℕ → ℕ} {at c n : ℕ} {p p' p'' t : List ℕ} → Written f at c n p p' → Chunk16Is f (c + n) t → at + c + n + 16 ≤ length p
    → p'' ≡ put p' (at + c + n) t 0 16 → Written f at c (n + 16) p p''
written_next {f} {at} {c} {n} {p} {p'} {t = t} h b l e =
    written_join h (put_written b (omega (arith, h.size)) (e ∙ ap (λ (k : ℕ). put p' k t 0 16) (add_assoc at c n))) (λ b q. refl) (omega arith) (omega arith) (omega arith) (n + 16) (omega arith)

-- 64 bytes, one part after the other
pub put64_written : {f : ℕ → ℕ} {at c : ℕ} {p p₁ p₂ p₃ p₄ : List ℕ} {s : Chunk64} → Chunk64Is f c s → at + c + 64 ≤ length p → p₁ ≡ put p (at + c) s.a 0 16
    → p₂ ≡ put p₁ (at + c + 16) s.b 0 16 → p₃ ≡ put p₂ (at + c + 32) s.c 0 16 → p₄ ≡ put p₃ (at + c + 48) s.d 0 16 → Written f at c 64 p p₄
put64_written h l e₁ e₂ e₃ e₄ =
    written_next
    (written_next (written_next (put_written h.first (omega arith) e₁) h.second (omega arith) e₂) h.third (omega arith) e₃)
    h.fourth (omega arith) e₄

-- where it stands at index i
pub put16_at : {f : ℕ → ℕ} {at c i : ℕ} {p p' t : List ℕ} → Chunk16Is f c t → i ≡ at + c → i + 16 ≤ length p → p' ≡ put p i t 0 16 → Written f at c 16 p p'
put16_at {p = p} {t = t} h e l q = put_written h (omega (arith, e, l)) (q ∙ ap (λ (k : ℕ). put p k t 0 16) e)

pub put64_at : {f : ℕ → ℕ} {at c i : ℕ} {p p₁ p₂ p₃ p₄ : List ℕ} {s : Chunk64} → Chunk64Is f c s → i ≡ at + c → i + 64 ≤ length p → p₁ ≡ put p i s.a 0 16
    → p₂ ≡ put p₁ (i + 16) s.b 0 16 → p₃ ≡ put p₂ (i + 32) s.c 0 16 → p₄ ≡ put p₃ (i + 48) s.d 0 16 → Written f at c 64 p p₄
put64_at {p = p} {p₁} {p₂} {p₃} {s = s} h e l e₁ e₂ e₃ e₄ =
    put64_written h (omega (arith, e, l)) (e₁ ∙ ap (λ (k : ℕ). put p k s.a 0 16) e) (e₂ ∙ ap (λ (k : ℕ). put p₁ (k + 16) s.b 0 16) e)
    (e₃ ∙ ap (λ (k : ℕ). put p₂ (k + 32) s.c 0 16) e) (e₄ ∙ ap (λ (k : ℕ). put p₃ (k + 48) s.d 0 16) e)

pub written_none : {f : ℕ → ℕ} {at : ℕ} {p : List ℕ} → Written f at 0 0 p p
written_none = record { size = refl; outside = λ t o. refl; each = λ b g. absurd (not-suc-le-zero g) }

-- the whole symbol
written_replaced : {f g : ℕ → ℕ} {w j c : ℕ} {p p' : List ℕ} → Written f (j * w) 0 c p p' → c ≡ w → ((b : ℕ) → f b ≡ g b) → Replaced g w j p p'
written_replaced {f} {g} {w} {j} {c} {p} {p'} h e same = record { size = h.size; outside = out; each = each }
  where
    out : (t : ℕ) → (t < j * w) ⊎ (j * w + w ≤ t) → get_or p' t 0 ≡ get_or p t 0
    out t (inl o) = h.outside t (inl (omega arith))
    out t (inr o) = h.outside t (inr (omega arith))

    each : (b : ℕ) → b < w → byte_at w p' b j ≡ g b
    each b q =
        let z : 0 + b ≡ b = omega arith in
        subst (λ (m : ℕ). get_or p' (j * w + m) 0 ≡ f m) z (h.each b (omega arith)) ∙ same b

pub sum_replaced : (w j : ℕ) (prev : Option ℕ) (src xs : List ℕ) (n : ℕ) {c : ℕ} {p p' : List ℕ} → SumWritten w j prev src xs n 0 c p p' → c ≡ w
    → Replaced (λ b. byte_before w p prev b ⊕ gathered (byte_at w src b) xs n) w j p p'
unfolding summed
sum_replaced w j prev src xs n h e = written_replaced h e (λ b. refl)

pub restore_replaced : (w j : ℕ) (xs : List ℕ) (n : ℕ) {c : ℕ} {p p' : List ℕ} → SumWritten w j None p xs n 0 c p p' → c ≡ w
    → Replaced (λ b. gathered (byte_at w p b) xs n) w j p p'
unfolding summed
restore_replaced w j xs n {p = p} h e = written_replaced h e (λ b. sums.unit_l (gathered (byte_at w p b) xs n))

-- ---- what is written isn't read again

-- symbol i isn't among the bytes written of symbol j
other : {f : ℕ → ℕ} {w j c : ℕ} {p p' : List ℕ} → Written f (j * w) 0 c p p' → c ≤ w → (i b : ℕ) → b < w → i ≢ j → byte_at w p' b i ≡ byte_at w p b i
other {f} {w} {j} {c} {p} {p'} h l i b q ne = go (dec_lt i j)
  where
    go : Dec (i < j) → byte_at w p' b i ≡ byte_at w p b i
    go (yes d) = h.outside (i * w + b) (inl (omega (arith, slot i j w d)))
    go (no d) =
        let d' : j < i = above (dec_lt j i) in
        h.outside (i * w + b) (inr (omega (arith, slot j i w d')))
      where
        above : Dec (j < i) → j < i
        above (yes a) = a
        above (no a) = let e : i ≡ j = omega arith in absurd (ne e)

before-kept : (j : ℕ) {f : ℕ → ℕ} {w c : ℕ} {p p' : List ℕ} → Written f (j * w) 0 c p p' → c ≤ w → (prev : Option ℕ) (b : ℕ) → IfSome prev (λ i. i < j) → b < w
    → byte_before w p' prev b ≡ byte_before w p prev b
before-kept j h l None b le q = refl
before-kept j h l (Some i) b le q = other h l i b q (λ e. omega arith)

-- c bytes of symbol j were written, and then k from byte i on, and the symbols that are added hold what they held
symbol-join : (w j : ℕ) (prev : Option ℕ) (src src' xs : List ℕ) (n : ℕ) {p p' p'' : List ℕ} {c i k : ℕ} → IfSome prev (λ i. i < j)
    → ((x b : ℕ) → x < n → b < w → byte_at w src' b (get_or xs x 0) ≡ byte_at w src b (get_or xs x 0))
    → SumWritten w j prev src xs n 0 c p p' → SumWritten w j prev src' xs n i k p' p'' → i ≤ c → c ≤ i + k → i + k ≤ w
    → SumWritten w j prev src xs n 0 (i + k) p p''
unfolding summed
symbol-join w j prev src src' xs n {i = i} {k} le same h g l₁ l₂ l₃ =
    written_join h g
    (λ b q.
    ap₂ ◌⊕◌ (before-kept j h (omega arith) prev b le (omega arith))
    (sums.sum_ext (λ x. true) (λ x. byte_at w src' b (get_or xs x 0)) (λ x. byte_at w src b (get_or xs x 0)) n (λ x r. same x b r (omega arith))))
    (omega arith) (omega arith) (omega arith) (i + k) (omega arith)

-- they are another buffer's
pub sum-join : (w j : ℕ) (prev : Option ℕ) (src xs : List ℕ) (n : ℕ) {p p' p'' : List ℕ} {c i k : ℕ} → IfSome prev (λ i. i < j) → SumWritten w j prev src xs n 0 c p p'
    → SumWritten w j prev src xs n i k p' p'' → i ≤ c → c ≤ i + k → i + k ≤ w → SumWritten w j prev src xs n 0 (i + k) p p''
sum-join w j prev src xs n le = symbol-join w j prev src src xs n le (λ x b r q. refl)

-- they are the same buffer's, and symbol j is none of them
pub restore_join : (w j : ℕ) (xs : List ℕ) (n : ℕ) {p p' p'' : List ℕ} {c i k : ℕ} → ((x : ℕ) → x < n → get_or xs x 0 ≢ j)
    → SumWritten w j None p xs n 0 c p p' → SumWritten w j None p' xs n i k p' p'' → i ≤ c → c ≤ i + k → i + k ≤ w → SumWritten w j None p xs n 0 (i + k) p p''
restore_join w j xs n {p} {p'} ne h g l₁ l₂ l₃ =
    symbol-join w j None p p' xs n tt (λ x b r q. other h (omega arith) (get_or xs x 0) b q (ne x r)) h g l₁ l₂ l₃
