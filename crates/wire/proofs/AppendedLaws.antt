-- Bytes appended in an output: one, several one after the other, a whole output, and a list in parts that may overlap.
-- Assumes nothing.
use mathlib.Core.Path.{◌≡◌, ◌∙◌, sym, ap, ap₂, refl, subst}
use mathlib.Core.List.{List, [], ◌∷◌, ◌++◌, append_assoc}
use Prim.Native.Nat.{ℕ, ◌+◌, ◌<◌, ◌≤◌}
use native.Mathlib.Numerals.{add-one}
use native.Mathlib.Omega.{arith}
use lib.ListN.{length, take, drop, get_or, set, length-append, length-set, length-drop}
use lib.Seq.{take_all, take-length, take-suc-set, take-take, take-add, take-append-add, take_at, length-take-le, drop-cons, drop-drop}
use Rattle.wire.specs.inner.Appended.{Appended}

pub append_one : (l : List ℕ) (at e x : ℕ) → e ≡ at + 1 → at < length l → Appended l (set l at x) at e (x ∷ [])
append_one l at e x z h = record { to = z; front = rw (z, add-one) (take-suc-set l at x h); kept = length-set l at x }

pub then_appended : {l₀ l₁ l₂ : List ℕ} {a b c : ℕ} {x y : List ℕ} → Appended l₀ l₁ a b x → Appended l₁ l₂ b c y → Appended l₀ l₂ a c (x ++ y)
then_appended {l₀} {l₁} {l₂} {a} {b} {c} {x} {y} p q =
    record {
      to = omega (arith, p.to, q.to, length-append x y);
      front = q.front ∙ ap (λ (l : List ℕ). l ++ y) p.front ∙ append_assoc (take a l₀) x y;
      kept = q.kept ∙ p.kept;
    }

-- an output that is filled from its start to its end
pub appended-whole : {l₀ l₁ : List ℕ} {e : ℕ} {x : List ℕ} → Appended l₀ l₁ 0 e x → length x ≡ length l₀ → l₁ ≡ x
appended-whole {l₀} {l₁} {e} p h = sym (take_all e l₁ (omega (arith, p.to, p.kept))) ∙ p.front

-- ---- parts of a list, put one after the other

pub part-one : (s : List ℕ) (f : ℕ) → f + 1 ≤ length s → get_or s f 0 ∷ [] ≡ take 1 (drop f s)
part-one s f h = sym (ap (take 1) (drop-cons s f 0 (omega arith)))

-- two parts that meet
pub joined : (m n f : ℕ) (s : List ℕ) → take m (drop f s) ++ take n (drop (f + m) s) ≡ take (m + n) (drop f s)
joined m n f s = sym (take-add m n (drop f s) ∙ ap (λ (l : List ℕ). take m (drop f s) ++ take n l) (drop-drop m f s))

-- where a part ends
pub part_end : {l₀ l₁ : List ℕ} {at e : ℕ} (m f : ℕ) (s : List ℕ) → Appended l₀ l₁ at e (take m (drop f s)) → f + m ≤ length s → e ≡ at + m
part_end {at = at} m f s p h = p.to ∙ ap (λ (n : ℕ). at + n) (length-take-le m (drop f s) (rw length-drop (omega arith)))

-- the next part is put
pub then_part : {l₀ l₁ l₂ : List ℕ} {a b c : ℕ} (m n f : ℕ) (s : List ℕ) {x y : List ℕ} → Appended l₀ l₁ a b x → x ≡ take m (drop f s) → Appended l₁ l₂ b c y
    → y ≡ take n (drop (f + m) s) → Appended l₀ l₂ a c (take (m + n) (drop f s))
then_part {l₀} {l₁} {l₂} {a} {b} {c} m n f s p e q h =
    subst (λ (x : List ℕ). Appended l₀ l₂ a c x) (ap₂ (λ (x y : List ℕ). x ++ y) e h ∙ joined m n f s) (then_appended p q)

-- ---- bytes appended twice at one position

-- what stood before position `at` stands there still
before : {l₀ l₁ : List ℕ} {at e : ℕ} {x : List ℕ} → Appended l₀ l₁ at e x → at ≤ length l₀ → take at l₁ ≡ take at l₀
before {l₀} {l₁} {at} {e} {x} p h =
    sym (take-take at e l₁ (omega (arith, p.to))) ∙ ap (take at) p.front ∙ take_at (take at l₀) x at (length-take-le at l₀ h)

-- the bytes stand since then
pub appended_since : {l₀ l₁ : List ℕ} {at e : ℕ} {x : List ℕ} → Appended l₀ l₁ at e x → at ≤ length l₀ → Appended l₁ l₁ at e x
appended_since {l₀} {l₁} {at} {e} {x} p h = record { to = p.to; front = p.front ∙ ap (λ (l : List ℕ). l ++ x) (sym (before p h)); kept = refl }

-- others are put over them
pub appended_over : {l₀ l₁ l₂ : List ℕ} {at d e : ℕ} {x y : List ℕ} → Appended l₀ l₁ at d x → at ≤ length l₀ → Appended l₁ l₂ at e y → Appended l₀ l₂ at e y
appended_over {l₀} {l₁} {l₂} {at} {d} {e} {x} {y} p h q =
    record { to = q.to; front = q.front ∙ ap (λ (l : List ℕ). l ++ y) (before p h); kept = q.kept ∙ p.kept }

-- ---- a list put from a position on, in parts that may overlap

-- the first i bytes of s stand from position `at` on
abbrev pub Copied : List ℕ → List ℕ → ℕ → List ℕ → ℕ → Type 0
Copied l₀ l at s i = Appended l₀ l at (at + i) (take i s)

pub copied_first : {l₀ l₁ : List ℕ} {at e : ℕ} (m : ℕ) (s : List ℕ) → Appended l₀ l₁ at e (take m s) → m ≤ length s → Copied l₀ l₁ at s m
copied_first {l₀} {l₁} {at} m s p h = subst (λ (n : ℕ). Appended l₀ l₁ at n (take m s)) (p.to ∙ ap (λ (n : ℕ). at + n) (length-take-le m s h)) p

-- then so do the first j, for a smaller j
pub copied_less : {l₀ l₁ : List ℕ} {at i : ℕ} (j : ℕ) (s : List ℕ) → Copied l₀ l₁ at s i → j ≤ i → j ≤ length s → at ≤ length l₀ → Copied l₀ l₁ at s j
copied_less {l₀} {l₁} {at} {i} j s p h q r =
    record {
      to = ap (λ (n : ℕ). at + n) (sym (length-take-le j s q));
      front =
          sym (take-take (at + j) (at + i) l₁ (omega arith)) ∙ ap (take (at + j)) p.front
          ∙ ap (λ (n : ℕ). take (n + j) (take at l₀ ++ take i s)) (sym (length-take-le at l₀ r))
          ∙ take-append-add (take at l₀) (take i s) j ∙ ap (λ (x : List ℕ). take at l₀ ++ x) (take-take j i s h);
      kept = p.kept;
    }

-- m bytes from index j on are put, where the first i stand already and j is not above i
over : {l₀ l₁ l₂ : List ℕ} {at i j e : ℕ} (m : ℕ) (s : List ℕ) → Copied l₀ l₁ at s i → Appended l₁ l₂ (at + j) e (take m (drop j s)) → j ≤ i → j + m ≤ length s
    → at ≤ length l₀ → Appended l₀ l₂ at e (take (j + m) s)
over {l₀} {l₁} {l₂} {at} {i} {j} {e} m s p q h r a =
    subst (λ (x : List ℕ). Appended l₀ l₂ at e x) (sym (take-add j m s)) (then_appended (copied_less j s p h (omega arith) a) q)

pub copied_on : {l₀ l₁ l₂ : List ℕ} {at i j e : ℕ} (m : ℕ) (s : List ℕ) → Copied l₀ l₁ at s i → Appended l₁ l₂ (at + j) e (take m (drop j s)) → j ≤ i
    → j + m ≤ length s → at ≤ length l₀ → Copied l₀ l₂ at s (j + m)
copied_on {j = j} m s p q h r a = copied_first (j + m) s (over m s p q h r a) r

-- the last of them
pub copied_all : {l₀ l₁ l₂ : List ℕ} {at i j e : ℕ} (m : ℕ) (s : List ℕ) → Copied l₀ l₁ at s i → Appended l₁ l₂ (at + j) e (take m (drop j s)) → j ≤ i
    → j + m ≡ length s → at ≤ length l₀ → Appended l₀ l₂ at e s
copied_all {l₀} {l₁} {l₂} {at} {i} {j} {e} m s p q h r a =
    subst (λ (x : List ℕ). Appended l₀ l₂ at e x) (ap (λ (n : ℕ). take n s) r ∙ take-length s) (over m s p q h (omega arith) a)
