-- Symbols in a list of bytes: equal ones, their bytes, and the bytes after one was stored.
-- Assumes nothing.
use mathlib.Core.Path.{◌≡◌, ◌∙◌, refl, sym, ap, ap₂, subst}
use mathlib.Core.Logic.{◌↔◌, ◌≢◌}
use mathlib.Core.Bool.{Bool, true, false, false≢true}
use mathlib.Core.List.{List, [], ◌∷◌, ◌++◌, append_assoc}
use Prim.Native.Nat.{ℕ, ◌+◌, ◌-◌, ◌*◌, ◌≤◌, ◌<◌}
use native.Mathlib.Nat.{add-sub_cancel_left}
use native.Mathlib.Decide.{dec_lt}
use native.Mathlib.Omega.{arith}
use lib.Dec.{eqb}
use lib.ListN.{length, get_or, take, drop, length-append, length-drop, get_or-append}
use Rattle.std.specs.Cmp.Lexicographic.{pointwise, same_text, other_text}
use lib.Seq.{take-length, length-take-le, get_or-append-add, get_or-take, get_or-drop, ext_get_or}
use Rattle.algebra.specs.Codeword.{byte_at, symbol_at}
use Rattle.algebra.proofs.Lists.{and_iff, eqb_iff}
use Rattle.algebra.proofs.Codeword.{slot}
use Rattle.buffers.specs.Parts.{put}
use Rattle.buffers.proofs.Put.{put-paste}
use Rattle.block.specs.Take.{same_bytes, stored}

pub same_bytes_lem : (x y : List ℕ) → (same_bytes x y ≡ true) ↔ (x ≡ y)
unfolding same_bytes
same_bytes_lem [] [] = (λ e. refl, λ e. refl)
same_bytes_lem [] (b ∷ y) = (λ e. absurd (false≢true e), λ e. let z : ◌≡◌ {A = ℕ} 0 1 = cc in absurd (omega arith))
same_bytes_lem (a ∷ x) [] = (λ e. absurd (false≢true e), λ e. let z : ◌≡◌ {A = ℕ} 0 1 = cc in absurd (omega arith))
same_bytes_lem (a ∷ x) (b ∷ y) = (
  λ e. let t = (and_iff (eqb a b) (same_bytes x y)).0 e in ap₂ ◌∷◌ ((eqb_iff a b).0 t.0) ((same_bytes_lem x y).0 t.1),
  λ e. (and_iff (eqb a b) (same_bytes x y)).1 ((eqb_iff a b).1 (cc), (same_bytes_lem x y).1 (cc)),
)

module _ (n w : ℕ) (l : List ℕ) (size : length l ≡ n * w) (i : ℕ) (h : i < n) where
  room : w ≤ length (drop (i * w) l)
  room = subst (λ (k : ℕ). w ≤ k) (sym (length-drop (i * w) l)) (omega (arith, slot i n w h))

  pub length-symbol : length (symbol_at w l i) ≡ w
  length-symbol = length-take-le w (drop (i * w) l) room

  pub symbol-byte : (j : ℕ) → j < w → get_or (symbol_at w l i) j 0 ≡ byte_at w l j i
  symbol-byte j k = get_or-take w (drop (i * w) l) j 0 k ∙ get_or-drop (i * w) l j 0

  -- the symbol at a position, from its bytes
  pub symbol_is : (x : List ℕ) → length x ≡ w → ((j : ℕ) → j < w → byte_at w l j i ≡ get_or x j 0) → symbol_at w l i ≡ x
  symbol_is x e f =
      ext_get_or 0 (symbol_at w l i) x (length-symbol ∙ sym e) (λ j k.
      let r : j < w = subst (λ (m : ℕ). j < m) length-symbol k in
      symbol-byte j r ∙ f j r)

-- the bytes after a symbol was stored
module _ (n w : ℕ) (l : List ℕ) (size : length l ≡ n * w) (p : ℕ) (h : p < n) (x : List ℕ) (e : length x ≡ w) where
  head_size : length (take (p * w) l) ≡ p * w
  head_size = length-take-le (p * w) l (omega (arith, slot p n w h))

  pub length-stored : length (stored l (p * w) x) ≡ n * w
  length-stored =
      length-append (take (p * w) l) (x ++ drop (p * w + length x) l)
      ∙ ap₂ ◌+◌ head_size (length-append x (drop (p * w + length x) l) ∙ ap (λ (k : ℕ). length x + k) (length-drop (p * w + length x) l))
      ∙ omega (arith, slot p n w h)

  -- index t of the list is before the symbol, in it, or after it
  before : (t : ℕ) → t < p * w → get_or (stored l (p * w) x) t 0 ≡ get_or l t 0
  before t k =
      get_or-append (take (p * w) l) (x ++ drop (p * w + length x) l) 0 t (subst (λ (m : ℕ). t < m) (sym head_size) k)
      ∙ get_or-take (p * w) l t 0 k

  past : (t : ℕ) → get_or (stored l (p * w) x) (p * w + t) 0 ≡ get_or (x ++ drop (p * w + length x) l) t 0
  past t = ap (λ (m : ℕ). get_or (stored l (p * w) x) (m + t) 0) (sym head_size) ∙ get_or-append-add (take (p * w) l) (x ++ drop (p * w + length x) l) t 0

  pub stored_same : (j : ℕ) → j < w → byte_at w (stored l (p * w) x) j p ≡ get_or x j 0
  stored_same j k = past j ∙ get_or-append x (drop (p * w + length x) l) 0 j (omega arith)

  after : (t : ℕ) → get_or (stored l (p * w) x) (p * w + (length x + t)) 0 ≡ get_or l (p * w + (length x + t)) 0
  after t =
      past (length x + t) ∙ get_or-append-add x (drop (p * w + length x) l) t 0 ∙ get_or-drop (p * w + length x) l t 0
      ∙ ap (λ (m : ℕ). get_or l m 0) (omega arith)

  pub stored_other : (i j : ℕ) → j < w → i ≢ p → byte_at w (stored l (p * w) x) j i ≡ byte_at w l j i
  stored_other i j k d = go (dec_lt i p)
    where
      go : Dec (i < p) → byte_at w (stored l (p * w) x) j i ≡ byte_at w l j i
      go (yes g) = before (i * w + j) (omega (arith, slot i p w g))
      go (no g) =
          let k : p < i = omega arith in
          let s : p * w + w ≤ i * w = slot p i w k in
          let m : p * w + (length x + (i * w + j - (p * w + w))) ≡ i * w + j = omega arith in
          subst (λ (t : ℕ). get_or (stored l (p * w) x) t 0 ≡ get_or l t 0) m (after (i * w + j - (p * w + w)))

-- ---- a part of a buffer, as the code has it

-- the part of w bytes from index a
pub part_is : (s : List ℕ) (a w : ℕ) → take (a + w - a) (drop a s) ≡ take w (drop a s)
part_is s a w = ap (λ (k : ℕ). take k (drop a s)) (add-sub_cancel_left a w)

-- what a comparison said
pub same_is : (x y : List ℕ) (r : Bool) → r ≡ pointwise eqb x y → same_bytes x y ≡ r
same_is x y true e = (same_bytes_lem x y).1 (same_text x y e)
same_is x y false e = go (same_bytes x y) refl
  where
    go : (t : Bool) → same_bytes x y ≡ t → t ≡ false
    go true d = absurd (other_text x y e ((same_bytes_lem x y).0 d))
    go false d = refl

-- w bytes put from index a on
pub stores : (s y x : List ℕ) (a w : ℕ) → length y ≡ w → a + w ≤ length s → x ≡ put s a y 0 w → x ≡ stored s a y
stores s y x a w e h q =
    q ∙ ap (put s a y 0) (sym e) ∙ put-paste s a y (length y) (omega (arith, h, e)) (omega arith)
    ∙ ap (λ (l : List ℕ). take a s ++ l ++ drop (a + length y) s) (take-length y) ∙ append_assoc (take a s) y (drop (a + length y) s)
