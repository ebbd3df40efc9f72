-- Parts of a list, from one position up to another.
-- Assumes nothing.
use mathlib.Core.Path.{◌≡◌, ◌∙◌, sym, ap}
use mathlib.Core.List.{List, ◌∷◌, ◌++◌}
use Prim.Native.Nat.{ℕ, suc, ◌+◌, ◌-◌, ◌≤◌, ◌<◌}
use native.Mathlib.Numerals.{add-one}
use native.Mathlib.Decide.{dec_lt}
use native.Mathlib.Omega.{arith}
use lib.Dec.{lit<}
use lib.ListN.{length, get_or, drop, length-take, length-drop, take-append-drop, get_or-eq_default}
use lib.Seq.{drop-cons, drop-drop, take-add, take_all, length-take-le, get_or-take, get_or-drop}
use Rattle.wire.specs.Bytes.{part, OfBytes}

pub part_length : (s : List ℕ) (a n : ℕ) → a + n ≤ length s → length (part s a (a + n)) ≡ n
part_length s a n h =
    let m : a + n - a ≡ n = omega arith in
    rw m (length-take-le n (drop a s) (rw length-drop (omega arith)))

-- its first element
pub part_cons : (s : List ℕ) (at end : ℕ) → at < length s → at < end → part s at end ≡ get_or s at 0 ∷ part s (at + 1) end
part_cons s at end h l =
    let n : end - at ≡ suc (end - (at + 1)) = omega arith in
    rw (n, drop-cons s at 0 h, add-one)

-- up to the end
pub part_all : (s : List ℕ) (a e : ℕ) → e ≡ length s → part s a e ≡ drop a s
part_all s a e h = take_all (e - a) (drop a s) (rw length-drop (omega arith))

-- two parts side by side, and a part and what comes after it
pub part_then : (s : List ℕ) (a b e : ℕ) → a ≤ b → b ≤ e → part s a b ++ part s b e ≡ part s a e
part_then s a b e h k =
    let n : e - a ≡ b - a + (e - b) = omega arith in
    let m : a + (b - a) ≡ b = omega arith in
    rw (n, take-add (b - a) (e - b) (drop a s), drop-drop (b - a) a s, m)

pub part-rest : (s : List ℕ) (a b : ℕ) → a ≤ b → part s a b ++ drop b s ≡ drop a s
part-rest s a b h =
    let m : a + (b - a) ≡ b = omega arith in
    ap (λ (l : List ℕ). part s a b ++ l) (ap (λ (i : ℕ). drop i s) (sym m) ∙ sym (drop-drop (b - a) a s)) ∙ take-append-drop (b - a) (drop a s)

-- a part of bytes is of bytes
pub part_bytes : (s : List ℕ) (a e : ℕ) → OfBytes s → OfBytes (part s a e)
part_bytes s a e bytes i = go (dec_lt i (e - a))
  where
    go : Dec (i < e - a) → get_or (part s a e) i 0 < 256
    go (yes h) = rw (get_or-take (e - a) (drop a s) i 0 h, get_or-drop a s i 0) (bytes (a + i))
    go (no h) =
        let l : length (part s a e) ≤ i = rw length-take (omega arith) in
        rw (get_or-eq_default (part s a e) 0 l) (lit< tt)
