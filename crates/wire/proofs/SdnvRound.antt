-- What is written as an SDNV is read back, wherever it stands, and no other bytes are read as the same number.
-- Assumes nothing.
use mathlib.Core.Path.{◌≡◌, ◌∙◌, ap, refl, subst}
use mathlib.Core.Bool.{Bool, true, false, cond}
use mathlib.Core.List.{List, [], ◌∷◌, ◌++◌, append_assoc}
use Prim.Native.Nat.{ℕ, zero, suc, ◌+◌, ◌-◌, ◌*◌, ◌/◌, ◌%◌, ◌^◌, ◌≤◌, ◌<◌}
use native.Mathlib.Omega.{arith}
use lib.Dec.{eqb}
use lib.ListN.{length, get_or, length-append}
use lib.Seq.{get_or_at, append_snoc}
use borrow.Author.Tests.{eqb-true, eqb-false, eq-eqb, ne_eqb}
use Rattle.wire.specs.Sdnv.{Reading, finished, unfinished, wrong, longer, sdnv_from, group, sdnv_bytes}
use Rattle.wire.specs.Bytes.{part, OfBytes}
use Rattle.wire.specs.SdnvClaims.{ReadsBack, OneForm, Shortest}
use Rattle.wire.proofs.PartLaws.{part_cons}
use Rattle.wire.proofs.SdnvLaws.{last_byte, goes_on, not-zero, grows, small, by_byte, Within, within, Room, room}

-- ---- groups and lengths

few-by : (b : Bool) (x : ℕ) → length (cond b [] (x ∷ [])) ≤ 1
few-by true x = omega arith
few-by false x = omega arith

few : (h : ℕ) → length (group h) ≤ 1
unfolding group
few h = few-by (eqb h 0) (128 + h % 128)

nothing : (h : ℕ) → h ≡ 0 → group h ≡ []
unfolding group
nothing h z = rw (eq-eqb _ _ z)

alone : (h : ℕ) → (h ≡ 0 → ⊥) → group h ≡ (128 + h % 128) ∷ []
unfolding group
alone h z = rw (ne_eqb _ _ z)

none : (h : ℕ) → h ≡ 0 → length (group h) ≡ 0
none h z = ap length (nothing h z)

bytes-length : (v : ℕ) → length (sdnv_bytes v)
    ≡ length (group (v / 268435456)) + length (group (v / 2097152)) + length (group (v / 16384)) + length (group (v / 128)) + 1
unfolding sdnv_bytes
bytes-length v = simp length-append

-- one byte and two
pub in_one : (v : ℕ) → v < 128 → sdnv_bytes v ≡ v ∷ []
unfolding sdnv_bytes
in_one v h =
    let e : v % 128 ≡ v = omega arith in
    rw (nothing (v / 268435456) (omega arith), nothing (v / 2097152) (omega arith), nothing (v / 16384) (omega arith), nothing (v / 128) (omega arith), e)

pub in_two : (v : ℕ) → 128 ≤ v → v < 16384 → sdnv_bytes v ≡ (128 + v / 128) ∷ v % 128 ∷ []
unfolding sdnv_bytes
in_two v l h =
    let e : v / 128 % 128 ≡ v / 128 = omega arith in
    rw (nothing (v / 268435456) (omega arith), nothing (v / 2097152) (omega arith), nothing (v / 16384) (omega arith), alone (v / 128) (λ z. omega arith), e)

pub two_long : (v : ℕ) → (128 ≤ v) × (v < 16384) → length (sdnv_bytes v) ≡ 2
two_long v h = ap length (in_two v h.0 h.1)

pub most_five : (v : ℕ) → length (sdnv_bytes v) ≤ 5
most_five v = omega (arith, bytes-length v, few (v / 268435456), few (v / 2097152), few (v / 16384), few (v / 128))

-- ---- reading back

-- one group that goes on, or none: h is the number down to it
group-by : (b : Bool) (h m at : ℕ) (s pre rest : List ℕ) → eqb h 0 ≡ b → s ≡ pre ++ (cond b [] ((128 + h % 128) ∷ []) ++ rest) → length pre ≡ at
    → {v : ℕ} → v ≡ h / 128
    → sdnv_from (length (cond b [] ((128 + h % 128) ∷ [])) + m) v s at ≡ sdnv_from m h s (at + length (cond b [] ((128 + h % 128) ∷ [])))
group-by true h m at s pre rest p q l e =
    let z : h ≡ 0 = eqb-true h 0 p in
    let k : 0 + m ≡ m = omega arith in
    let a : at + 0 ≡ at = omega arith in
    let w : h / 128 ≡ h = omega arith in
    rw (k, a, e, w)
group-by false h m at s pre rest p q l e =
    let b : get_or s at 0 ≡ 128 + h % 128 = rw q (get_or_at pre (128 + h % 128) rest 0 at l) in
    let k : 1 + m - 1 ≡ m = omega arith in
    let n : h / 128 * 128 + (128 + h % 128) % 128 ≡ h = omega arith in
    let i : at < length s = rw q (rw length-append (omega arith)) in
    let z = eqb-false h 0 p in
    goes_on (1 + m) _ s at (omega arith) i (omega arith) (omega arith) ∙ rw (e, b, k, n)

step : (h m at : ℕ) (s pre rest : List ℕ) → s ≡ pre ++ (group h ++ rest) → length pre ≡ at → {v : ℕ} → v ≡ h / 128
    → sdnv_from (length (group h) + m) v s at ≡ sdnv_from m h s (at + length (group h))
unfolding group
step h m at s pre rest q l e = group-by (eqb h 0) h m at s pre rest refl q l e

-- the four groups, one after the other, and the last byte
pub reads_back : ReadsBack
unfolding sdnv_bytes
reads_back v h before after =
    let g1 = group (v / 268435456) in
    let g2 = group (v / 2097152) in
    let g3 = group (v / 16384) in
    let g4 = group (v / 128) in
    let s = before ++ (sdnv_bytes v ++ after) in
    let m = 5 - (length g1 + length g2 + length g3 + length g4) in
    let n : 5 ≡ length g1 + (length g2 + (length g3 + (length g4 + m))) = omega (arith, few (v / 268435456), few (v / 2097152), few (v / 16384), few (v / 128)) in
    let l1 : length (before ++ g1) ≡ length before + length g1 = simp length-append in
    let l2 : length (before ++ g1 ++ g2) ≡ length before + length g1 + length g2 = simp length-append in
    let l3 : length (before ++ g1 ++ g2 ++ g3) ≡ length before + length g1 + length g2 + length g3 = simp length-append in
    let l4 : length (before ++ g1 ++ g2 ++ g3 ++ g4) ≡ length before + length g1 + length g2 + length g3 + length g4 = simp length-append in
    let q1 : s ≡ before ++ (g1 ++ (g2 ++ g3 ++ g4 ++ (v % 128 ∷ []) ++ after)) = simp append_assoc in
    let q2 : s ≡ before ++ g1 ++ (g2 ++ (g3 ++ g4 ++ (v % 128 ∷ []) ++ after)) = simp append_assoc in
    let q3 : s ≡ before ++ g1 ++ g2 ++ (g3 ++ (g4 ++ (v % 128 ∷ []) ++ after)) = simp append_assoc in
    let q4 : s ≡ before ++ g1 ++ g2 ++ g3 ++ (g4 ++ ((v % 128 ∷ []) ++ after)) = simp append_assoc in
    let q5 : s ≡ before ++ g1 ++ g2 ++ g3 ++ g4 ++ (v % 128 ∷ after) = simp append_assoc in
    let at = length before + length g1 + length g2 + length g3 + length g4 in
    let y : get_or s at 0 ≡ v % 128 = rw q5 (get_or_at (before ++ g1 ++ g2 ++ g3 ++ g4) (v % 128) after 0 at l4) in
    let i : at < length s = rw q5 (rw (length-append, l4) (omega arith)) in
    let e : at + 1 ≡ length before + length (sdnv_bytes v) = omega (arith, bytes-length v) in
    let w : v / 128 * 128 + v % 128 % 128 ≡ v = omega arith in
    ap (λ (k : ℕ). sdnv_from k 0 s (length before)) n
    ∙ step (v / 268435456) _ (length before) s before _ q1 refl (omega arith)
    ∙ step (v / 2097152) _ _ s (before ++ g1) _ q2 l1 (omega arith)
    ∙ step (v / 16384) _ _ s (before ++ g1 ++ g2) _ q3 l2 (omega arith)
    ∙ step (v / 128) m _ s (before ++ g1 ++ g2 ++ g3) _ q4 l3 (omega arith)
    ∙ last_byte m (v / 128) s at (omega (arith, few (v / 268435456), few (v / 2097152), few (v / 16384), few (v / 128))) i (omega arith) (omega arith)
    ∙ rw (y, e, w)

-- ---- one form

-- the groups of a number of at most four, all with the top bit set
heads : ℕ → List ℕ
heads v = group (v / 2097152) ++ group (v / 16384) ++ group (v / 128) ++ group v

-- the last byte after them
heads_last : (v g : ℕ) → g < 128 → heads v ++ (g ∷ []) ≡ sdnv_bytes (v * 128 + g)
unfolding sdnv_bytes heads
heads_last v g h =
    let a : (v * 128 + g) / 268435456 ≡ v / 2097152 = omega arith in
    let b : (v * 128 + g) / 2097152 ≡ v / 16384 = omega arith in
    let c : (v * 128 + g) / 16384 ≡ v / 128 = omega arith in
    let d : (v * 128 + g) / 128 ≡ v = omega arith in
    let e : (v * 128 + g) % 128 ≡ g = omega arith in
    rw (a, b, c, d, e)

-- one group more
heads_more : (v b : ℕ) → v < 2097152 → 128 ≤ b → b < 256 → 0 < longer v b → heads (longer v b) ≡ heads v ++ (b ∷ [])
unfolding heads
heads_more v b l h k z =
    let c : longer v b / 2097152 ≡ v / 16384 = omega arith in
    let d : longer v b / 16384 ≡ v / 128 = omega arith in
    let e : longer v b / 128 ≡ v = omega arith in
    let f : 128 + longer v b % 128 ≡ b = omega arith in
    let g : v / 2097152 ≡ 0 = omega arith in
    rw (c, d, e, alone (longer v b) (λ n. omega arith), f, nothing (v / 2097152) g)

module _ (s : List ℕ) (bytes : OfBytes s) where
  -- the bytes still to be read complete the number's shortest form
  abbrev Completes : ℕ → ℕ → Reading → Type 0
  Completes v at (finished x) = heads v ++ part s at x.end ≡ sdnv_bytes x.value
  Completes v at unfinished = Unit {0}
  Completes v at wrong = Unit {0}

  one_more_lem : (v at : ℕ) (r : Reading) → Within s (at + 1) r → at < length s → heads (longer v (get_or s at 0)) ≡ heads v ++ (get_or s at 0 ∷ [])
      → Completes (longer v (get_or s at 0)) (at + 1) r → Completes v at r
  one_more_lem v at (finished x) w h e q =
      rw (part_cons s at x.end h (omega (arith, w.starts)), ← append_snoc (heads v) (get_or s at 0) (part s (at + 1) x.end), ← e) q
  one_more_lem v at unfinished w h e q = tt
  one_more_lem v at wrong w h e q = tt

  last_of : (v at : ℕ) → at < length s → get_or s at 0 < 128 → heads v ++ part s at (at + 1) ≡ sdnv_bytes (longer v (get_or s at 0))
  last_of v at h b =
      let e : at + 1 - (at + 1) ≡ 0 = omega arith in
      let m : get_or s at 0 % 128 ≡ get_or s at 0 = omega arith in
      rw (part_cons s at (at + 1) h (omega arith), e, m) (heads_last v (get_or s at 0) b)

  completes : (more i v at : ℕ) → i + more ≡ 5 → v < 2 ^ (7 * i) → Completes v at (sdnv_from more v s at)
  unfolding sdnv_from
  completes zero i v at n l = tt
  completes (suc zero) i v at n l =
      by_byte (Completes v at) zero v s at tt tt (λ h b m. last_of v at h b) (λ h z b. tt)
  completes (suc (suc more)) i v at n l =
      by_byte (Completes v at) (suc more) v s at tt tt (λ h b m. last_of v at h b) (λ h z b.
      one_more_lem v at (sdnv_from (suc more) (longer v (get_or s at 0)) s (at + 1)) (within (suc more) (longer v (get_or s at 0)) s (at + 1)) h
      (heads_more v (get_or s at 0) (small v i l 3 (omega arith)) b (bytes at) (not-zero v (get_or s at 0) z b (bytes at)))
      (completes (suc more) (i + 1) (longer v (get_or s at 0)) (at + 1) (omega arith) (grows v i (get_or s at 0 % 128) l (omega arith))))

pub one_form : OneForm
unfolding heads group
one_form s bytes at v end e =
    subst (Completes s bytes 0 at) e (completes s bytes 5 0 0 at refl (omega arith))

-- ---- no fewer

-- j bytes are enough for a number below 2 ^ (7 * j)
enough : (v j : ℕ) → 0 < j → v < 2 ^ (7 * j) → length (sdnv_bytes v) ≤ j
enough v zero h k = absurd (omega arith)
enough v (suc zero) h k =
    omega (arith, bytes-length v, none (v / 268435456) (omega arith), none (v / 2097152) (omega arith), none (v / 16384) (omega arith), none (v / 128) (omega arith))
enough v (suc (suc zero)) h k =
    omega (arith, bytes-length v, none (v / 268435456) (omega arith), none (v / 2097152) (omega arith), none (v / 16384) (omega arith), few (v / 128))
enough v (suc (suc (suc zero))) h k =
    omega (arith, bytes-length v, none (v / 268435456) (omega arith), none (v / 2097152) (omega arith), few (v / 16384), few (v / 128))
enough v (suc (suc (suc (suc zero)))) h k =
    omega (arith, bytes-length v, none (v / 268435456) (omega arith), few (v / 2097152), few (v / 16384), few (v / 128))
enough v (suc (suc (suc (suc (suc j))))) h k = omega (arith, most_five v)

pub shortest : Shortest
shortest v = (
  most_five v,
  λ s at end e.
      let r = subst (Room 0 at) e (room 5 0 0 s at (omega arith)) in
      let z : 0 + (end - at) ≡ end - at = omega arith in
      omega (arith, enough v (end - at) (omega (arith, r.0)) (rw z at r.1), r.0),
)
