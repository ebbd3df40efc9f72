-- Where a unit is refused with 6, bytes that come after it change the answer.
-- Assumes nothing.
use mathlib.Core.Path.{◌≡◌, ◌∙◌, sym, ap, refl, subst}
use mathlib.Core.Bool.{Bool, true, false, cond, not, ◌&&◌}
use mathlib.Core.List.{List, [], ◌∷◌, ◌++◌, append_assoc}
use mathlib.Core.Option.{Option, some}
use Prim.Native.Nat.{ℕ, zero, suc, ◌+◌, ◌-◌, ◌≤◌, ◌<◌}
use native.Mathlib.Decide.{dec_lt}
use native.Mathlib.Omega.{arith}
use lib.Dec.{eqb, ltb}
use lib.ListN.{length, get_or, replicate, length-append, length-replicate, get_or-replicate}
use lib.Seq.{get_or-append_seam, get_or-append-add}
use borrow.Author.Tests.{lt-leb, le-ltb}
use Rattle.ccsds.specs.RefusalTable.{Refusal, number_of}
use Rattle.ccsds.specs.RefusalTable as refusal
use Rattle.ccsds.specs.Refusals.{Outcome, refused, answered, ◌⟫◌, refuse_if}
use Rattle.wire.specs.Sdnv.{Number, Reading, finished, unfinished, wrong, longer, sdnv_from, number_at}
use Rattle.unit_reader.specs.Reader.{number_or, Coding, ExtensionsRead, Parts, length_at, parameter_at, coding_of, value_of, wrong_type, extension_at, is_some, after, one_more, extensions_of, wrong_header, read_unit}
use Rattle.wire.specs.Bytes.{part}
use Rattle.unit_claims.specs.UnitClaims.{EndsEarly}
use Rattle.ccsds.proofs.Refusals.{never}
use Rattle.wire.proofs.SdnvLaws.{goes_on, by_test}
use Rattle.unit_reader.proofs.ReaderLaws.{from-value, extensions_end, six_bytes}
use Rattle.unit_claims.proofs.FirstByte.{byte_stays, number_stays, extensions_stay, header_stays}

-- ---- a value is never refused with 6

abbrev Not6 : {A : Type 0} → Outcome A → Type 0
Not6 (refused number) = number ≡ 6 → ⊥
Not6 (answered a) = Unit {0}

steps-not_6 : {A B : Type 0} (r : Outcome A) (f : A → Outcome B) → Not6 r → ((a : A) → Not6 (f a)) → Not6 (r ⟫ f)
steps-not_6 (refused number) f h g = h
steps-not_6 (answered a) f h g = g a

test_not_6 : {A : Type 0} (r : Refusal) (b : Bool) (o : Outcome A) → (number_of r ≡ 6 → ⊥) → Not6 o → Not6 (refuse_if r b o)
test_not_6 r true o h g = h
test_not_6 r false o h g = g

parameter_not_6 : (r : Reading) → Not6 (number_or refusal.kind r)
parameter_not_6 (finished x) = tt
parameter_not_6 unfinished = λ e. omega arith
parameter_not_6 wrong = λ e. omega arith

coding-not_6 : (v : List ℕ) → Not6 (coding_of v)
unfolding coding_of
coding-not_6 v =
    steps-not_6 (parameter_at v 0) _ (parameter_not_6 (number_at v 0)) (λ w.
    steps-not_6 (parameter_at v w.end) _ (parameter_not_6 (number_at v w.end)) (λ k.
    steps-not_6 (parameter_at v k.end) _ (parameter_not_6 (number_at v k.end)) (λ n.
    steps-not_6 (parameter_at v n.end) _ (parameter_not_6 (number_at v n.end)) (λ seed.
    test_not_6 refusal.kind (not (eqb seed.end (length v))) (answered (record { w = w.value; k = k.value; n = n.value; seed = seed.value })) (λ e. omega arith) tt))))

value-not_6 : (s : List ℕ) (type a e : ℕ) → Not6 (value_of s type a e)
unfolding value_of
value-not_6 s type a e =
    by_test (Not6 {A = ExtensionsRead}) (eqb type 1) (λ t. steps-not_6 (coding_of (part s a e)) _ (coding-not_6 (part s a e)) (λ p. tt)) (λ t. tt)

-- ---- five bytes FF after an unfinished number make it too long

abbrev ones : List ℕ
ones = replicate 5 255

all_ones : (more v : ℕ) (u : List ℕ) (at : ℕ) → ((i : ℕ) → i < more → (at + i < length u) × (get_or u (at + i) 0 ≡ 255)) → sdnv_from more v u at ≡ wrong
unfolding sdnv_from
all_ones zero v u at h = refl
all_ones (suc more) v u at h =
    let z : at + 0 ≡ at = omega arith in
    let k : suc more - 1 ≡ more = omega arith in
    let f = h 0 (omega arith) in
    let b : get_or u at 0 ≡ 255 = rw z at f.1 in
    goes_on (suc more) v u at (omega arith) (omega (arith, f.0)) (omega arith) (omega arith)
    ∙ rw k
    (all_ones more (longer v (get_or u at 0)) u (at + 1) (λ i l.
    let g = h (i + 1) (omega arith) in
    let q : at + (i + 1) ≡ at + 1 + i = omega arith in
    (omega (arith, g.0), rw q at g.1)))

ends_wrong : (first last : Bool) (r x y : Reading) → (r ≡ unfinished → ⊥) → (y ≡ unfinished → x ≡ wrong)
    → cond first wrong (cond last r y) ≡ unfinished → cond first wrong (cond last r x) ≡ wrong
ends_wrong true last r x y n f e = refl
ends_wrong false true r x y n f e = absurd (n e)
ends_wrong false false r x y n f e = f e

not-unfinished : (b : Bool) (x : Number) → cond b wrong (finished x) ≡ unfinished → ⊥
not-unfinished true x e = let z : ◌≡◌ {A = ℕ} 0 1 = cc in omega arith
not-unfinished false x e = let z : ◌≡◌ {A = ℕ} 0 1 = cc in omega arith

module _ (s : List ℕ) where
  ones-there : (at i : ℕ) → at ≡ length s → i < 5 → (at + i < length (s ++ ones)) × (get_or (s ++ ones) (at + i) 0 ≡ 255)
  ones-there at i e l = (rw (length-append, e) (omega arith), rw e (get_or-append-add s ones i 0 ∙ get_or-replicate 5 i 255 0 l))

  abbrev TooLong : ℕ → ℕ → ℕ → Type 0
  TooLong more v at = sdnv_from more v s at ≡ unfinished → sdnv_from more v (s ++ ones) at ≡ wrong

  byte_too_long : (more v at : ℕ) → at < length s → TooLong more (longer v (get_or s at 0)) (at + 1) → TooLong (suc more) v at
  unfolding sdnv_from
  byte_too_long more v at h f e =
      let b = get_or s at 0 in
      let x : Number = record { value = longer v b; end = at + 1 } in
      let l : at < length (s ++ ones) = rw length-append (omega arith) in
      rw (lt-leb (length (s ++ ones)) at l, byte_stays s ones at h)
      (ends_wrong (eqb v 0 && eqb b 0x80) (ltb b 128) (cond (ltb 4294967295 (longer v b)) wrong (finished x)) _ _
      (not-unfinished (ltb 4294967295 (longer v b)) x) f (rw (lt-leb (length s) at h) at e))

  too_long : (more v at : ℕ) → more ≤ 5 → at ≤ length s → TooLong more v at
  unfolding sdnv_from
  too_long zero v at m a e = refl
  too_long (suc more) v at m a e = go (dec_lt at (length s)) (λ h. too_long more (longer v (get_or s at 0)) (at + 1) (omega arith) (omega arith))
    where
      go : Dec (at < length s) → (at < length s → TooLong more (longer v (get_or s at 0)) (at + 1)) → sdnv_from (suc more) v (s ++ ones) at ≡ wrong
      go (yes h) f = byte_too_long more v at h (f h) e
      go (no h) f = all_ones (suc more) v (s ++ ones) at (λ i l. ones-there at i (omega arith) (omega arith))

-- ---- an extension, the extensions and the unit

-- the answer is another refusal, or the bytes end with what was read
abbrev Decided : List ℕ → Outcome ExtensionsRead → Type 0
Decided u (refused number) = number ≡ 6 → ⊥
Decided u (answered x) = x.end ≡ length u

-- bytes that decide it
abbrev Later : List ℕ → (List ℕ → Outcome ExtensionsRead) → Type 0
Later s f = (bytes : List ℕ) × Decided (s ++ bytes) (f (s ++ bytes))

coding_decided : (u : List ℕ) (e : ℕ) (r : Outcome Coding) → e ≡ length u → Not6 r → Decided u (r ⟫ λ p. answered (record { coding = some p; end = e }))
coding_decided u e (refused number) l n = n
coding_decided u e (answered p) l n = l

value_decided : (u : List ℕ) (type a e : ℕ) → e ≡ length u → Decided u (value_of u type a e)
unfolding value_of
value_decided u type a e l = by_test (Decided u) (eqb type 1) (λ t. coding_decided u e (coding_of (part u a e)) l (coding-not_6 (part u a e))) (λ t. l)

wrong_type_lem : (s : List ℕ) (came : Bool) (at : ℕ) → at < length s → wrong_type came (get_or s at 0) ≡ true → extension_at s came at ≡ refused 20
unfolding extension_at
wrong_type_lem s came at h t = rw (lt-leb _ _ h, t)

-- a type 0 after the last byte
zero_type : (s : List ℕ) (came : Bool) (at : ℕ) → at ≡ length s → extension_at (s ++ (0 ∷ [])) came at ≡ refused 20
unfolding wrong_type
zero_type s came at e =
    wrong_type_lem (s ++ (0 ∷ [])) came at (rw length-append (omega arith)) (rw (e, get_or-append_seam s 0 [] 0))

not_6_of : {A : Type 0} (r : Outcome A) → Not6 r → r ≡ refused 6 → ⊥
not_6_of (refused number) n e = let z : number ≡ 6 = cc in n z
not_6_of (answered a) n e = never (sym e)

-- the extension at a position whose type byte is right, by its length
module _ (u : List ℕ) (came : Bool) (at : ℕ) (here : at < length u) (type : wrong_type came (get_or u at 0) ≡ false) where
  wrong-length : number_at u (at + 1) ≡ wrong → extension_at u came at ≡ refused 19
  unfolding extension_at length_at
  wrong-length q = rw (lt-leb _ _ here, type, q)

  right_length : {x : Number} → number_at u (at + 1) ≡ finished x → x.end + x.value ≤ length u
      → extension_at u came at ≡ value_of u (get_or u at 0) x.end (x.end + x.value)
  unfolding length_at
  right_length {x} q l = from-value u came at here type (rw (q, le-ltb (length u) (x.end + x.value) l))

module _ (s : List ℕ) (came : Bool) (at : ℕ) (here : at < length s) (type : wrong_type came (get_or s at 0) ≡ false) (e : extension_at s came at ≡ refused 6) where
  here_too : (bytes : List ℕ) → at < length (s ++ bytes)
  here_too bytes = rw length-append (omega arith)

  type_too : (bytes : List ℕ) → wrong_type came (get_or (s ++ bytes) at 0) ≡ false
  type_too bytes = rw (byte_stays s bytes at here) type

  by_past : (x : Number) → number_at s (at + 1) ≡ finished x → Dec (length s < x.end + x.value) → Later s (λ u. extension_at u came at)
  by_past x q (yes l) =
      let n = x.end + x.value in
      let zeros : List ℕ = replicate (n - length s) 0 in
      let u = s ++ zeros in
      let m : n ≡ length u = rw (length-append, length-replicate) (omega arith) in
      let r : number_at u (at + 1) ≡ finished x = number_stays s zeros 5 0 (at + 1) (λ z. not-unfinished false x (sym q ∙ z)) ∙ q in
      (zeros, subst (Decided u) (sym (right_length u came at (here_too zeros) (type_too zeros) r (omega arith))) (value_decided u (get_or u at 0) x.end n m))
  by_past x q (no l) =
      absurd (not_6_of (value_of s (get_or s at 0) x.end (x.end + x.value)) (value-not_6 s (get_or s at 0) x.end (x.end + x.value))
      (sym (right_length s came at here type q (omega arith)) ∙ e))

  by_number : (r : Reading) → number_at s (at + 1) ≡ r → Later s (λ u. extension_at u came at)
  by_number (finished x) q = by_past x q (dec_lt (length s) (x.end + x.value))
  by_number unfinished q =
      let r : number_at (s ++ ones) (at + 1) ≡ wrong = too_long s 5 0 (at + 1) (omega arith) (omega arith) q in
      (ones, subst (Decided (s ++ ones)) (sym (wrong-length (s ++ ones) came at (here_too ones) (type_too ones) r)) (λ z. omega arith))
  by_number wrong q = absurd (not_6_of {A = ExtensionsRead} (refused 19) (λ z. omega arith) (sym (wrong-length s came at here type q) ∙ e))

extension-later : (s : List ℕ) (came : Bool) (at : ℕ) → at ≤ length s → extension_at s came at ≡ refused 6 → Later s (λ u. extension_at u came at)
extension-later s came at l e = go (dec_lt at (length s))
  where
    by_type : at < length s → (b : Bool) → wrong_type came (get_or s at 0) ≡ b → Later s (λ u. extension_at u came at)
    by_type h true t = absurd (not_6_of {A = ExtensionsRead} (refused 20) (λ z. omega arith) (sym (wrong_type_lem s came at h t) ∙ e))
    by_type h false t = by_number s came at h t e (number_at s (at + 1)) refl

    go : Dec (at < length s) → Later s (λ u. extension_at u came at)
    go (yes h) = by_type h (wrong_type came (get_or s at 0)) refl
    go (no h) = (0 ∷ [], subst (Decided (s ++ (0 ∷ []))) (sym (zero_type s came at (omega arith))) (λ z. omega arith))

-- ---- the walk

-- with what came before
abbrev joined : (Option Coding → Option Coding) → ExtensionsRead → Outcome ExtensionsRead
joined f x = answered (record { coding = f x.coding; end = x.end })

joined_decided : (u : List ℕ) (f : Option Coding → Option Coding) (r : Outcome ExtensionsRead) → Decided u r → Decided u (r ⟫ joined f)
joined_decided u f (refused number) d = d
joined_decided u f (answered x) d = d

-- what is refused with 6 was so before it went on
of_6 : {A B : Type 0} (r : Outcome A) (f : A → B) → (r ⟫ λ x. answered (f x)) ≡ refused 6 → r ≡ refused 6
of_6 (refused number) f e = let z : number ≡ 6 = cc in ap refused z
of_6 (answered x) f e = absurd (never (sym e))

module _ (s : List ℕ) (h : 6 ≤ length s) (count : ℕ) where
  -- the last extension ended early
  last_early : (found : ExtensionsRead) → extensions_of s count ≡ answered found → one_more s found ≡ refused 6 → Later s (λ u. extensions_of u count ⟫ one_more u)
  last_early found q e =
      let came = is_some found.coding in
      let l = extension-later s came found.end (extensions_end s count h q) (of_6 (extension_at s came found.end) _ e) in
      let u = s ++ l.0 in
      let r : extensions_of u count ≡ answered found = extensions_stay s l.0 count (λ z. never (sym z ∙ q)) ∙ q in
      (l.0, subst (λ (x : Outcome ExtensionsRead). Decided u (x ⟫ one_more u)) (sym r) (joined_decided u (after found.coding) (extension_at u came found.end) l.1))

  -- one before it did: bytes that decide it, and a type 0 if those end with it
  earlier_early : (bytes : List ℕ) (r : Outcome ExtensionsRead) → extensions_of (s ++ bytes) count ≡ r → Decided (s ++ bytes) r → Later s (λ u. extensions_of u count ⟫ one_more u)
  earlier_early bytes (refused number) q d = (bytes, subst (λ (x : Outcome ExtensionsRead). Decided (s ++ bytes) (x ⟫ one_more (s ++ bytes))) (sym q) d)
  earlier_early bytes (answered x) q d =
      let u = s ++ bytes ++ (0 ∷ []) in
      let r : extensions_of u count ≡ answered x = extensions_stay (s ++ bytes) (0 ∷ []) count (λ z. never (sym z ∙ q)) ∙ q in
      let z : extension_at u (is_some x.coding) x.end ≡ refused 20 = zero_type (s ++ bytes) (is_some x.coding) x.end d in
      let o : one_more u x ≡ refused 20 = rw z in
      let a : u ≡ s ++ (bytes ++ (0 ∷ [])) = append_assoc s bytes (0 ∷ []) in (
        bytes ++ (0 ∷ []),
        subst (λ (y : List ℕ). Decided y (extensions_of y count ⟫ one_more y)) a
            (subst (λ (y : Outcome ExtensionsRead). Decided u (y ⟫ one_more u)) (sym r) (subst (Decided u) (sym o) (λ n. omega arith))),
      )

extensions_later : (s : List ℕ) → 6 ≤ length s → (count : ℕ) → extensions_of s count ≡ refused 6 → Later s (λ u. extensions_of u count)
unfolding extensions_of
extensions_later s h zero e = absurd (never (sym e))
extensions_later s h (suc count) e = go (extensions_later s h count) (extensions_of s count) refl e
  where
    go : (extensions_of s count ≡ refused 6 → Later s (λ u. extensions_of u count)) → (r : Outcome ExtensionsRead) → extensions_of s count ≡ r → r ⟫ one_more s ≡ refused 6
        → Later s (λ u. extensions_of u count ⟫ one_more u)
    go f (refused number) q e =
        let l = f (q ∙ e) in
        earlier_early s h count l.0 (extensions_of (s ++ l.0) count) refl l.1
    go f (answered found) q e = last_early s h count found q e

by_decided : (u : List ℕ) (f : ExtensionsRead → Parts) (r : Outcome ExtensionsRead) → Decided u r → (r ⟫ λ x. answered (f x)) ≡ refused 6 → ⊥
by_decided u f (refused number) d e = let z : number ≡ 6 = cc in d z
by_decided u f (answered x) d e = never (sym e)

pub six_ends_early : EndsEarly
unfolding read_unit
six_ends_early s e = go (wrong_header s) refl
  where
    go : (b : Bool) → wrong_header s ≡ b → (bytes : List ℕ) × (read_unit (s ++ bytes) ≡ refused 6 → ⊥)
    go true w = absurd (not_6_of {A = Parts} (refused 5) (λ z. omega arith) (rw w at e))
    go false w =
        let six = six_bytes s w in
        let l = extensions_later s six (get_or s 1 0) (of_6 (extensions_of s (get_or s 1 0)) _ (rw w at e)) in
        let u = s ++ l.0 in
        let header : wrong_header u ≡ false = header_stays s l.0 six ∙ w in
        let count : get_or u 1 0 ≡ get_or s 1 0 = byte_stays s l.0 1 (omega arith) in
        (l.0, λ z. by_decided u _ (extensions_of u (get_or s 1 0)) l.1 (rw (header, count) at z))
