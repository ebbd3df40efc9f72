-- Bytes that come after those of a unit change what it says only where its own ended early.
-- Assumes nothing.
use mathlib.Core.Path.{◌≡◌, refl}
use mathlib.Core.Bool.{Bool, true, false, cond, ◌&&◌}
use mathlib.Core.List.{List, ◌++◌}
use Prim.Native.Nat.{ℕ, zero, suc, ◌+◌, ◌-◌, ◌≤◌, ◌<◌}
use native.Mathlib.Decide.{dec_lt}
use native.Mathlib.Omega.{arith}
use lib.Dec.{eqb, ltb}
use lib.ListN.{length, get_or, drop, length-append, length-drop, get_or-append}
use lib.Seq.{take-append-le, drop-append-le}
use borrow.Author.Tests.{lt-leb, le-leb, le-ltb, ltb-false}
use Rattle.ccsds.specs.RefusalTable as refusal
use Rattle.ccsds.specs.Refusals.{Outcome, refused, answered, ◌⟫◌, refuse_if}
use Rattle.wire.specs.Sdnv.{Number, Reading, finished, unfinished, wrong, longer, sdnv_from, number_at}
use Rattle.unit_reader.specs.Reader.{number_or, ExtensionsRead, Parts, length_at, value_of, wrong_type, extension_at, is_some, one_more, extensions_of, wrong_header, read_unit}
use Rattle.wire.specs.Bytes.{part}
use Rattle.unit_claims.specs.UnitClaims.{FirstByteDecides}
use Rattle.wire.proofs.SdnvLaws.{ends_early}
use Rattle.unit_reader.proofs.ReaderLaws.{of_length}

module _ (s after : List ℕ) where
  pub byte_stays : (i : ℕ) → i < length s → get_or (s ++ after) i 0 ≡ get_or s i 0
  byte_stays i h = get_or-append s after 0 i h

  longer_than : length s ≤ length (s ++ after)
  longer_than = rw length-append (omega arith)

  part_stays : (a e : ℕ) → a ≤ e → e ≤ length s → part (s ++ after) a e ≡ part s a e
  part_stays a e h l =
      let d : e - a ≤ length (drop a s) = rw length-drop (omega arith) in
      rw (drop-append-le a s after (omega arith), take-append-le (e - a) (drop a s) after d)

  -- ---- numbers

  -- only the last case of a byte reads on
  reads_on : (first last : Bool) (r x y : Reading) → ((y ≡ unfinished → ⊥) → x ≡ y)
      → (cond first wrong (cond last r y) ≡ unfinished → ⊥) → cond first wrong (cond last r x) ≡ cond first wrong (cond last r y)
  reads_on true last r x y f n = refl
  reads_on false true r x y f n = refl
  reads_on false false r x y f n = f n

  abbrev NumberStays : ℕ → ℕ → ℕ → Type 0
  NumberStays more v at = (sdnv_from more v s at ≡ unfinished → ⊥) → sdnv_from more v (s ++ after) at ≡ sdnv_from more v s at

  byte_on : (more v at : ℕ) → at < length s → NumberStays more (longer v (get_or s at 0)) (at + 1) → NumberStays (suc more) v at
  unfolding sdnv_from
  byte_on more v at h f n =
      let b = get_or s at 0 in
      let last = cond (ltb 4294967295 (longer v b)) wrong (finished (record { value = longer v b; end = at + 1 })) in
      rw (lt-leb (length s) at h, lt-leb (length (s ++ after)) at (omega (arith, longer_than)), byte_stays at h)
      (reads_on (eqb v 0 && eqb b 0x80) (ltb b 128) last _ _ f (λ e. n (rw (lt-leb (length s) at h) e)))

  pub number_stays : (more v at : ℕ) → NumberStays more v at
  unfolding sdnv_from
  number_stays zero v at n = refl
  number_stays (suc more) v at n = go (number_stays more (longer v (get_or s at 0)) (at + 1)) (dec_lt at (length s))
    where
      go : NumberStays more (longer v (get_or s at 0)) (at + 1) → Dec (at < length s) → sdnv_from (suc more) v (s ++ after) at ≡ sdnv_from (suc more) v s at
      go f (yes h) = byte_on more v at h f n
      go f (no h) = absurd (n (ends_early (suc more) v s at (omega arith) (omega arith)))

  -- ---- lengths

  abbrev length_by : List ℕ → Reading → Outcome Number
  length_by u r = number_or refusal.extension r ⟫ λ x. refuse_if refusal.extension (ltb (length u) (x.end + x.value)) (answered x)

  test_stays : (x : Number) (b : Bool) → ltb (length s) (x.end + x.value) ≡ b → (refuse_if refusal.extension b (answered x) ≡ refused 6 → ⊥)
      → refuse_if refusal.extension (ltb (length (s ++ after)) (x.end + x.value)) (answered x) ≡ refuse_if refusal.extension b (answered x)
  test_stays x true e n = absurd (n refl)
  test_stays x false e n =
      rw (le-ltb (length (s ++ after)) (x.end + x.value) (omega (arith, ltb-false (length s) (x.end + x.value) e, longer_than)))

  by_reading : (r : Reading) → (length_by s r ≡ refused 6 → ⊥) → length_by (s ++ after) r ≡ length_by s r
  by_reading (finished x) n = test_stays x (ltb (length s) (x.end + x.value)) refl n
  by_reading unfinished n = refl
  by_reading wrong n = refl

  length_stays : (at : ℕ) → (length_at s at ≡ refused 6 → ⊥) → length_at (s ++ after) at ≡ length_at s at
  unfolding length_at
  length_stays at n =
      let e = number_stays 5 0 at (λ u. n (rw u)) in
      rw e (by_reading (number_at s at) n)

  -- ---- extensions

  value_stays : (type a e : ℕ) → a ≤ e → e ≤ length s → value_of (s ++ after) type a e ≡ value_of s type a e
  unfolding value_of
  value_stays type a e h l = rw (part_stays a e h l)

  -- the answer from a length on
  abbrev onward : List ℕ → ℕ → Outcome Number → Outcome ExtensionsRead
  onward u type r = r ⟫ λ x. value_of u type x.end (x.end + x.value)

  by_length : (type at : ℕ) (r : Outcome Number) → length_at s at ≡ r → onward (s ++ after) type r ≡ onward s type r
  by_length type at (refused number) e = refl
  by_length type at (answered x) e = value_stays type x.end (x.end + x.value) (omega arith) (of_length s at e).inside

  by_type : (type at : ℕ) (b : Bool) → (refuse_if refusal.kind b (onward s type (length_at s at)) ≡ refused 6 → ⊥)
      → refuse_if refusal.kind b (onward (s ++ after) type (length_at (s ++ after) at)) ≡ refuse_if refusal.kind b (onward s type (length_at s at))
  by_type type at true n = refl
  by_type type at false n =
      let e = length_stays at (λ u. n (rw u)) in
      rw e (by_length type at (length_at s at) refl)

  extension_stays : (came : Bool) (at : ℕ) → (extension_at s came at ≡ refused 6 → ⊥) → extension_at (s ++ after) came at ≡ extension_at s came at
  unfolding extension_at
  extension_stays came at n = go (dec_lt at (length s))
    where
      go : Dec (at < length s) → extension_at (s ++ after) came at ≡ extension_at s came at
      go (yes h) =
          rw (lt-leb (length s) at h, lt-leb (length (s ++ after)) at (omega (arith, longer_than)), byte_stays at h)
          (by_type (get_or s at 0) (at + 1) (wrong_type came (get_or s at 0)) (λ e. n (rw (lt-leb (length s) at h) e)))
      go (no h) = absurd (n (rw (le-leb (length s) at (omega arith))))

  -- ---- the walk and the unit

  by-found : (r : Outcome ExtensionsRead) → (r ⟫ one_more s ≡ refused 6 → ⊥) → r ⟫ one_more (s ++ after) ≡ r ⟫ one_more s
  by-found (refused number) n = refl
  by-found (answered x) n =
      let e = extension_stays (is_some x.coding) x.end (λ u. n (rw u)) in
      rw e

  pub extensions_stay : (count : ℕ) → (extensions_of s count ≡ refused 6 → ⊥) → extensions_of (s ++ after) count ≡ extensions_of s count
  unfolding extensions_of
  extensions_stay zero n = refl
  extensions_stay (suc count) n =
      let e = extensions_stay count (λ u. n (rw u)) in
      rw e (by-found (extensions_of s count) n)

  pub header_stays : 6 ≤ length s → wrong_header (s ++ after) ≡ wrong_header s
  unfolding wrong_header
  header_stays h =
      rw (byte_stays 0 (omega arith), byte_stays 1 (omega arith), le-ltb (length s) 6 h, le-ltb (length (s ++ after)) 6 (omega (arith, longer_than)))

  by-header : (count : ℕ) (f : ExtensionsRead → Parts) (b : Bool) → (refuse_if refusal.header b (extensions_of s count ⟫ λ x. answered (f x)) ≡ refused 6 → ⊥)
      → refuse_if refusal.header b (extensions_of (s ++ after) count ⟫ λ x. answered (f x)) ≡ refuse_if refusal.header b (extensions_of s count ⟫ λ x. answered (f x))
  by-header count f true n = refl
  by-header count f false n =
      let e = extensions_stay count (λ u. n (rw u)) in
      rw e

pub first-byte_decides : FirstByteDecides
unfolding read_unit
first-byte_decides s after h n =
    let b : (i : ℕ) → i < 6 → get_or (s ++ after) i 0 ≡ get_or s i 0 = λ i l. byte_stays s after i (omega arith) in
    rw (header_stays s after h, b 0 (omega arith), b 1 (omega arith), b 2 (omega arith), b 3 (omega arith), b 4 (omega arith), b 5 (omega arith))
    (by-header s after (get_or s 1 0) _ (wrong_header s) n)
