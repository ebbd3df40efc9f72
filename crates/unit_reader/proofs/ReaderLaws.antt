-- What is known of a unit, an extension and its parts that are read, and that a symbol starts within its unit.
-- Assumes nothing.
use mathlib.Core.Path.{◌≡◌, ◌∙◌, sym, ap, refl}
use mathlib.Core.Bool.{Bool, true, false, cond, not, ◌||◌}
use mathlib.Core.List.{List}
use mathlib.Core.Option.{none, some}
use Prim.Native.Nat.{ℕ, zero, suc, ◌+◌, ◌/◌, ◌%◌, ◌≤◌, ◌<◌}
use native.Mathlib.Omega.{arith}
use lib.Dec.{eqb, ltb, leb}
use lib.ListN.{length, get_or}
use borrow.Author.Tests.{ltb-false, leb-false, lt-leb, eqb-true, not-false}
use Rattle.ccsds.specs.RefusalTable.{Refusal}
use Rattle.ccsds.specs.RefusalTable as refusal
use Rattle.ccsds.specs.Refusals.{Outcome, refused, answered, ◌⟫◌}
use Rattle.wire.specs.Sdnv.{Number, Reading, finished, unfinished, wrong, number_at}
use Rattle.unit_reader.specs.Reader.{number_or, Coding, ExtensionsRead, Parts, length_at, coding_of, value_of, wrong_type, extension_at, is_some, one_more, extensions_of, wrong_header, read_unit}
use Rattle.wire.specs.Bytes.{part, pair_at}
use Rattle.ccsds.proofs.Refusals.{or_false, never, the_answer, of_steps, of_test}
use Rattle.wire.proofs.SdnvLaws.{Fine, is_fine}

-- past the type byte and the length the value decides
pub from-value : (s : List ℕ) (came : Bool) (at : ℕ) {len : Number} → at < length s → wrong_type came (get_or s at 0) ≡ false
    → length_at s (at + 1) ≡ answered len → extension_at s came at ≡ value_of s (get_or s at 0) len.end (len.end + len.value)
unfolding extension_at
from-value s came at h w l = rw (lt-leb _ _ h, w, l)

-- ---- numbers

pub of_number : (early : Refusal) (r : Reading) {x : Number} → number_or early r ≡ answered x → r ≡ finished x
of_number early (finished x) e = ap finished (the_answer e)
of_number early unfinished e = absurd (never e)
of_number early wrong e = absurd (never e)

-- a length that is read
pub record Length (s : List ℕ) (at : ℕ) (x : Number) : Type 0 where
  pub number : number_at s at ≡ finished x
  pub fine : Fine s at x
  pub inside : x.end + x.value ≤ length s

pub of_length : (s : List ℕ) (at : ℕ) {x : Number} → length_at s at ≡ answered x → Length s at x
unfolding length_at
of_length s at {x} e =
    let a = of_steps (number_or refusal.extension (number_at s at)) _ e in
    let b = of_test refusal.extension (ltb (length s) (a.0.end + a.0.value)) _ a.2 in
    let q : a.0 ≡ x = the_answer b.1 in
    let n : number_at s at ≡ finished x = of_number refusal.extension (number_at s at) a.1 ∙ ap finished q in
    let i : a.0.end + a.0.value ≤ length s = ltb-false (length s) (a.0.end + a.0.value) b.0 in
    record { number = n; fine = is_fine s at n; inside = rw q at i }

-- ---- extensions

-- an extension's answer, by whether it is a type 1
abbrev chosen : Bool → Outcome Coding → ℕ → Outcome ExtensionsRead
chosen t r e = cond t (r ⟫ λ p. answered (record { coding = some p; end = e })) (answered (record { coding = none; end = e }))

chosen_ends : (t : Bool) (r : Outcome Coding) (e : ℕ) {x : ExtensionsRead} → chosen t r e ≡ answered x → x.end ≡ e
chosen_ends true (refused n) e h = absurd (never h)
chosen_ends true (answered p) e h = sym (ap (λ (y : ExtensionsRead). y.end) (the_answer h))
chosen_ends false r e h = sym (ap (λ (y : ExtensionsRead). y.end) (the_answer h))

chosen-coding : (t : Bool) (r : Outcome Coding) (e : ℕ) {x : ExtensionsRead} {p : Coding} → chosen t r e ≡ answered x → x.coding ≡ some p → (t ≡ true) × (r ≡ answered p)
chosen-coding true (refused n) e h c = absurd (never h)
chosen-coding true (answered q) e {p = p} h c =
    let d = ap (λ (y : ExtensionsRead). y.coding) (the_answer h) ∙ c in
    let z : q ≡ p = cc in
    (refl, ap answered z)
chosen-coding false r e h c =
    let d = ap (λ (y : ExtensionsRead). y.coding) (the_answer h) ∙ c in
    absurd (let z : ◌≡◌ {A = ℕ} 0 1 = cc in omega arith)

-- the extension at a position
pub record Read (s : List ℕ) (came : Bool) (at : ℕ) (x : ExtensionsRead) : Type 0 where
  pub len : Number
  pub here : at < length s
  pub type : wrong_type came (get_or s at 0) ≡ false
  pub length-read : Length s (at + 1) len
  pub end_is : x.end ≡ len.end + len.value
  pub coding_is : {p : Coding} → x.coding ≡ some p → (get_or s at 0 ≡ 1) × (coding_of (part s len.end (len.end + len.value)) ≡ answered p)

pub of_extension : (s : List ℕ) (came : Bool) (at : ℕ) {x : ExtensionsRead} → extension_at s came at ≡ answered x → Read s came at x
unfolding extension_at value_of
of_extension s came at {x} e =
    let a = of_test refusal.extension (leb (length s) at) _ e in
    let b = of_test refusal.kind (wrong_type came (get_or s at 0)) _ a.1 in
    let c = of_steps (length_at s (at + 1)) _ b.1 in
    let v = c.0.end + c.0.value in
    record {
      len = c.0;
      here = leb-false (length s) at a.0;
      type = b.0;
      length-read = of_length s (at + 1) c.1;
      end_is = chosen_ends (eqb (get_or s at 0) 1) (coding_of (part s c.0.end v)) v c.2;
      coding_is = λ p.
          let d = chosen-coding (eqb (get_or s at 0) 1) (coding_of (part s c.0.end v)) v c.2 p in
          (eqb-true (get_or s at 0) 1 d.0, d.1);
    }

pub extensions_end : (s : List ℕ) (count : ℕ) {x : ExtensionsRead} → 6 ≤ length s → extensions_of s count ≡ answered x → x.end ≤ length s
unfolding extensions_of
extensions_end s zero h e = rw (← the_answer e) h
extensions_end s (suc count) {x} h e =
    let a = of_steps (extensions_of s count) (one_more s) e in
    let b = of_steps (extension_at s (is_some a.0.coding) a.0.end) _ a.2 in
    let r = of_extension s (is_some a.0.coding) a.0.end b.1 in
    let q : b.0.end ≡ x.end = ap (λ (y : ExtensionsRead). y.end) (the_answer b.2) in
    omega (arith, r.end_is, r.length-read.inside)

-- ---- units

-- a right header
pub record Header (s : List ℕ) : Type 0 where
  pub six : 6 ≤ length s
  pub version : get_or s 0 0 / 16 ≡ 1
  pub reserved : get_or s 0 0 % 2 ≡ 0

pub of_header : (s : List ℕ) → wrong_header s ≡ false → Header s
unfolding wrong_header
of_header s e =
    let short = ltb (length s) 6 in
    let version = not (eqb (get_or s 0 0 / 16) 1) in
    let reserved = not (eqb (get_or s 0 0 % 2) 0) in
    let a = or_false (short || version || reserved) (eqb (get_or s 1 0) 0) e in
    let b = or_false (short || version) reserved a.0 in
    let c = or_false short version b.0 in
    record {
      six = ltb-false (length s) 6 c.0;
      version = eqb-true (get_or s 0 0 / 16) 1 (not-false (eqb (get_or s 0 0 / 16) 1) c.1);
      reserved = eqb-true (get_or s 0 0 % 2) 0 (not-false (eqb (get_or s 0 0 % 2) 0) b.1);
    }

pub six_bytes : (s : List ℕ) → wrong_header s ≡ false → 6 ≤ length s
six_bytes s e = (of_header s e).six

-- a unit
pub record UnitRead (s : List ℕ) (p : Parts) : Type 0 where
  pub said : ExtensionsRead
  pub header : Header s
  pub extensions : extensions_of s (get_or s 1 0) ≡ answered said
  pub parts_are : p ≡ record {
    protocol = get_or s 0 0 / 2 % 8;
    count = get_or s 1 0;
    lwc = pair_at s 2;
    lsc = pair_at s 4;
    coding = said.coding;
    symbol = said.end;
  }

pub of_unit : (s : List ℕ) {p : Parts} → read_unit s ≡ answered p → UnitRead s p
unfolding read_unit
of_unit s e =
    let a = of_test refusal.header (wrong_header s) _ e in
    let b = of_steps (extensions_of s (get_or s 1 0)) _ a.1 in
    record { said = b.0; header = of_header s a.0; extensions = b.1; parts_are = sym (the_answer b.2) }

-- where a unit is read, its symbol starts within its bytes
pub symbol-within : (s : List ℕ) {p : Parts} → read_unit s ≡ answered p → p.symbol ≤ length s
symbol-within s {p} e =
    let u = of_unit s e in
    let q : p.symbol ≡ u.said.end = ap (λ (x : Parts). x.symbol) u.parts_are in
    omega (arith, extensions_end s (get_or s 1 0) u.header.six u.extensions)
