-- A unit of one extension that is read with a code's parameters is what write makes: each number has one form.
-- Assumes nothing.
use mathlib.Core.Path.{◌≡◌, ◌∙◌, sym, ap, ap₂, refl}
use mathlib.Core.Bool.{false, not}
use mathlib.Core.List.{List, [], ◌∷◌, ◌++◌, append_assoc}
use mathlib.Core.Option.{Option, some, none}
use Prim.Native.Nat.{ℕ, ◌+◌, ◌*◌, ◌/◌, ◌%◌, ◌≤◌, ◌<◌}
use native.Mathlib.Omega.{arith}
use lib.Dec.{eqb}
use lib.ListN.{length, get_or, drop}
use lib.Seq.{drop-cons}
use borrow.Author.Tests.{eqb-true, not-false}
use Rattle.ccsds.specs.Codes.{n_of}
use Rattle.ccsds.specs.RefusalTable as refusal
use Rattle.ccsds.specs.Refusals.{answered}
use Rattle.wire.specs.Sdnv.{Number, number_at, sdnv_bytes}
use Rattle.unit_reader.specs.Reader.{Coding, ExtensionsRead, Parts, parameter_at, coding_of, extension_at, after, extensions_of}
use Rattle.wire.specs.Bytes.{part, pair_at, OfBytes}
use Rattle.ccsds.specs.Units.{header_of, value_bytes, extension_of, unit_of}
use Rattle.unit_claims.specs.UnitClaims.{CanonicalUnit}
use Rattle.ccsds.proofs.Refusals.{of_steps, of_test, the_answer}
use Rattle.wire.proofs.PartLaws.{part_length, part_all, part_then, part-rest, part_bytes}
use Rattle.wire.proofs.SdnvLaws.{Fine, is_fine}
use Rattle.wire.proofs.SdnvRound.{one_form}
use Rattle.unit_reader.proofs.ReaderLaws.{of_number, of_extension, Header, of_unit}

-- ---- the value of a type 1

parameter : (v : List ℕ) → OfBytes v → (at : ℕ) {x : Number} → parameter_at v at ≡ answered x → Fine v at x × (part v at x.end ≡ sdnv_bytes x.value)
parameter v bytes at {x} e =
    let n = of_number refusal.kind (number_at v at) e in
    (is_fine v at n, one_form v bytes at x.value x.end n)

four : {a b c d a' b' c' d' : List ℕ} → a ≡ a' → b ≡ b' → c ≡ c' → d ≡ d' → a ++ b ++ c ++ d ≡ a' ++ b' ++ c' ++ d'
four p q r s = cc

value_is : (v : List ℕ) → OfBytes v → {p : Coding} → coding_of v ≡ answered p → p.seed ≡ 0 → v ≡ value_bytes p.w p.k p.n
unfolding coding_of value_bytes
value_is v bytes {p} e z =
    let a = of_steps (parameter_at v 0) _ e in
    let b = of_steps (parameter_at v a.0.end) _ a.2 in
    let c = of_steps (parameter_at v b.0.end) _ b.2 in
    let d = of_steps (parameter_at v c.0.end) _ c.2 in
    let t = of_test refusal.kind (not (eqb d.0.end (length v))) _ d.2 in
    let q = the_answer t.1 in
    let end : d.0.end ≡ length v = eqb-true d.0.end (length v) (not-false (eqb d.0.end (length v)) t.0) in
    let w = parameter v bytes 0 a.1 in
    let k = parameter v bytes a.0.end b.1 in
    let n = parameter v bytes b.0.end c.1 in
    let s = parameter v bytes c.0.end d.1 in
    let l1 : a.0.end ≤ b.0.end = omega (arith, k.0.starts) in
    let l2 : b.0.end ≤ c.0.end = omega (arith, n.0.starts) in
    let l3 : c.0.end ≤ d.0.end = omega (arith, s.0.starts) in
    sym
    (ap (λ (l : List ℕ). l ++ part v b.0.end c.0.end ++ part v c.0.end d.0.end) (part_then v 0 a.0.end b.0.end (omega arith) l1)
    ∙ ap (λ (l : List ℕ). l ++ part v c.0.end d.0.end) (part_then v 0 b.0.end c.0.end (omega arith) l2)
    ∙ part_then v 0 c.0.end d.0.end (omega arith) l3
    ∙ part_all v 0 d.0.end end)
    ∙ four (w.1 ∙ ap (λ (x : Coding). sdnv_bytes x.w) q) (k.1 ∙ ap (λ (x : Coding). sdnv_bytes x.k) q) (n.1 ∙ ap (λ (x : Coding). sdnv_bytes x.n) q)
    (s.1 ∙ ap (λ (x : Coding). sdnv_bytes x.seed) q ∙ ap sdnv_bytes z)

-- ---- the extension and the header

extension_is : (s : List ℕ) → OfBytes s → {x : ExtensionsRead} {p : Coding} → extension_at s false 6 ≡ answered x → x.coding ≡ some p → p.seed ≡ 0
    → drop 6 s ≡ extension_of p.w p.k p.n ++ drop x.end s
unfolding extension_of
extension_is s bytes {x} {p} e c z =
    let r = of_extension s false 6 e in
    let a = r.len.end in
    let n = r.len.value in
    let o = r.coding_is c in
    let v : part s a (a + n) ≡ value_bytes p.w p.k p.n = value_is (part s a (a + n)) (part_bytes s a (a + n) bytes) o.1 z in
    let l : n ≡ length (value_bytes p.w p.k p.n) = sym (part_length s a n r.length-read.inside) ∙ ap length v in
    let f : part s 7 a ≡ sdnv_bytes (length (value_bytes p.w p.k p.n)) = one_form s bytes 7 n a r.length-read.number ∙ ap sdnv_bytes l in
    let g : 7 ≤ a = omega (arith, r.length-read.fine.starts) in
    drop-cons s 6 0 r.here
    ∙ ap₂ (λ (b : ℕ) (t : List ℕ). b ∷ t) o.0
    (sym (part-rest s 7 a g) ∙ ap₂ (λ (y t : List ℕ). y ++ t) f (sym (part-rest s a (a + n) (omega arith)) ∙ ap₂ (λ (y : List ℕ) (i : ℕ). y ++ drop i s) v (sym r.end_is)) ∙ sym (append_assoc (sdnv_bytes (length (value_bytes p.w p.k p.n))) (value_bytes p.w p.k p.n) (drop x.end s)))

six : (s : List ℕ) → 6 ≤ length s → s ≡ get_or s 0 0 ∷ get_or s 1 0 ∷ get_or s 2 0 ∷ get_or s 3 0 ∷ get_or s 4 0 ∷ get_or s 5 0 ∷ drop 6 s
six [] h = absurd (omega arith)
six (a ∷ []) h = absurd (omega arith)
six (a ∷ b ∷ []) h = absurd (omega arith)
six (a ∷ b ∷ c ∷ []) h = absurd (omega arith)
six (a ∷ b ∷ c ∷ d ∷ []) h = absurd (omega arith)
six (a ∷ b ∷ c ∷ d ∷ e ∷ []) h = absurd (omega arith)
six (a ∷ b ∷ c ∷ d ∷ e ∷ f ∷ t) h = refl

pub header_is : (s : List ℕ) → OfBytes s → Header s → get_or s 1 0 ≡ 1 → s ≡ header_of (get_or s 0 0 / 2 % 8) (pair_at s 4) (pair_at s 2) ++ drop 6 s
unfolding header_of
header_is s bytes h n =
    let b : 16 + get_or s 0 0 / 2 % 8 * 2 ≡ get_or s 0 0 = omega (arith, bytes 0, h.version, h.reserved) in
    let high : (x y : ℕ) → y < 256 → (x * 256 + y) / 256 ≡ x = λ x y l. omega arith in
    let low : (x y : ℕ) → y < 256 → (x * 256 + y) % 256 ≡ y = λ x y l. omega arith in
    six s h.six
    ∙ sym (rw (b, high (get_or s 2 0) (get_or s 3 0) (bytes 3), low (get_or s 2 0) (get_or s 3 0) (bytes 3), high (get_or s 4 0) (get_or s 5 0) (bytes 5), low (get_or s 4 0) (get_or s 5 0) (bytes 5), n))

-- ---- the unit

after_none : (x : Option Coding) → after none x ≡ x
after_none none = refl
after_none (some p) = refl

one-extension : (s : List ℕ) {x : ExtensionsRead} {p : Coding} → extensions_of s 1 ≡ answered x → x.coding ≡ some p
    → (y : ExtensionsRead) × (extension_at s false 6 ≡ answered y) × (y.coding ≡ some p) × (y.end ≡ x.end)
unfolding extensions_of
one-extension s e c =
    let a = of_steps (extension_at s false 6) _ e in
    let q = the_answer a.2 in
    (a.0, a.1, sym (after_none a.0.coding) ∙ ap (λ (y : ExtensionsRead). y.coding) q ∙ c, ap (λ (y : ExtensionsRead). y.end) q)

pub canonical_unit : CanonicalUnit
unfolding unit_of
canonical_unit c w u p bytes e count coding =
    let r = of_unit u e in
    let q = r.parts_are in
    let n : get_or u 1 0 ≡ 1 = sym (ap (λ (x : Parts). x.count) q) ∙ count in
    let x = one-extension u (ap (extensions_of u) (sym n) ∙ r.extensions) (sym (ap (λ (x : Parts). x.coding) q) ∙ coding) in
    let d : drop 6 u ≡ extension_of w c.k (n_of c) ++ drop x.0.end u = extension_is u bytes x.1 x.2 refl in
    let symbol : x.0.end ≡ p.symbol = x.3 ∙ sym (ap (λ (x : Parts). x.symbol) q) in
    let h = header_of p.protocol p.lsc p.lwc in
    header_is u bytes r.header n
    ∙ ap₂ (λ (y z : List ℕ). y ++ z) (sym (ap (λ (x : Parts). header_of x.protocol x.lsc x.lwc) q)) (d ∙ ap (λ (i : ℕ). extension_of w c.k (n_of c) ++ drop i u) symbol)
    ∙ sym (append_assoc h (extension_of w c.k (n_of c)) (drop p.symbol u))
