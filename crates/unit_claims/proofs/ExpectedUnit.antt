-- A unit whose bytes before its symbol are those that write makes: what the tests of its bytes say, and what is read in it.
-- Assumes nothing.
use mathlib.Core.Path.{◌≡◌, ◌∙◌, sym, ap, ap₂, refl}
use mathlib.Core.List.{List, [], ◌∷◌, ◌++◌, append_assoc}
use mathlib.Core.Option.{some}
use Prim.Native.Nat.{ℕ, ◌+◌, ◌-◌, ◌*◌, ◌/◌, ◌%◌, ◌≤◌, ◌<◌}
use native.Mathlib.Omega.{arith}
use lib.Dec.{lit<}
use lib.ListN.{length, get_or, drop}
use Rattle.std.specs.Prelude.{Bool, true, false, Some}
use Rattle.std.specs.Bool.{then_some}
use Rattle.ccsds.specs.Codes.{Params}
use Rattle.ccsds.specs.Refusals.{answered}
use Rattle.wire.specs.Bytes.{part, pair_at, OfBytes}
use Rattle.unit_reader.specs.Reader.{read_unit}
use Rattle.ccsds.specs.inner.Compact.{Compact}
use Rattle.ccsds.specs.Units.{header_of, value_bytes, extension_of, unit_of}
use Rattle.unit_claims.specs.inner.Expected.{Starts}
use Rattle.wire.proofs.PartLaws.{part_cons, part_then, part-rest}
use Rattle.wire.proofs.SdnvRound.{in_one, in_two, two_long}
use Rattle.ccsds.proofs.UnitLaws.{value_compact}
use Rattle.unit_claims.proofs.CanonicalUnit.{header_is}
use Rattle.unit_claims.proofs.UnitClaims.{unit_reads}

-- two bytes, from the number that they make
pair_is : (x y h l : ℕ) → y < 256 → l < 256 → x * 256 + y ≡ h * 256 + l → (x ≡ h) × (y ≡ l)
pair_is x y h l p q e = (omega arith, omega arith)

-- four bytes, from the number that they make
pub four_stand : (s : List ℕ) → OfBytes s → (at a b c d : ℕ) → at + 4 ≤ length s → b < 256 → c < 256 → d < 256
    → pair_at s at * 65536 + pair_at s (at + 2) ≡ (a * 256 + b) * 65536 + (c * 256 + d) → part s at (at + 4) ≡ a ∷ b ∷ c ∷ d ∷ []
four_stand s bytes at a b c d h hb hc hd e =
    let i : at + 1 + 1 ≡ at + 2 = omega arith in
    let j : at + 2 + 1 ≡ at + 3 = omega arith in
    let k : at + 4 - (at + 3 + 1) ≡ 0 = omega arith in
    let high : pair_at s at ≡ a * 256 + b = omega (arith, bytes (at + 1), bytes (at + 2), bytes (at + 2 + 1)) in
    let low : pair_at s (at + 2) ≡ c * 256 + d = omega (arith, high) in
    let p = pair_is (get_or s at 0) (get_or s (at + 1) 0) a b (bytes (at + 1)) hb high in
    let q = pair_is (get_or s (at + 2) 0) (get_or s (at + 2 + 1) 0) c d (bytes (at + 2 + 1)) hd low in
    rw (
      part_cons s at (at + 4) (omega arith) (omega arith),
      part_cons s (at + 1) (at + 4) (omega arith) (omega arith),
      i,
      part_cons s (at + 2) (at + 4) (omega arith) (omega arith),
      j,
      part_cons s (at + 3) (at + 4) (omega arith) (omega arith),
      k,
      p.0,
      p.1,
      q.0,
      ← j,
      q.1,
    )

-- ---- the header

pub header_stands : (s : List ℕ) → OfBytes s → (protocol lsc : ℕ) → 15 ≤ length s → protocol ≤ 7 → pair_at s 0 ≡ (16 + protocol * 2) * 256 + 1
    → pair_at s 4 ≡ lsc → s ≡ header_of protocol lsc (pair_at s 2) ++ drop 6 s
header_stands s bytes protocol lsc h l e f =
    let p = pair_is (get_or s 0 0) (get_or s 1 0) (16 + protocol * 2) 1 (bytes 1) (omega arith) e in
    let v : get_or s 0 0 / 2 % 8 ≡ protocol = omega (arith, p.0) in
    header_is s bytes (record { six = omega arith; version = omega (arith, p.0); reserved = omega (arith, p.0) }) p.1
    ∙ ap₂ (λ (x y : ℕ). header_of x y (pair_at s 2) ++ drop 6 s) v f

-- ---- the extension

-- its bytes, where W has one and where it has two
module _ (w k n : ℕ) (c : Compact w k n) where
  pub short-bytes : w < 128
      → extension_of w k n ≡ 1 ∷ 6 ∷ w ∷ (128 + k / 128) ∷ k % 128 ∷ (128 + n / 128) ∷ n % 128 ∷ 0 ∷ []
  unfolding extension_of value_bytes
  short-bytes h =
      let l : length (value_bytes w k n) ≡ 6 = value_compact w k n c ∙ ap (λ (x : List ℕ). length x + 5) (in_one w h) in
      rw (l, in_one 6 (lit< tt), in_one w h, in_two k c.two_k.0 c.two_k.1, in_two n c.two_n.0 c.two_n.1, in_one 0 (lit< tt))

  pub long-bytes : 128 ≤ w
      → extension_of w k n ≡ 1 ∷ 7 ∷ (128 + w / 128) ∷ w % 128 ∷ (128 + k / 128) ∷ k % 128 ∷ (128 + n / 128) ∷ n % 128 ∷ 0 ∷ []
  unfolding extension_of value_bytes
  long-bytes h =
      let l : length (value_bytes w k n) ≡ 7 = value_compact w k n c ∙ ap (λ (m : ℕ). m + 5) (two_long w (h, c.few-w)) in
      rw (l, in_one 7 (lit< tt), in_two w h c.few-w, in_two k c.two_k.0 c.two_k.1, in_two n c.two_n.0 c.two_n.1, in_one 0 (lit< tt))

joined : (s : List ℕ) (a b e : ℕ) {x y : List ℕ} → a ≤ b → b ≤ e → part s a b ≡ x → part s b e ≡ y → part s a e ≡ x ++ y
joined s a b e p q f g = sym (part_then s a b e p q) ∙ ap₂ (λ (x y : List ℕ). x ++ y) f g

-- it stands after the header
stands : (s x y : List ℕ) (e : ℕ) → 6 ≤ e → part s 6 e ≡ y → x ≡ y → e ≡ 6 + length y → Starts s x (Some e)
stands s x y e h f g l =
    (l ∙ ap (λ (t : List ℕ). 6 + length t) (sym g), sym (part-rest s 6 e h) ∙ ap (λ (t : List ℕ). t ++ drop e s) (f ∙ sym g))

pub starts_short : (s : List ℕ) {a b c d f g h i : ℕ} (x : List ℕ) → part s 6 10 ≡ a ∷ b ∷ c ∷ d ∷ [] → part s 10 14 ≡ f ∷ g ∷ h ∷ i ∷ []
    → x ≡ a ∷ b ∷ c ∷ d ∷ f ∷ g ∷ h ∷ i ∷ [] → Starts s x (Some 14)
starts_short s x p q e = stands s x _ 14 (omega arith) (joined s 6 10 14 (omega arith) (omega arith) p q) e refl

pub starts_long : (s : List ℕ) {a b c d f g h i : ℕ} (x : List ℕ) → 15 ≤ length s → part s 6 10 ≡ a ∷ b ∷ c ∷ d ∷ [] → part s 10 14 ≡ f ∷ g ∷ h ∷ i ∷ []
    → get_or s 14 0 ≡ 0 → x ≡ a ∷ b ∷ c ∷ d ∷ f ∷ g ∷ h ∷ i ∷ 0 ∷ [] → Starts s x (Some 15)
starts_long s x l p q z e =
    let last : part s 14 15 ≡ 0 ∷ [] = part_cons s 14 15 (omega arith) (omega arith) ∙ ap (λ (y : ℕ). y ∷ []) z in
    stands s x _ 15 (omega arith) (joined s 6 14 15 (omega arith) (omega arith) (joined s 6 10 14 (omega arith) (omega arith) p q) last) e refl

-- where a test says that it stands
pub where_it_stands : (s x : List ℕ) (b : Bool) (e : ℕ) → (b ≡ true → Starts s x (Some e)) → Starts s x (then_some b e)
where_it_stands s x true e h = h refl
where_it_stands s x false e h = tt

-- ---- the unit

pub expected_reads : (w k m protocol lsc : ℕ) (s : List ℕ) {lwc r : ℕ} → Compact w k (k + m) → lwc ≡ pair_at s 2 → protocol ≤ 7
    → s ≡ header_of protocol lsc (pair_at s 2) ++ drop 6 s → Starts s (extension_of w k (k + m)) (Some r)
    → answered (record {
      protocol = protocol;
      count = 1;
      lwc = lwc;
      lsc = lsc;
      coding = some (record { w = w; k = k; n = k + m; seed = 0 });
      symbol = r;
    })
    ≡ read_unit s
unfolding unit_of
expected_reads w k m protocol lsc s {lwc} {r} g el hp e a =
    -- the table has no part in a unit
    let c : Params = record { k = k; m = m; q = 0; a = 0; rows = [] } in
    let x = extension_of w k (k + m) in
    let u : s ≡ unit_of c w protocol lsc (pair_at s 2) (drop r s) =
    e ∙ ap (λ (t : List ℕ). header_of protocol lsc (pair_at s 2) ++ t) a.1 ∙ sym (append_assoc (header_of protocol lsc (pair_at s 2)) x (drop r s)) in
    let q = (unit_reads c w protocol lsc (pair_at s 2) (drop r s) (omega (arith, g.few-w)) (omega (arith, g.two_n.1)) hp).read in
    rw (el, a.0) (sym (ap read_unit u ∙ q))
