-- The lengths of a unit and its parts.
-- Assumes nothing.
use mathlib.Core.Path.{◌≡◌, ap, ap₂, refl}
use mathlib.Core.Bool.{false}
use mathlib.Core.List.{List}
use Prim.Native.Nat.{ℕ, ◌+◌, ◌≤◌}
use native.Mathlib.Omega.{arith}
use lib.ListN.{length, length-append}
use Rattle.ccsds.specs.Codes.{Params, n_of}
use Rattle.ccsds.specs.Tables.{code_of, Known}
use Rattle.ccsds.specs.Refusals.{wrong_code, wrong_width}
use Rattle.wire.specs.Sdnv.{sdnv_bytes}
use Rattle.ccsds.specs.inner.Compact.{Compact}
use Rattle.ccsds.specs.inner.Layout.{LayoutOf}
use Rattle.ccsds.specs.declared.tables.Layout.{Layout}
use Rattle.ccsds.specs.Units.{header_of, value_bytes, extension_of, unit_of, symbol_start, unit_length, unit_bytes}
use Rattle.wire.proofs.SdnvRound.{most_five, in_one, two_long}
use Rattle.ccsds.proofs.Valid.{valid_of}

pub value-length : (w k n : ℕ) → length (value_bytes w k n) ≡ length (sdnv_bytes w) + length (sdnv_bytes k) + length (sdnv_bytes n) + length (sdnv_bytes 0)
unfolding value_bytes
value-length w k n = simp length-append

-- with k and n in two bytes each
pub value_compact : (w k n : ℕ) → Compact w k n → length (value_bytes w k n) ≡ length (sdnv_bytes w) + 5
value_compact w k n c =
    omega (arith, value-length w k n, two_long k c.two_k, two_long n c.two_n, ap length (in_one 0 (omega arith)))

-- as they are in every code
pub compact_of : (number w : ℕ) {l : Layout} → LayoutOf (code_of number) l → Known number → w ≤ 1024 → Compact w l.k (l.k + l.m)
compact_of number w g h q =
    let v = valid_of number h in
    record { few-w = omega arith; two_k = (omega (arith, v.large_k, g.k), omega (arith, g.few)); two_n = (omega (arith, v.large_k, g.k), omega (arith, g.few)) }

pub value-most : (w k n : ℕ) → length (value_bytes w k n) ≤ 20
value-most w k n = omega (arith, value-length w k n, most_five w, most_five k, most_five n, most_five 0)

pub extension-length : (w k n : ℕ) → length (extension_of w k n) ≡ 1 + length (sdnv_bytes (length (value_bytes w k n))) + length (value_bytes w k n)
unfolding extension_of
extension-length w k n = simp length-append (omega arith)

pub header-length : (protocol lsc lwc : ℕ) → length (header_of protocol lsc lwc) ≡ 6
unfolding header_of
header-length protocol lsc lwc = refl

pub unit_length_lem : (c : Params) (w protocol lsc lwc : ℕ) (symbol : List ℕ) → length (unit_of c w protocol lsc lwc symbol) ≡ symbol_start c w + length symbol
unfolding unit_of
unit_length_lem c w protocol lsc lwc symbol = simp length-append (omega (arith, header-length protocol lsc lwc))

-- the length of a unit, by its code's k and n
pub size_of : (c : Params) (w : ℕ) {k n : ℕ} → k ≡ c.k → n ≡ n_of c → 6 + length (extension_of w k n) + w ≡ unit_length c w
unfolding unit_length
size_of c w p q = ap₂ (λ (k n : ℕ). 6 + length (extension_of w k n) + w) p q

-- a code's n and the extension of its units, by its layout
module _ {c : Params} {l : Layout} (g : LayoutOf c l) where
  pub n_of_lem : l.k + l.m ≡ n_of c
  n_of_lem = ap₂ ◌+◌ g.k g.m

  pub extension_of_lem : (w : ℕ) → extension_of w l.k (l.k + l.m) ≡ extension_of w c.k (n_of c)
  extension_of_lem w = ap₂ (extension_of w) g.k n_of_lem

-- the size of the output, for a code and a width that are not refused
pub unit_right : (number w : ℕ) → wrong_code number ≡ false → wrong_width w ≡ false → unit_bytes number w ≡ unit_length (code_of number) w
unfolding unit_bytes
unit_right number w c e = rw (c, e)
