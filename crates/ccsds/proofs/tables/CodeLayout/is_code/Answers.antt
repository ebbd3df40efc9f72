-- `ccsds::tables::CodeLayout::is_code` meets its contract: k is 128 at least for a code, and 0 with m for another number.
-- Assumes nothing.
use mathlib.Core.Path.{◌≡◌, refl, ap, ◌∙◌}
use mathlib.Core.Bool.{Bool, true, false, not}
use Prim.Native.Nat.{ℕ, ◌+◌}
use native.Mathlib.Omega.{arith}
use lib.Dec.{eqb}
use borrow.Author.Tests.{eq-eqb, ne_eqb}
use Rattle.ccsds.specs.Tables.{code_of, is_code}
use Rattle.ccsds.specs.inner.Layout.{LayoutOf}
use Rattle.ccsds.specs.declared.tables.Layout.{Layout}
use Rattle.ccsds.proofs.Valid.{valid_of, none_of}
use Rattle.ccsds.proofs.UnitLaws.{n_of_lem}
use Rattle.ccsds.proofs.tables.CodeLayout.is_code.Goals as goal

some-symbols : (number : ℕ) {l : Layout} → LayoutOf (code_of number) l → (b : Bool) → is_code number ≡ b → not (eqb (l.k + l.m) 0) ≡ b
some-symbols number {l} g true e = ap not (ne_eqb (l.k + l.m) 0 (λ z. omega (arith, (valid_of number e).large_k, g.k)))
some-symbols number {l} g false e = ap not (eq-eqb _ _ (n_of_lem g ∙ none_of number e))

pub returns : goal.returns
returns c = some-symbols _ c.args.self.layout_of _ refl
