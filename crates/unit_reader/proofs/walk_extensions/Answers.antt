-- `unit_reader::walk_extensions` meets its contract: after i turns the state is that of the first i extensions.
-- Assumes nothing.
use mathlib.Core.Path.{◌≡◌, sym}
use mathlib.Core.List.{List}
use Prim.Native.Nat.{ℕ, zero, suc, ◌+◌, ◌-◌, ◌≤◌}
use native.Mathlib.Nat.{add-zero, add-suc}
use native.Mathlib.Numerals.{add-one}
use native.Mathlib.Omega.{arith}
use Rattle.std.specs.Prelude.{Option, Some, None}
use Rattle.std.specs.Option.{is_some, option_or}
use Rattle.std.proofs.lemmas.Result.{err_from_is_err_and}
use Rattle.ccsds.specs.Refusals.{refused, answered}
use Rattle.unit_reader.specs.Reader.{extension_at, extensions_of, extension_as}
use Rattle.unit_reader.specs.declared.Parameters.{Parameters}
use Rattle.unit_reader.proofs.walk_extensions.Goals as goal

-- a refusal stays one, over all the extensions that follow
stays : (s : List ℕ) (i n : ℕ) {number : ℕ} → extensions_of s i ≡ refused number → extensions_of s (i + n) ≡ refused number
unfolding extensions_of
stays s i zero e = rw (add-zero, e)
stays s i (suc n) e = rw (add-suc, stays s i n e)

stays-to : (s : List ℕ) (i count : ℕ) {number : ℕ} → i + 1 ≤ count → extensions_of s (i + 1) ≡ refused number → refused number ≡ extensions_of s count
stays-to s i count h e =
    let n : i + 1 + (count - (i + 1)) ≡ count = omega arith in
    sym (rw n at (stays s (i + 1) (count - (i + 1)) e))

-- one extension more: read or refused
module _ (s : List ℕ) (i at : ℕ) where
  more : (before x : Option Parameters) (end : ℕ) → extensions_of s i ≡ answered (record { coding = extension_as before; end = at })
      → extension_at s (is_some before) at ≡ answered (record { coding = extension_as x; end = end })
      → extensions_of s (i + 1) ≡ answered (record { coding = extension_as (option_or x before); end = end })
  unfolding extensions_of
  more (Some p) (Some q) end e h = rw (add-one, e, h)
  more (Some p) None end e h = rw (add-one, e, h)
  more None (Some q) end e h = rw (add-one, e, h)
  more None None end e h = rw (add-one, e, h)

  none_read : (before : Option Parameters) {number : ℕ} → extensions_of s i ≡ answered (record { coding = extension_as before; end = at })
      → extension_at s (is_some before) at ≡ refused number → extensions_of s (i + 1) ≡ refused number
  unfolding extensions_of
  none_read (Some p) e h = rw (add-one, e, h)
  none_read None e h = rw (add-one, e, h)

pub returns-in_err-x : goal.returns-in_err-x
returns-in_err-x c =
    let l = c.loop-i in
    let p = err_from_is_err_and c.from_residual.result c.from_residual.ensures.1 in
    rw (p.1, p.2) (stays-to c.args.s.now l.i c.args.count (omega arith) (none_read c.args.s.now l.i l.end l.coding l.invariant (rw (← c.is_some.ensures) (sym c.in_err-x.ensures))))

pub loop-i-preserved : goal.loop-i-preserved
loop-i-preserved c =
    let l = c.loop-i in
    rw c.or-coding.ensures (more c.args.s.now l.i l.end l.coding c.in_ok-x.x.coding _ l.invariant (rw (← c.is_some.ensures) (sym c.in_ok-x.ensures)))
