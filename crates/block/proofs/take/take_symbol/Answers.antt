-- `block::take::take_symbol` meets its contract, by the mark at the position and by its status.
-- Assumes nothing.
use mathlib.Core.Path.{◌≡◌, sym, ap, ◌∙◌}
use mathlib.Core.Bool.{Bool, true, false, cond}
use mathlib.Core.List.{List}
use Prim.Native.Nat.{ℕ, ◌+◌, ◌-◌, ◌*◌}
use lib.ListN.{take, drop}
use Rattle.ccsds.specs.Refusals.{refused, answered}
use Rattle.block.specs.Status.{heard, missing, status_of, status_as}
use Rattle.block.specs.Take.{repeated, same_bytes, unchanged, take_symbol}
use Rattle.block.proofs.Symbols.{part_is, same_is, stores}
use Rattle.block.proofs.Taking.{sent}
use Rattle.block.proofs.Taking.{at-wrong, at_right, apart}
use Rattle.block.proofs.take.take_symbol.Goals as goal
use Rattle.block.proofs.take.take_symbol.Goals.{In-Heard, In-Missing}

-- the status of the position, which is not idle, as the code found it
is-heard : (c : In-Heard) → let a = c.args in status_of a.b a.marks.now a.position ≡ heard
is-heard c = (sent c.args.b c.args.marks.now c.args.position c.requires.position_in_bounds.1 ∙ sym c.of.ensures) ∙ ap status_as c.in-Heard.is

is-missing : (c : In-Missing) → let a = c.args in status_of a.b a.marks.now a.position ≡ missing
is-missing c = (sent c.args.b c.args.marks.now c.args.position c.requires.position_in_bounds.1 ∙ sym c.of.ensures) ∙ ap status_as c.in-Missing.is

-- the answer at a heard position, by the comparison
by-same : (c : In-Heard) (t : Bool) → let a = c.args in let at = a.position * a.b.w in
    same_bytes (take (at + a.b.w - at) (drop at a.symbols.now)) a.symbol.now ≡ t
    → take_symbol a.b a.symbols.now a.marks.now (record { position = a.position; symbol = a.symbol.now })
    ≡ unchanged a.b a.symbols.now a.marks.now (cond t (answered repeated) (refused 12))
by-same c t q =
    let a = c.args in
    let s = a.symbols.now in
    let y = a.symbol.now in
    at_right a.b s a.marks.now (record { position = a.position; symbol = y }) (sym c.wrong.ensures ∙ c.if-wrong.false) heard (is-heard c)
    ∙ ap (λ (u : Bool). unchanged a.b s a.marks.now (cond u (answered repeated) (refused 12)))
    (ap (λ (x : List ℕ). same_bytes x y) (sym (part_is s (a.position * a.b.w) a.b.w)) ∙ q)

pub returns-then-wrong : goal.returns-then-wrong
returns-then-wrong c =
    let a = c.args in
    let r = apart (at-wrong a.b a.symbols.now a.marks.now (record { position = a.position; symbol = a.symbol.now }) (sym c.wrong.ensures ∙ c.if-wrong.true)) in
    record { answer = r.0; symbols = r.1.0; marks = r.1.1 }

pub returns-then-eq : goal.returns-then-eq
returns-then-eq c =
    let r = apart (by-same (goal.at.returns-then-eq c).In-Heard true (same_is _ _ _ c.eq.ensures ∙ c.if-eq.true)) in
    record { answer = r.0; symbols = r.1.0; marks = r.1.1 }

pub returns-else-eq : goal.returns-else-eq
returns-else-eq c =
    let r = apart (by-same (goal.at.returns-else-eq c).In-Heard false (same_is _ _ _ c.eq.ensures ∙ c.if-eq.false)) in
    record { answer = r.0; symbols = r.1.0; marks = r.1.1 }

pub returns-in-Missing : goal.returns-in-Missing
returns-in-Missing c =
    let a = c.args in
    let r = apart (at_right a.b a.symbols.now a.marks.now (record { position = a.position; symbol = a.symbol.now })
    (sym c.wrong.ensures ∙ c.if-wrong.false) missing (is-missing (goal.at.returns-in-Missing c).In-Missing)) in
    record { answer = r.0; symbols = stores a.symbols.now a.symbol.now _ (a.position * a.b.w) a.b.w c.requires.symbol_len c.requires.w_in_bounds c.put_from.ensures ∙ r.1.0; marks = r.1.1 }
