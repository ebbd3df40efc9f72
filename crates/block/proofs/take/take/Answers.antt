-- `block::take::take` meets its contract, by the refusal of the block and by admission.
-- Assumes nothing.
use mathlib.Core.Path.{◌≡◌, sym, ap, ◌∙◌, subst}
use mathlib.Core.Bool.{false}
use mathlib.Core.List.{List}
use Prim.Native.Nat.{ℕ, ◌+◌, ◌-◌, ◌*◌, ◌≤◌, ◌<◌}
use native.Mathlib.Omega.{arith}
use lib.ListN.{length, take, drop, length-drop}
use lib.Seq.{take_all}
use Rattle.algebra.proofs.Codeword.{slot}
use Rattle.ccsds.specs.Refusals.{Outcome, answered}
use Rattle.ccsds.proofs.RefusalOrder.{numbered}
use Rattle.ccsds.proofs.Refusals.{code-known, width_right, label_right}
use Rattle.ccsds.proofs.UnitLaws.{compact_of}
use Rattle.block.specs.Block.{checks, idle_at, block_refusal}
use Rattle.block.specs.Take.{TakeResult, Take, admission, take_symbol, take_of, taken_as}
use Rattle.block.specs.declared.Block.{Block}
use Rattle.block.proofs.Exits.{passed_on}
use Rattle.block.proofs.BlockRefusal.{block_right}
use Rattle.block.proofs.Taking.{Inside, admitted_inside, take-refused, take_by_lem, apart}
use Rattle.block.proofs.take.take.Goals as goal
use Rattle.block.proofs.take.take.Goals.{In_ok-x}

-- an admitted unit's symbol, as the code has it, and the room for it
module _ (b : Block) (symbols marks unit : List ℕ) (position start : ℕ) (z : block_refusal b (length symbols) (length marks) ≡ 0)
    (e : admission b unit ≡ answered (record { position = position; symbol = drop start unit })) where
  within : start ≤ length unit
  within =
      let i : Inside b (record { position = position; symbol = drop start unit }) = admitted_inside b unit (record { position = position; symbol = drop start unit }) e in
      let w : 0 < b.w = (width_right b.w (block_right b (length symbols) (length marks) z).0.width).0 in
      omega (arith, i.size, length-drop start unit)

  rest : take (length unit - start) (drop start unit) ≡ drop start unit
  rest = take_all (length unit - start) (drop start unit) (omega (arith, length-drop start unit))

  room : ((position < length marks) × (idle_at b position ≡ false)) × ((position * b.w + b.w ≤ length symbols) × (length (take (length unit - start) (drop start unit)) ≡ b.w))
  room =
      let i : Inside b (record { position = position; symbol = drop start unit }) = admitted_inside b unit (record { position = position; symbol = drop start unit }) e in
      let l = block_right b (length symbols) (length marks) z in
      ((omega (arith, i.position, l.2), i.sent), (omega (arith, slot position (checks b).n b.w i.position, l.1), ap length rest ∙ i.size))

  through : {a : Outcome TakeResult} {s m : List ℕ}
      → (a ≡ (take_symbol b symbols marks (record { position = position; symbol = take (length unit - start) (drop start unit) })).answer)
      × ((s ≡ (take_symbol b symbols marks (record { position = position; symbol = take (length unit - start) (drop start unit) })).symbols)
      × (m ≡ (take_symbol b symbols marks (record { position = position; symbol = take (length unit - start) (drop start unit) })).marks))
      → (a ≡ (take_of b symbols marks unit).answer) × ((s ≡ (take_of b symbols marks unit).symbols) × (m ≡ (take_of b symbols marks unit).marks))
  through {a} {s} {m} q =
      subst (λ (t : Take). (a ≡ t.answer) × ((s ≡ t.symbols) × (m ≡ t.marks)))
      (ap (λ (y : List ℕ). take_symbol b symbols marks (record { position = position; symbol = y })) rest
      ∙ sym (take_by_lem b symbols marks unit (answered (record { position = position; symbol = drop start unit })) z e)) q

within_of : (c : In_ok-x) → c.in_ok-x.x.start ≤ length c.args.unit.now
within_of c = let a = c.args in within a.b a.symbols.now a.marks.now a.unit.now _ _ (sym c.in_ok-check_block.ensures) (sym c.in_ok-x.ensures)

room_of : (c : In_ok-x) → let a = c.args in
    ((c.in_ok-x.x.position < length a.marks.now) × (idle_at a.b c.in_ok-x.x.position ≡ false))
    × ((c.in_ok-x.x.position * a.b.w + a.b.w ≤ length a.symbols.now) × (length (take (length a.unit.now - c.in_ok-x.x.start) (drop c.in_ok-x.x.start a.unit.now)) ≡ a.b.w))
room_of c = let a = c.args in room a.b a.symbols.now a.marks.now a.unit.now _ _ (sym c.in_ok-check_block.ensures) (sym c.in_ok-x.ensures)

pub returns-in_err-check_block : goal.returns-in_err-check_block
returns-in_err-check_block c =
    let a = c.args in
    let r = apart (take-refused a.b a.symbols.now a.marks.now a.unit.now _ c.in_err-check_block.ensures (numbered _)) in
    record { answer = passed_on taken_as c.from_residual.ensures.1 r.0; symbols = r.1.0; marks = r.1.1 }

pub admit-requires : goal.admit-requires
admit-requires c =
    let g = c.layout_of.ensures in
    let r = (block_right _ _ _ (sym c.in_ok-check_block.ensures)).0 in
    (compact_of _ _ g (code-known _ r.code) (width_right _ r.width).1, (label_right _ _ r.label).1)

pub returns-in_err-x : goal.returns-in_err-x
returns-in_err-x c =
    let a = c.args in
    let r = apart (take_by_lem a.b a.symbols.now a.marks.now a.unit.now _ (sym c.in_ok-check_block.ensures) (sym c.in_err-x.ensures)) in
    record { answer = passed_on taken_as c.from_residual-in_err-x.ensures.1 r.0; symbols = r.1.0; marks = r.1.1 }

pub slice_bounds-take_symbol-start : goal.slice_bounds-take_symbol-start
slice_bounds-take_symbol-start c = within_of (goal.at.slice_bounds-take_symbol-start c).In_ok-x

pub slice_bounds-take_symbol-count : goal.slice_bounds-take_symbol-count
slice_bounds-take_symbol-count c = within_of (goal.at.slice_bounds-take_symbol-count c).In_ok-x

pub take_symbol-requires : goal.take_symbol-requires
take_symbol-requires c =
    let r = room_of (goal.at.take_symbol-requires c).In_ok-x in
    record { position_in_bounds = r.0; w_in_bounds = r.1.0; symbol_len = r.1.1 }

pub returns : goal.returns
returns c =
    let a = c.args in
    let e = c.take_symbol.ensures in
    let r = through a.b a.symbols.now a.marks.now a.unit.now _ _ (sym (goal.at.returns c).In_ok-x.in_ok-check_block.ensures) (sym (goal.at.returns c).In_ok-x.in_ok-x.ensures) (e.answer, (e.symbols, e.marks)) in
    record { answer = r.0; symbols = r.1.0; marks = r.1.1 }
