-- `closing::close` meets its contract.
-- Assumes nothing.
use mathlib.Core.Path.{◌≡◌, refl, sym, ap, ◌∙◌}
use Prim.Native.Nat.{ℕ, ◌≤◌}
use native.Mathlib.Omega.{arith}
use lib.ListN.{length, replicate}
use lib.Seq.{length-take-le}
use Rattle.block.proofs.Exits.{passed_on}
use Rattle.ccsds.proofs.RefusalOrder.{numbered}
use Rattle.closing.specs.Close.{close_refusal, report_as, closed_as}
use Rattle.closing.specs.inner.Idle.{IdleIn}
use Rattle.closing.proofs.CloseRefusal.{ready, idle_in, marks-few}
use Rattle.closing.proofs.Closing.{close_refused, close_told, marks-small}
use Rattle.std.proofs.Common.{rules}
use Rattle.closing.proofs.close.Goals as goal
use Rattle.closing.proofs.close.Goals.{After-k, In_ok-check_close}

-- nothing is refused; the idle positions; the marks have room in the states' array
passed : (c : In_ok-check_close) → let a = c.args in close_refusal a.b a.symbols.now a.marks.now a.work_words.now a.work_bytes.now ≡ 0
passed c = sym c.in_ok-check_close.ensures

idle : (c : After-k) → IdleIn c.args.b c.k.result (length c.args.marks.now)
idle c =
    let a = c.args in
    idle_in a.b a.symbols.now a.marks.now a.work_words.now a.work_bytes.now c.k.ensures (passed c.before)

room : (c : In_ok-check_close) → length c.args.marks.now ≤ 3072
room c = let a = c.args in marks-few a.b a.symbols.now a.marks.now a.work_words.now a.work_bytes.now (passed c)

pub returns-in_err-check_close : goal.returns-in_err-check_close
returns-in_err-check_close c =
    let a = c.args in
    let q = close_refused a.b a.symbols.now a.marks.now a.work_words.now a.work_bytes.now _ c.in_err-check_close.ensures (numbered _) in
    record { answer = passed_on closed_as c.from_residual.ensures.1 q.0; symbols = q.1.0; marks = q.1.1.0; work_words = q.1.1.1.0; work_bytes = q.1.1.1.1 }

pub invariant_of-filled : goal.invariant_of-filled
invariant_of-filled c = let i = idle (goal.at.invariant_of-filled c).After-k in record { information = i.information; fill = i.fill }

pub slice_bounds-states-end : goal.slice_bounds-states-end
slice_bounds-states-end c = room (goal.at.slice_bounds-states-end c).In_ok-check_close

pub slice_bounds-decode-end : goal.slice_bounds-decode-end
slice_bounds-decode-end c = sym (length-take-le _ _ (room (goal.at.slice_bounds-decode-end c).In_ok-check_close))

pub decode-ok-requires : goal.decode-ok-requires
decode-ok-requires c =
    let a = c.args in
    record { ready = ready a.b a.symbols.now a.marks.now a.work_words.now a.work_bytes.now (passed (goal.at.decode-ok-requires c).In_ok-check_close); within = (idle (goal.at.decode-ok-requires c).After-k).within; states_len = length-take-le _ _ (room (goal.at.decode-ok-requires c).In_ok-check_close) }

pub make_report-requires : goal.make_report-requires
make_report-requires c =
    let a = c.args in
    let d = c.decode-ok in
    let f = room (goal.at.make_report-requires c).In_ok-check_close in
    record { within = omega (arith, d.auto.marks, (idle (goal.at.make_report-requires c).After-k).within); marks_right = (omega (arith, f, d.auto.marks), marks-small a.b a.symbols.now a.marks.now _ d.ensures.marks_after) }

pub returns : goal.returns
returns c =
    let a = c.args in
    let d = c.decode-ok in
    let words : c.fill.new.self ≡ replicate (length d.new.work_words) 0 = search rules in
    let bytes : c.fill-2.new.self ≡ replicate (length d.new.work_bytes) 0 = search rules in
    let q = close_told a.b a.symbols.now a.marks.now a.work_words.now a.work_bytes.now _ (goal.at.returns c).In_ok-check_close.in_ok-check_close.ensures refl d.result _ _ _ _ d.ensures.symbols_after d.ensures.marks_after d.ensures.verdict
    (words ∙ ap (λ (n : ℕ). replicate n 0) d.auto.work_words) (bytes ∙ ap (λ (n : ℕ). replicate n 0) d.auto.work_bytes) (report_as c.make_report.result) c.make_report.ensures in
    record { answer = q.0; symbols = q.1.0; marks = q.1.1.0; work_words = q.1.1.1.0; work_bytes = q.1.1.1.1 }
