-- `closing::states::Filled::decode` meets its contract.
-- Assumes nothing.
use mathlib.Core.Path.{◌≡◌, sym, ◌∙◌, subst}
use Prim.Native.Nat.{ℕ, ◌-◌, ◌*◌, ◌≤◌}
use native.Mathlib.Nat.{mul-le-mul_right}
use borrow.Rule.Slice.PartMut.{put_mid}
use lib.ListN.{length, replicate}
use Rattle.std.proofs.Common.{rules}
use Rattle.algebra.specs.Staircase.{staircase}
use Rattle.block.specs.Block.{checks}
use Rattle.closing.specs.inner.Idle.{PartSet}
use Rattle.closing.proofs.Idle.{idle, put_is}
use Rattle.closing.proofs.Closing.{room, decoded}
use Rattle.closing.proofs.states.Filled.decode.Goals as goal
use Rattle.closing.proofs.states.Filled.decode.Goals.{After-fill}

-- the idle symbols are zero
cleared : (c : After-fill) → let a = c.args in let s = a.self in let w = s.block.w in
    PartSet (s.block.fill * w) (s.k * w) 0 a.symbols.now (put_mid (s.block.fill * w) (s.k * w - s.block.fill * w) a.symbols.now c.fill.new.self)
cleared c =
    let a = c.args in
    let s = a.self in
    let w = s.block.w in
    let e : c.fill.new.self ≡ replicate (s.k * w - s.block.fill * w) 0 = search rules in
    put_is a.symbols.now (s.block.fill * w) (s.k * w) 0 (mul-le-mul_right w s.fill) (subst (λ (k : ℕ). k * w ≤ length a.symbols.now) (sym s.information) (room c.requires.ready)) e

pub solve-ok-requires : goal.solve-ok-requires
unfolding checks staircase
solve-ok-requires c =
    let r = c.requires.ready in
    record { known = (r.known, r.some, r.fill); symbols_len = ((cleared (goal.at.solve-ok-requires c).After-fill).size ∙ r.symbols-size, c.put_states.ensures.size ∙ r.marks-size); words_len = (r.words_size, r.bytes-size) }

pub returns : goal.returns
returns c =
    let a = c.args in
    let p = c.requires in
    let q = decoded a.symbols.now a.marks.now p.ready (idle a.self p.within) (cleared (goal.at.returns c).After-fill) c.put_states.ensures c.solve-ok.ensures c.set_marks.ensures in
    record { symbols_after = q.0; marks_after = q.1.0; verdict = q.1.1 }
