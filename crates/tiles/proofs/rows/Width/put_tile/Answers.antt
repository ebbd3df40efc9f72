-- `tiles::rows::Width::put_tile` meets its contract: before each turn, the rows that are left are those of the bytes that are left.
-- Assumes nothing.
use mathlib.Core.Path.{◌≡◌, ap, ◌∙◌}
use Prim.Native.Nat.{ℕ, ◌+◌, ◌*◌, ◌<◌, ◌≤◌}
use native.Mathlib.Omega.{arith}
use lib.ListN.{length}
use borrow.Author.Rules.{rules}
use Rattle.tiles.specs.Rows.{room_of}
use Rattle.tiles.specs.Pack.{rows_of}
use Rattle.tiles.proofs.LengthLaws.{rows_none}
use Rattle.tiles.proofs.AppendingLaws.{append_more, append_end}
use Rattle.tiles.proofs.RowLaws.{one_more_lem, room-some, row-length, Next, next_row, tile-end}
use Rattle.tiles.proofs.rows.Width.put_tile.Goals as goal
use Rattle.tiles.proofs.rows.Width.put_tile.Goals.{After-next_of-next, After-loop-left}

-- the row of this turn
next : (c : After-next_of-next) → Next c.args.self.w c.loop-left.lwc c.next_of-next.result c.loop-left.left.now c.split_at.result.0.now c.split_at.result.1.now
next c =
    let h : 0 < length c.loop-left.left.now = search rules in
    next_row _ _ _ c.min.result _ _ _ c.args.self.wide h c.min.ensures c.split_at.ensures.front c.split_at.ensures.back c.next_of-next.ensures

-- there is room for it, and for those after it
inside : (c : After-next_of-next) → let l = c.loop-left in let a = c.args in
    l.at + a.self.w + rows_of (room_of a.self.w) (length c.split_at.result.1.now) * a.self.w ≤ length a.out.now
inside c =
    let l = c.loop-left in
    let w = c.args.self.w in
    omega (arith, l.invariant.2, ap (λ (k : ℕ). k * w) (next c).rows, one_more_lem (rows_of (room_of w) (length c.split_at.result.1.now)) w)

-- no row is left
none : (c : After-loop-left) → rows_of (room_of c.args.self.w) (length c.loop-left.left.now) ≡ 0
none c = rows_none _ (room-some c.args.self.wide) _ (search rules)

pub next_of-next-requires : goal.next_of-next-requires
next_of-next-requires c = omega (arith, c.loop-left.invariant.1, c.requires.lwcs)

pub put_row-at-requires-clause-next : goal.put_row-at-requires-clause-next
put_row-at-requires-clause-next c =
    let x = next (goal.at.put_row-at-requires-clause-next c).After-next_of-next in
    omega (arith, x.few, x.rows, c.loop-left.invariant.1, c.requires.lwcs)

pub put_row-at-requires-clause-room : goal.put_row-at-requires-clause-room
put_row-at-requires-clause-room c = omega (arith, inside (goal.at.put_row-at-requires-clause-room c).After-next_of-next, c.loop-left.invariant.0)

pub loop-left-preserved : goal.loop-left-preserved
loop-left-preserved c =
    let l = c.loop-left in
    let a = c.args in
    let p = (goal.at.loop-left-preserved c).After-next_of-next in
    let x = next p in
    let done = c.put_row-at.ensures in
    let size = row-length a.self.w c.next_of-next.result c.split_at.result.0.now a.self.wide.least x.most in (
      done.kept ∙ l.invariant.0,
      omega (arith, x.rows, l.invariant.1),
      omega (arith, inside p, done.to, size),
      append_more _ l.invariant.3 x.bytes done,
    )

pub returns-clause-lwc : goal.returns-clause-lwc
returns-clause-lwc c = omega (arith, c.loop-left.invariant.1, none c)

pub returns-clause-rows : goal.returns-clause-rows
returns-clause-rows c = append_end c.loop-left.invariant.3 (tile-end _ _ _ _ (none c))
