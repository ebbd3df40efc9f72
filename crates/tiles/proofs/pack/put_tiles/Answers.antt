-- `tiles::pack::put_tiles` meets its contract: before each turn, the rows that are left are those of the tiles that are left.
-- Assumes nothing.
use mathlib.Core.Path.{◌≡◌, sym, ap, ◌∙◌}
use Prim.Native.Nat.{ℕ, ◌+◌, ◌*◌, ◌≤◌}
use native.Mathlib.Nat.{add-mul}
use native.Mathlib.Omega.{arith}
use lib.ListN.{length, drop}
use Rattle.tiles.specs.Rows.{room_of}
use Rattle.tiles.specs.Pack.{rows_of, rows_needed}
use Rattle.tiles.proofs.LengthLaws.{rows_hold, total-step, needed_step}
use Rattle.tiles.proofs.AppendingLaws.{append_more, append_end}
use Rattle.tiles.proofs.RowLaws.{room-some, tile-length, tiles-step, tiles-last}
use Rattle.tiles.proofs.pack.put_tiles.Goals as goal
use Rattle.tiles.proofs.pack.put_tiles.Goals.{After-split_at}

-- there is room for the rows of the next tile and those after it
record There (w outs rows lwc at rest : ℕ) : Type 0 where
  lwcs : lwc + (rows + rest) ≤ 65535
  room : at + (rows * w + rest * w) ≤ outs

there : (c : After-split_at) → let l = c.loop-len in let w = c.args.width.w in
    There w (length c.args.out.now) (rows_of (room_of w) (length c.split_at.result.0.now)) l.p.lwc l.p.at (rows_needed (room_of w) (drop (l.len-index + 1) c.args.lens.now))
there c =
    let l = c.loop-len in
    let w = c.args.width.w in
    let rows = rows_of (room_of w) (length c.split_at.result.0.now) in
    let rest = rows_needed (room_of w) (drop (l.len-index + 1) c.args.lens.now) in
    let n : rows_needed (room_of w) (drop l.len-index c.args.lens.now) ≡ rows + rest =
    needed_step c.args.lens.now l.len-index c.loop-len-test.true (room_of w)
    ∙ ap (λ (k : ℕ). rows_of (room_of w) k + rest) (sym c.split_at.ensures.front_len) in
    record { lwcs = omega (arith, l.invariant.2, n); room = omega (arith, l.invariant.3, ap (λ (k : ℕ). k * w) n ∙ add-mul rows rest w) }

pub split_at-requires : goal.split_at-requires
split_at-requires c = let l = c.loop-len in omega (arith, l.invariant.1, total-step c.args.lens.now l.len-index c.loop-len-test.true)

pub put_tile-p-requires-clause-lwcs : goal.put_tile-p-requires-clause-lwcs
put_tile-p-requires-clause-lwcs c = omega (arith, (there (goal.at.put_tile-p-requires-clause-lwcs c).After-split_at).lwcs)

pub put_tile-p-requires-clause-room : goal.put_tile-p-requires-clause-room
put_tile-p-requires-clause-room c = omega (arith, (there (goal.at.put_tile-p-requires-clause-room c).After-split_at).room, c.loop-len.invariant.0)

pub loop-len-preserved : goal.loop-len-preserved
loop-len-preserved c =
    let l = c.loop-len in
    let a = c.args in
    let w = a.width.w in
    let s = c.split_at.ensures in
    let h = c.loop-len-test.true in
    let done = c.put_tile-p.ensures in
    let x = there (goal.at.loop-len-preserved c).After-split_at in
    let tile = c.split_at.result.0.now in
    let size = tile-length w l.p.lwc (rows_of (room_of w) (length tile)) tile a.width.wide (rows_hold (room_of w) (room-some a.width.wide) (length tile)) in (
      done.rows.kept ∙ l.invariant.0,
      omega (arith, l.invariant.1, total-step a.lens.now l.len-index h, s.back_len),
      omega (arith, x.lwcs, done.lwc),
      omega (arith, x.room, done.rows.to, size),
      append_more _ l.invariant.4 (tiles-step w l.left.now a.lens.now l.len-index h l.p.lwc _ tile _ s.front s.back s.front_len done.lwc) done.rows,
    )

pub returns : goal.returns
returns c =
    let l = c.loop-len in
    let h : l.len-index ≡ length c.args.lens.now = omega arith in
    append_end l.invariant.4 (tiles-last _ l.p.lwc l.left.now c.args.lens.now l.len-index h)
