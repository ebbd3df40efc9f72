-- What the inner functions of packing need and promise. Internal: no public contract cites it.
-- Assumes nothing.
use Rattle.std.specs.Prelude.{◌≡◌, cond, List, ◌++◌, ℕ, ◌+◌, ◌*◌, ◌≤◌, eqb}
use Rattle.wire.specs.inner.Appended.{Appended}
use Rattle.tiles.specs.Rows.{room_of}
use Rattle.tiles.specs.Pack.{rows_needed, total}

-- a width that has room for tile bytes
pub record Wide (w : ℕ) : Type 0 where
  pub least : 5 ≤ w
  pub most : w ≤ 1024

-- next of a row with this LWC, where so many bytes of its tile are left after it
abbrev pub next_after : ℕ → ℕ → ℕ
next_after lwc left = cond (eqb left 0) 0 (lwc + 1)

-- tiles of these lengths are those of so many bytes, and their rows fit an output of so many bytes
pub record Fitting (w bytes : ℕ) (lengths : List ℕ) (outs : ℕ) : Type 0 where
  pub sum : total lengths ≡ bytes
  pub rows : rows_needed (room_of w) lengths ≤ 65534
  pub output : rows_needed (room_of w) lengths * w ≤ outs

-- part of `all` is appended, from position `from` up to `at`, and `rest` is left
pub record Appending (old new : List ℕ) (from at : ℕ) (all rest : List ℕ) : Type 0 where
  pub done : List ℕ
  pub appended : Appended old new from at done
  pub whole : done ++ rest ≡ all
