-- A system of shape s in lent buffers: its rows in a words, its right-hand side in b bytes.
-- Assumes nothing.
use Rattle.std.specs.Prelude.{ℕ, ◌+◌, ◌*◌, ◌≤◌}
use Rattle.elimination.specs.declared.Shape.{Shape}

-- the most rows, and the most words of a row without the pivot word
abbrev pub max_rows : ℕ
max_rows = 1024

abbrev pub max_words : ℕ
max_words = 48

-- the rows, which are no more and no longer than elimination takes
pub record FitsRows (s : Shape) (a : ℕ) : Type 0 where
  pub few : s.rows ≤ max_rows
  pub short : s.words ≤ max_words
  pub within : s.rows * (s.words + 1) ≤ a

-- and the right-hand side
pub record Fits (s : Shape) (a b : ℕ) : Type 0 where
  pub in_rows : FitsRows s a
  pub in_rhs : s.rows * s.width ≤ b
