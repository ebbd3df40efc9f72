-- Document 02, job 2: a block's fill, the number of its information symbols that are sent, 1 to k. Information positions from fill to k - 1
-- are idle: their symbols are zero, and they are never sent.
-- Assumes nothing.
use Rattle.std.specs.Prelude.{Bool, ◌&&◌, ◌||◌, List, ◌++◌, ℕ, ◌-◌, ◌*◌, eqb, leb, ltb, replicate}

-- position i is idle: of k
unfoldable pub is_idle : ℕ → ℕ → ℕ → Bool
is_idle k fill i = leb fill i && ltb i k

-- 13, fill
unfoldable pub wrong_fill : ℕ → ℕ → Bool
wrong_fill k fill = eqb fill 0 || ltb k fill

-- 14, idle: an LWC that names an idle position
unfoldable pub idle_lwc : ℕ → ℕ → ℕ → Bool
idle_lwc k fill lwc = is_idle k fill (lwc - 1)

-- the information part of a block: the information symbols u that are sent, of w bytes, and the idle ones, which are zero
unfoldable pub padded : ℕ → ℕ → ℕ → List ℕ → List ℕ
padded k w fill u = u ++ replicate ((k - fill) * w) 0
