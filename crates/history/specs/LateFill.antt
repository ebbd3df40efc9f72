-- Document 02, job 2: a fill that the receiver learns only after the block was opened. It opens with a larger one, such as k, takes and
-- closes with that, and from then on with the block's own. It is proved from `FromTheList`.
-- Assumes nothing.
use Rattle.std.specs.Prelude.{◌≡◌, List, ◌++◌, ℕ, ◌≤◌}
use Rattle.ccsds.specs.Refusals.{answered}
use Rattle.block.specs.Open.{open_of}
use Rattle.closing.specs.Close.{Report}
use Rattle.history.specs.Calls.{Call, close_with, History, State, closed, opened, next, answer, run}
use Rattle.block.specs.declared.Block.{Block}

-- b' is b but for the fill, which is no larger
pub record Shorter (b b' : Block) : Type 0 where
  pub code : b'.code ≡ b.code
  pub w : b'.w ≡ b.w
  pub protocol : b'.protocol ≡ b.protocol
  pub lsc : b'.lsc ≡ b.lsc
  pub fill : b'.fill ≤ b.fill

-- by the record b two states are alike: every call answers the same on both, and a close that is not refused leaves the same bytes and marks
pub record Alike (b : Block) (s t : State) : Type 0 where
  pub answers : (c : Call) → answer b s c ≡ answer b t c
  pub leaves : (words bytes : List ℕ) (r : Report) → answer b s (close_with words bytes) ≡ closed (answered r)
      → next b s (close_with words bytes) ≡ next b t (close_with words bytes)

-- For any two records that open returned, of which the second is the first with a smaller or equal fill, whatever the buffers held, and any two
-- lists of takes and closes: after the calls of h with the first record and then those of g with the second, every call with the second answers,
-- and a close leaves, what it would if all calls had been with the second.
abbrev pub LateFill : Type 0
LateFill = (o b : Block) (symbols marks : List ℕ) → (open_of o symbols marks).answer ≡ answered b
    → (o' b' : Block) (symbols' marks' : List ℕ) → (open_of o' symbols' marks').answer ≡ answered b'
    → Shorter b b'
    → (h g : History) → Alike b' (run b' (run b (opened (open_of o symbols marks)) h) g) (run b' (opened (open_of o' symbols' marks')) (g ++ h))
