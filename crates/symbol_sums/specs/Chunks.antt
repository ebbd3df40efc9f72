-- Chunks of 64 bytes, and sums of chunks.
-- Assumes nothing.
use Rattle.std.specs.Prelude.{◌≡◌, List, ℕ, ◌+◌, ◌<◌, get_or}
use Rattle.algebra.specs.Sums.{◌⊕◌}
use Rattle.symbol_sums.specs.Gather.{Chunk16Is}
use Rattle.symbol_sums.specs.declared.chunk.Chunk64.{Chunk64}

-- s is f c, .., f (c + 63)
pub record Chunk64Is (f : ℕ → ℕ) (c : ℕ) (s : Chunk64) : Type 0 where
  pub first : Chunk16Is f c s.a
  pub second : Chunk16Is f (c + 16) s.b
  pub third : Chunk16Is f (c + 32) s.c
  pub fourth : Chunk16Is f (c + 48) s.d

-- g c, .., g (c + n - 1) are f's with the n bytes of src from index `from` on added
pub record PlusBytes (f g : ℕ → ℕ) (c n : ℕ) (src : List ℕ) (from : ℕ) : Type 0 where
  pub each : (b : ℕ) → b < n → g (c + b) ≡ f (c + b) ⊕ get_or src (from + b) 0
