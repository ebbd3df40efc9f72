-- What the unit writer's inner functions ask of the numbers that they put.
-- Assumes nothing.
use Rattle.std.specs.Prelude.{ℕ, ◌≤◌, ◌<◌}

-- coding parameters as every code has them: W in at most two bytes, k and n in two each
pub record Compact (w k n : ℕ) : Type 0 where
  pub few-w : w < 16384
  pub two_k : (128 ≤ k) × (k < 16384)
  pub two_n : (128 ≤ n) × (n < 16384)
