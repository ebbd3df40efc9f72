-- What the steps of elimination keep of a system: its buffers and its shape; and its solutions.
-- Assumes nothing.
use Rattle.std.specs.Prelude.{◌≡◌, Bool, List, ℕ}
use Rattle.elimination.specs.declared.system.System.{System}
use Rattle.elimination.specs.System.{SameSolutions}
use Rattle.elimination.specs.PivotStep.{PivotStep, ReducedWhere}

-- b lies in the buffers of a, and has its shape
pub record SameBuffers (a b : System) : Type 0 where
  pub rows : b.rows.ghost_name ≡ a.rows.ghost_name
  pub rhs : b.rhs.ghost_name ≡ a.rhs.ghost_name
  pub shape : b.shape ≡ a.shape

-- and has the same solutions
pub record Kept (a b : System) : Type 0 where
  pub buffers : SameBuffers a b
  pub same : SameSolutions a.rows.now a.rhs.now b.rows.now b.rhs.now a.shape.rows a.shape.words a.shape.width

-- the pivot step at row r takes a to b
pub record Stepped (a b : System) (r : ℕ) : Type 0 where
  pub buffers : SameBuffers a b
  pub step : PivotStep a.rows.now a.rhs.now b.rows.now b.rhs.now a.shape.rows a.shape.words a.shape.width r

-- each row of a for which f has true is reduced
abbrev pub ReducedAt : List Bool → System → Type 0
ReducedAt f a = ReducedWhere f a.rows.now a.shape.rows a.shape.words
