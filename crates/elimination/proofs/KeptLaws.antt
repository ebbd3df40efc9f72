-- Laws of specs/Kept.antt.
-- Assumes nothing.
use mathlib.Core.Path.{refl, ◌∙◌}
use Rattle.elimination.specs.declared.system.System.{System}
use Rattle.elimination.specs.Kept.{SameBuffers, Kept}
use Rattle.elimination.proofs.SystemLaws.{same_trans}

pub buffers_refl : {a : System} → SameBuffers a a
buffers_refl = record { rows = refl; rhs = refl; shape = refl }

pub buffers_trans : {a b c : System} → SameBuffers a b → SameBuffers b c → SameBuffers a c
buffers_trans f g = record { rows = g.rows ∙ f.rows; rhs = g.rhs ∙ f.rhs; shape = g.shape ∙ f.shape }

pub kept_trans : {a b c : System} → Kept a b → Kept b c → Kept a c
kept_trans f g = record { buffers = buffers_trans f.buffers g.buffers; same = same_trans f.same (rw f.buffers.shape at g.same) }
