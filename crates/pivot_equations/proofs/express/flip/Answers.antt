use Prim.Native.Nat.{◌%◌}
use native.Mathlib.Omega.{arith}
use Rattle.algebra.specs.Sums.{◌⊕◌}
use Rattle.elimination.proofs.BitsLaws.{one_shifted}
use Rattle.pivot_equations.specs.Express.{flip_row_bit}
use Rattle.pivot_equations.proofs.express.flip.Goals as goal

pub returns : goal.returns
unfolding flip_row_bit ◌⊕◌
returns c = rw (one_shifted (c.args.u % 64) (omega arith))
