-- `pivot_equations::restore::restore_by` meets its contract.
-- Assumes nothing.
use Rattle.algebra.specs.Codeword.{byte_at}
use Rattle.peeling.proofs.CodeSizes.{row-known}
use Rattle.pivot_equations.proofs.Restored.{others_few, others-sum}
use Rattle.symbol_sums.proofs.Fronts.{restore_front}
use Rattle.peeling.proofs.SymbolLaws.{replaced_by}
use Rattle.pivot_equations.proofs.restore.restore_by.Goals as goal

pub of_row-n-requires : goal.of_row-n-requires
of_row-n-requires c = record { j_bound = row-known c.args.block.now.laid _ c.requires.j_bound.0 }

pub returns-clause-replaced : goal.returns-clause-replaced
returns-clause-replaced c =
    let o = c.others-k.ensures in
    let w = c.args.block.now.shape.w in
    replaced_by (λ b. others-sum c.of_row-n.ensures o (byte_at w c.args.symbols.now b)) (restore_front c.others-k.new.xs c.others-k.result w (others_few c.of_row-n.ensures o) c.restore.ensures)
