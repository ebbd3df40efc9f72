-- `closing::wrong_marks` meets its contract.
-- Assumes nothing.
use mathlib.Core.Path.{◌∙◌}
use mathlib.Core.Bool.{Bool, false, ◌||◌}
use Prim.Native.Nat.{ℕ}
use Rattle.std.proofs.Common.{rules, tests}
use Rattle.std.proofs.lemmas.Iterator.{YieldsList-from_slice}
use Rattle.std.proofs.lemmas.Iterator.Consumers.{fold_from_yields_List}
use Rattle.block.specs.Status.{wrong_mark}
use Rattle.closing.proofs.Marks.{wrong_fold}
use Rattle.closing.proofs.wrong_marks.Goals as goal

pub returns : goal.returns
returns c =
    fold_from_yields_List _ (λ (wrong : Bool) (mark : ℕ). wrong || wrong_mark mark) false c.fold.result c.fold.ensures.ran (YieldsList-from_slice c.args.marks.now cc) (λ a x b q k. search (rules, tests))
    ∙ wrong_fold false c.args.marks.now
