-- `ccsds::tables::CodeLayout::degree` meets its contract.
-- Assumes nothing.
use mathlib.Core.Path.{sym}
use borrow.Author.Tests.{lt-ltb, le-ltb}
use Rattle.ccsds.proofs.tables.CodeLayout.degree.Goals as goal

pub returns-then-row-l : goal.returns-then-row-l
returns-then-row-l c = sym (simp (lt-ltb _ _ c.if-row-l.true) at (c.args.self.layout_of.degree _ c.requires))

pub returns-else-row-l : goal.returns-else-row-l
returns-else-row-l c = sym (simp (le-ltb _ _ c.if-row-l.false) at (c.args.self.layout_of.degree _ c.requires))
