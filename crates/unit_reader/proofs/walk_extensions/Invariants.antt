-- `unit_reader::walk_extensions` meets its contract: after i turns the state is that of the first i extensions.
-- Assumes nothing.
use mathlib.Core.Path.{◌≡◌}
use Rattle.ccsds.specs.Refusals.{answered}
use Rattle.unit_reader.specs.Reader.{extensions_of, extension_as}
use Rattle.unit_reader.proofs.walk_extensions.Given as goal

abbrev pub invariant-loop-i : goal.invariant-loop-i
invariant-loop-i l = extensions_of l.s l.i ≡ answered (record { coding = extension_as l.coding; end = l.end })
