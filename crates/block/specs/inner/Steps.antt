-- The answers of take's inner functions in the paper's words. Internal: no public contract cites it.
-- Assumes nothing.
use Rattle.std.specs.Prelude.{Result, Ok, Err, List, ℕ, drop}
use Rattle.ccsds.specs.Refusals.{Outcome, refused, answered, refusal_number}
use Rattle.unit_reader.specs.Reader.{Parts, extension_as}
use Rattle.unit_reader.specs.declared.UnitParts.{UnitParts}
use Rattle.block.specs.Take.{AdmittedUnit}
use Rattle.block.specs.declared.take.Admitted.{Admitted}
use Rattle.ccsds.specs.declared.refusal.Refusal.{Refusal}

abbrev pub parts_as : UnitParts → Parts
parts_as p = record { protocol = p.protocol; count = p.count; lwc = p.lwc; lsc = p.lsc; coding = extension_as p.coding; symbol = p.symbol }

abbrev pub admitted_as : List ℕ → Result Admitted Refusal → Outcome AdmittedUnit
admitted_as unit (Ok x) = answered (record { position = x.position; symbol = drop x.start unit })
admitted_as unit (Err r) = refused (refusal_number r)
