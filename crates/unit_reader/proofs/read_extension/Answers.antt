-- `unit_reader::read_extension` meets its contract: a value whose length was read ends within the bytes.
-- Assumes nothing.
use Rattle.std.proofs.Common.{sym, arith}
use Rattle.unit_reader.proofs.ReaderLaws.{of_length}
use Rattle.unit_reader.proofs.read_extension.Goals as goal

pub overflow_add-end : goal.overflow_add-end
overflow_add-end c = omega (arith, (of_length _ _ (sym c.in_ok-len.ensures)).inside, c.well_formed.0.1)

pub slice_bounds-read_parameters-end : goal.slice_bounds-read_parameters-end
slice_bounds-read_parameters-end c = (of_length _ _ (sym c.in_ok-len.ensures)).inside
