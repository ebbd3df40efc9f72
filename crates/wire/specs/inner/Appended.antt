-- What stands in an output that is filled from its start on, after the next bytes were put. Internal: no public contract cites it.
-- Assumes nothing.
use Rattle.std.specs.Prelude.{◌≡◌, List, [], ◌∷◌, ◌++◌, ℕ, ◌+◌, length, take}
use Rattle.wire.specs.declared.copy.Four.{Four}

-- the bytes are appended at position `at`: they stand from there up to `end`, and what stood before them stands there still
pub record Appended (old new : List ℕ) (at end : ℕ) (bytes : List ℕ) : Type 0 where
  pub to : end ≡ at + length bytes
  pub front : take end new ≡ take at old ++ bytes
  pub kept : length new ≡ length old

-- four bytes as a list
abbrev pub four_of : Four → List ℕ
four_of x = x.a ∷ x.b ∷ x.c ∷ x.d ∷ []
