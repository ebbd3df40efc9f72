-- Packing's refusals, tried one after the other as they are listed. Three of them, 15 (narrow), 16 (tiles) and 17 (overfull), are not in
-- ccsds/RefusalTable: they get their places there, 15 after 2, 16 after 4 and 17 after 16, when packing lands.
-- Assumes nothing.
use Rattle.std.specs.Prelude.{Bool, cond, List, [], ◌∷◌, ℕ}

-- a call's conditions, each with the number of the refusal that it leads to, in the order in which they are tried
abbrev pub Numbered : Type 0
Numbered = List (ℕ × Bool)

-- the number of the first that holds; 0 where none does
unfoldable pub first_listed : Numbered → ℕ
first_listed [] = 0
first_listed (c ∷ cs) = cond c.1 c.0 (first_listed cs)
