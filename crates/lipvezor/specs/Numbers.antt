-- Records and answers as numbers, for C and Rust. Each call answers 0 where it is done and else the number of its refusal; what else it has
-- to say stands in a lent record.
-- Assumes nothing.
use Rattle.std.specs.Prelude.{List, [], ◌∷◌, ℕ, get_or}
use Rattle.std.proofs.Math.Option.{Option, none, some}
use Rattle.algebra.specs.Agreeing.{Verdict, whole, ambiguous, inconsistent}
use Rattle.ccsds.specs.Refusals.{Outcome, refused, answered}
use Rattle.unit_reader.specs.Reader.{Coding, Parts}
use Rattle.block.specs.Take.{TakeResult, kept, repeated}
use Rattle.closing.specs.Close.{Report}
use Rattle.block.specs.declared.Block.{Block}

-- the library's version: first number × 10000 + second × 100 + third
abbrev pub version : ℕ
version = 501

-- a block's record from its five numbers
unfoldable pub block_of : List ℕ → Block
block_of r = record { code = get_or r 0 0; w = get_or r 1 0; protocol = get_or r 2 0; lsc = get_or r 3 0; fill = get_or r 4 0 }

-- 0, or the number of the refusal
abbrev pub number_of : {A : Type 0} → Outcome A → ℕ
number_of (refused number) = number
number_of (answered a) = 0

-- a lent record afterwards: the values of what was answered; a refusal leaves it as it was
abbrev pub record_after : {A : Type 0} → (A → List ℕ) → List ℕ → Outcome A → List ℕ
record_after values old (refused number) = old
record_after values old (answered a) = values a

-- ---- read

-- 1 and W, k, n and the seed; zeros where no type 1 came
abbrev pub coding_values : Option Coding → List ℕ
coding_values none = 0 ∷ 0 ∷ 0 ∷ 0 ∷ 0 ∷ []
coding_values (some p) = 1 ∷ p.w ∷ p.k ∷ p.n ∷ p.seed ∷ []

abbrev pub parts_values : Parts → List ℕ
parts_values p = p.protocol ∷ p.count ∷ p.lwc ∷ p.lsc ∷ p.symbol ∷ coding_values p.coding

-- ---- take

abbrev pub result_values : TakeResult → List ℕ
result_values kept = 1 ∷ []
result_values repeated = 2 ∷ []

-- ---- close

abbrev pub verdict_number : Verdict → ℕ
verdict_number whole = 1
verdict_number ambiguous = 2
verdict_number inconsistent = 3

-- the verdict, and the counts of heard, filled and left positions
abbrev pub report_values : Report → List ℕ
report_values r = verdict_number r.verdict ∷ r.heard ∷ r.filled ∷ r.left ∷ []
