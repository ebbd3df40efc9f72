-- Document 01, "Open, take, close", with document 02, job 2: take. The record and the unit alone decide whether a unit is admitted.
-- Assumes nothing.
use Rattle.std.specs.Prelude.{Result, Ok, Err, Bool, true, false, not, ◌&&◌, ◌||◌, cond, List, [], ◌∷◌, ◌++◌, ℕ, zero, suc, ◌+◌, ◌-◌, ◌*◌, eqb, length, get_or, take, drop, set}
use Rattle.std.proofs.Math.Option.{Option, none, some}
use Rattle.ccsds.specs.Tables.{code_of}
use Rattle.ccsds.specs.Fill.{idle_lwc}
use Rattle.ccsds.specs.RefusalTable as refusal
use Rattle.ccsds.specs.Refusals.{first_of, wrong_length, wrong_position, Outcome, refused, answered, outcome, ◌⟫◌, refused_for, refusal_number}
use Rattle.unit_reader.specs.Reader.{Coding, Parts, read_unit}
use Rattle.block.specs.Block.{checks, block_refusal}
use Rattle.block.specs.Status.{heard_mark, wrong_mark, Status, idle, heard, missing, status_of}
use Rattle.algebra.specs.Codeword.{symbol_at}
use Rattle.ccsds.specs.declared.refusal.Refusal.{Refusal}
use Rattle.block.specs.declared.Block.{Block}
use Rattle.block.specs.declared.take.Taken.{Taken}
use Rattle.block.specs.declared.take.Taken.TheVariants.{Kept, Repeated}

-- ---- admission

-- 7, parameters: no type 1, or not the block's W, k, n and 0
unfoldable pub wrong_parameters : Block → Option Coding → Bool
wrong_parameters b none = true
wrong_parameters b (some p) = not (eqb p.w b.w && eqb p.k (code_of b.code).k && eqb p.n (checks b).n && eqb p.seed 0)

-- 8, foreign: the unit's LSC or protocol ID isn't the block's
unfoldable pub foreign : Block → Parts → Bool
foreign b p = not (eqb p.lsc b.lsc) || not (eqb p.protocol b.protocol)

-- 7 to 10 and 14, or 0: of a unit of so many bytes that was read
unfoldable pub unit_refusal : Block → Parts → ℕ → ℕ
unit_refusal b p len =
    first_of (
    (refusal.parameters, wrong_parameters b p.coding)
    ∷ (refusal.foreign, foreign b p)
    ∷ (refusal.position, wrong_position (checks b).n p.lwc)
    ∷ (refusal.idle, idle_lwc (code_of b.code).k b.fill p.lwc)
    ∷ (refusal.symbol, wrong_length (len - p.symbol) b.w)
    ∷ []
    )

-- an admitted unit's position and symbol
pub record AdmittedUnit : Type 0 where
  pub position : ℕ
  pub symbol : List ℕ

-- 5, 6, 19 or 20 from the unit reader, 7 to 10 or 14; else the position is LWC - 1 and the symbol the last W bytes
unfoldable pub admission : Block → List ℕ → Outcome AdmittedUnit
admission b unit =
    read_unit unit ⟫ λ p.
    outcome (unit_refusal b p (length unit)) (record { position = p.lwc - 1; symbol = drop (length unit - b.w) unit })

-- ---- take

pub data TakeResult : Type 0 where
  kept repeated : TakeResult

-- what take answers, and the symbol bytes and marks after it
pub record Take : Type 0 where
  pub answer : Outcome TakeResult
  pub symbols : List ℕ
  pub marks : List ℕ

-- two lists of bytes are equal
unfoldable pub same_bytes : List ℕ → List ℕ → Bool
same_bytes [] [] = true
same_bytes [] (y ∷ ys) = false
same_bytes (x ∷ xs) [] = false
same_bytes (x ∷ xs) (y ∷ ys) = eqb x y && same_bytes xs ys

-- the list with these bytes in their place from index `at` on
abbrev pub stored : List ℕ → ℕ → List ℕ → List ℕ
stored l at bytes = take at l ++ (bytes ++ drop (at + length bytes) l)

module _ (b : Block) (symbols marks : List ℕ) where
  -- this answer, and nothing changed
  abbrev pub unchanged : Outcome TakeResult → Take
  unchanged a = record { answer = a; symbols = symbols; marks = marks }

  -- an admitted unit, by the status of its position: at a heard one repeated or 12, at a missing one kept; at an idle one none is admitted
  abbrev pub take_at : AdmittedUnit → Status → Take
  take_at x idle = unchanged (refused_for refusal.idle)
  take_at x heard = unchanged (cond (same_bytes (symbol_at b.w symbols x.position) x.symbol) (answered repeated) (refused_for refusal.conflict))
  take_at x missing = record { answer = answered kept; symbols = stored symbols (x.position * b.w) x.symbol; marks = set marks x.position heard_mark }

  -- 11 by the mark there
  unfoldable pub take_symbol : AdmittedUnit → Take
  take_symbol x = cond (wrong_mark (get_or marks x.position 0)) (unchanged (refused_for refusal.mark)) (take_at x (status_of b marks x.position))

  -- by admission
  abbrev pub take_admitted : Outcome AdmittedUnit → Take
  take_admitted (refused number) = unchanged (refused number)
  take_admitted (answered x) = take_symbol x

  -- by the refusal of the block, or 0
  abbrev pub take_by : List ℕ → ℕ → Take
  take_by unit zero = take_admitted (admission b unit)
  take_by unit (suc number) = unchanged (refused (suc number))

  unfoldable pub take_of : List ℕ → Take
  take_of unit = take_by unit (block_refusal b (length symbols) (length marks))

-- the cases of take's answer in the paper's words
abbrev pub result_as : Taken → TakeResult
result_as Kept = kept
result_as Repeated = repeated

abbrev pub taken_as : Result Taken Refusal → Outcome TakeResult
taken_as (Ok t) = answered (result_as t)
taken_as (Err r) = refused (refusal_number r)
