-- Document 01, "The unit", and document 02, job 6: SDNV numbers (RFC 6256). Seven bits a byte, high group first, the top bit set on all
-- bytes but the last, and the shortest form alone.
-- Assumes nothing.
use Rattle.std.specs.Prelude.{Result, Ok, Err, cond, ◌&&◌, List, [], ◌∷◌, ◌++◌, ℕ, zero, suc, ◌+◌, ◌*◌, ◌/◌, ◌%◌, eqb, ltb, leb, length, get_or}
use Rattle.wire.specs.declared.sdnv.Number as declared
use Rattle.wire.specs.declared.sdnv.SdnvError.{SdnvError}
use Rattle.wire.specs.declared.sdnv.SdnvError.TheVariants.{Unfinished, Wrong}

-- ---- reading

-- a number, and the position after it
pub record Number : Type 0 where
  pub value : ℕ
  pub end : ℕ

-- how the reading of a number ends: with the number; where the bytes end before it does; or at a byte that can't be accepted
pub data Reading : Type 0 where
  finished : Number → Reading
  unfinished : Reading
  wrong : Reading

-- the number v so far, and the seven bits of one byte more
abbrev pub longer : ℕ → ℕ → ℕ
longer v byte = v * 128 + byte % 128

-- Goes on at position `at` of s with the number v so far, for at most so many bytes more. Each byte decides, in this order: there is none;
-- it is a group of zeros before any other, 80 where the number is still 0; it is below 128, so the last one, and the number is too large or
-- finished. Where none is left to come, the byte before had its top bit set and the number is too long.
unfoldable pub sdnv_from : ℕ → ℕ → List ℕ → ℕ → Reading
sdnv_from zero v s at = wrong
sdnv_from (suc more) v s at =
    cond (leb (length s) at) unfinished
    (cond (eqb v 0 && eqb (get_or s at 0) 0x80) wrong
    (cond (ltb (get_or s at 0) 128)
    (cond (ltb 4294967295 (longer v (get_or s at 0))) wrong (finished (record { value = longer v (get_or s at 0); end = at + 1 })))
    (sdnv_from more (longer v (get_or s at 0)) s (at + 1))))

-- the number at a position of s: at most five bytes, at most 4,294,967,295, in its shortest form
abbrev pub number_at : List ℕ → ℕ → Reading
number_at s at = sdnv_from 5 0 s at

-- the cases of the SDNV reader's answer in the paper's words
abbrev pub sdnv_as : Result declared.Number SdnvError → Reading
sdnv_as (Ok x) = finished (record { value = x.value; end = x.end })
sdnv_as (Err Unfinished) = unfinished
sdnv_as (Err Wrong) = wrong

-- ---- writing

-- the lowest seven bits of v with the top bit set; nothing where v is zero
unfoldable pub group : ℕ → List ℕ
group v = cond (eqb v 0) [] ((128 + v % 128) ∷ [])

-- the shortest form of v, of at most five bytes: no group of zeros before the first that is not
unfoldable pub sdnv_bytes : ℕ → List ℕ
sdnv_bytes v = group (v / 268435456) ++ group (v / 2097152) ++ group (v / 16384) ++ group (v / 128) ++ (v % 128 ∷ [])
