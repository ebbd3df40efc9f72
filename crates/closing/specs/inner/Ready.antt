-- What close works on once none of 1 to 4 and 13 applies. Internal: no public contract cites it.
-- Assumes nothing.
use Rattle.std.specs.Prelude.{◌≡◌, ℕ, ◌+◌, ◌*◌, ◌/◌, ◌<◌, ◌≤◌}
use Rattle.ccsds.specs.Tables.{code_of, Known}
use Rattle.block.specs.Block.{checks}
use Rattle.block.specs.declared.Block.{Block}

-- a record of a known code, a width and a fill, and the lengths of its four buffers
pub record Ready (b : Block) (symbols marks words bytes : ℕ) : Type 0 where
  pub known : Known b.code
  pub some : 0 < b.w
  pub fill : b.fill ≤ (code_of b.code).k
  pub symbols-size : symbols ≡ (checks b).n * b.w
  pub marks-size : marks ≡ (checks b).n
  pub words_size : words ≡ (checks b).m * ((checks b).n / 64 + 1)
  pub bytes-size : bytes ≡ (checks b).m * b.w
