-- What the inner functions of the encoder have in their buffers. Internal: no public contract cites it.
-- Assumes nothing.
use Rattle.std.specs.Prelude.{◌≡◌, ℕ, ◌*◌, ◌<◌, ◌≤◌, List, length}
use Rattle.algebra.specs.Codeword.{byte_at}
use Rattle.algebra.specs.Staircase.{parity}
use Rattle.ccsds.specs.Codes.{Params, touches}

-- buffers of i and p bytes hold the information symbols that are sent and the parity symbols of the code, of w bytes each
pub record Sized (c : Params) (w fill i p : ℕ) : Type 0 where
  pub some : 0 < fill
  pub most : fill ≤ c.k
  pub info : i ≡ fill * w
  pub parity : p ≡ c.m * w

-- the parity symbols before j are there
pub record Done (c : Params) (w : ℕ) (info : List ℕ) (j : ℕ) (p : List ℕ) : Type 0 where
  pub size : length p ≡ c.m * w
  pub each : (i : ℕ) → i < j → (b : ℕ) → b < w → byte_at w p b i ≡ parity c.k (λ r x. touches c x r) (byte_at w info b) i
