-- What an answer's number is, by the case that it is.
-- Assumes nothing.
use mathlib.Core.Path.{◌≡◌, refl}
use Prim.Native.Nat.{ℕ, zero, suc}
use Rattle.ccsds.specs.Refusals.{outcome}
use Rattle.lipvezor.specs.Numbers.{number_of}

-- a refusal's number, 0 for none
pub number_by : {A : Type 0} (n : ℕ) (a : A) → number_of (outcome n a) ≡ n
number_by zero a = refl
number_by (suc n) a = refl
