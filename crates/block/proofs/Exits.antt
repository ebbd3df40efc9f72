-- What a `?` answers where it leaves the function.
-- Assumes nothing.
use mathlib.Core.Path.{◌≡◌}
use Rattle.std.specs.Prelude.{Result, Err, IsErrAnd}
use Rattle.std.proofs.lemmas.Result.{err_from_is_err_and}

-- by what is known of the error that it passes on
pub passed_on : {A E O : Type 0} (say : Result A E → O) {r : Result A E} {e : E} {o : O} → IsErrAnd r (λ x. x ≡ e) → say (Err e) ≡ o → say r ≡ o
passed_on say {r} h q = let p = err_from_is_err_and r h in rw (p.1, p.2) q
