-- Parts appended one after the other: what stands already, and what is left.
-- Assumes nothing.
use mathlib.Core.Path.{◌≡◌, refl, sym, ap, ◌∙◌, subst}
use mathlib.Core.List.{List, [], ◌++◌, append_assoc, append-nil}
use Prim.Native.Nat.{ℕ}
use native.Mathlib.Omega.{arith}
use lib.ListN.{take}
use Rattle.wire.specs.inner.Appended.{Appended}
use Rattle.wire.proofs.AppendedLaws.{then_appended}
use Rattle.tiles.specs.inner.Steps.{Appending}

append_none : (l : List ℕ) (at : ℕ) → Appended l l at at []
append_none l at = record { to = omega arith; front = sym (append-nil (take at l)); kept = refl }

-- the same bytes in other words
pub appended-same : {old new : List ℕ} {at end : ℕ} {x y : List ℕ} → x ≡ y → Appended old new at end x → Appended old new at end y
appended-same {old} {new} {at} {end} e p = subst (λ (z : List ℕ). Appended old new at end z) e p

pub append_more : {old new new' : List ℕ} {from at at' : ℕ} {all rest x : List ℕ} (rest' : List ℕ) → Appending old new from at all rest → rest ≡ x ++ rest'
    → Appended new new' at at' x → Appending old new' from at' all rest'
append_more {x = x} rest' l e p =
    record { done = l.done ++ x; appended = then_appended l.appended p; whole = append_assoc l.done x rest' ∙ ap (λ (y : List ℕ). l.done ++ y) (sym e) ∙ l.whole }

pub append_end : {old new : List ℕ} {from at : ℕ} {all rest : List ℕ} → Appending old new from at all rest → rest ≡ [] → Appended old new from at all
append_end l e = appended-same (sym (append-nil l.done) ∙ ap (λ (y : List ℕ). l.done ++ y) (sym e) ∙ l.whole) l.appended
