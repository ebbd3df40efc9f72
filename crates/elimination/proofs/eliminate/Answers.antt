-- `elimination::eliminate` meets its contract: each of its calls keeps the solutions.
-- Assumes nothing.
use native.Mathlib.Omega.{arith}
use mathlib.Core.Bool.{false}
use mathlib.Core.Logic.{inl}
use native.Mathlib.Nat.{le_trans}
use lib.ListN.{get_or-replicate}
use Rattle.elimination.proofs.KeptLaws.{kept_trans}
use Rattle.std.proofs.Common.{rules}
use Rattle.elimination.proofs.eliminate.Goals as goal

-- no row is done at first
pub set_singletons-requires : goal.set_singletons-requires
set_singletons-requires c = record { long = omega arith; rows = λ s h. inl (get_or-replicate 1024 s false false (le_trans h c.forward_pass-count.new.self.fits.in_rows.few)) }

pub returns-clause-same_solutions : goal.returns-clause-same_solutions
returns-clause-same_solutions c =
    let all = kept_trans c.forward_pass-count.ensures.kept (kept_trans c.set_singletons.ensures.kept (kept_trans c.back_substitute.ensures.kept c.reduce_remaining.ensures.kept)) in
    search (rules, all.same)
