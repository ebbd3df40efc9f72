-- `buffers::all_zero` meets its contract.
-- Assumes nothing.
use Rattle.std.proofs.Common.{rules, ◌≡◌, ℕ, take, drop, bit_or, fold, nat_eq, sym, subst}
use Rattle.buffers.specs.AllZero.{AllZeroIs}
use Rattle.buffers.proofs.AllZeroLaws.{all_folded}
use Rattle.buffers.proofs.all_zero.Goals as goal

pub returns : goal.returns
returns c =
    let a = c.args in
    let e : c.fold.result ≡ fold (λ (a x : ℕ). bit_or a x) 0 (take a.len (drop a.from a.s.now)) = search rules in
    subst (λ (r : ℕ). AllZeroIs a.s.now a.from a.len (nat_eq r 0)) (sym e) (all_folded a.s.now a.from a.len c.requires)
