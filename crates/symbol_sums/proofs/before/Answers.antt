-- `symbol_sums::before` meets its contract.
-- Assumes nothing.
use mathlib.Core.Path.{sym, subst}
use Prim.Native.Nat.{ℕ}
use Rattle.std.specs.declared.option.Option.{Option}
use Rattle.symbol_sums.specs.Gather.{byte_before}
use Rattle.symbol_sums.proofs.Symbols.{before_plus}
use Rattle.symbol_sums.proofs.before.Goals as goal

pub plus-requires-clause-held : goal.plus-requires-clause-held
plus-requires-clause-held g c = ((λ b. 0), (c.args.c, c.zero-in-Some.ensures c.args.c))

pub returns-in-Some : goal.returns-in-Some
returns-in-Some g c =
    let a = c.args in
    subst (λ (o : Option ℕ). g.C.Chunk.holds (byte_before a.w a.dst.now o) a.c c.plus.result) (sym c.in-Some.is)
    (c.plus.ensures _ _ _ (c.zero-in-Some.ensures a.c) (before_plus a.w a.dst.now c.in-Some.i a.c g.C.Chunk.SIZE))
