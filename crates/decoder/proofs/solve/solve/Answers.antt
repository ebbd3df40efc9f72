-- `decoder::solve::solve` meets its contract.
-- Assumes nothing.
use mathlib.Core.Path.{◌≡◌, sym, ap}
use mathlib.Core.Bool.{Bool, false, cond}
use mathlib.Core.List.{List}
use Prim.Native.Nat.{ℕ, ◌+◌, ◌*◌, ◌/◌, ◌<◌}
use native.Mathlib.Omega.{arith}
use Rattle.elimination.proofs.Order.{lt_or_le}
use mathlib.Core.Logic.{⊎_elim}
use lib.ListN.{length, get_or, replicate, length-replicate, get_or-replicate, get_or-eq_default}
use Rattle.algebra.specs.Staircase.{staircase}
use Rattle.ccsds.specs.Tables.{code_of}
use Rattle.encoder.specs.inner.Positions.{checks, sent_checks}
use Rattle.encoder.specs.declared.positions.Shape.{Shape}
use Rattle.encoder.proofs.Sent.{at_numbers}
use Rattle.peeling.specs.Plan.{Arrays}
use Rattle.peeling.specs.Values.{Peeled}
use Rattle.decoder.specs.Outcome.{Outcome, Decoded}
use Rattle.decoder.proofs.OutcomeLaws.{decoded}
use Rattle.decoder.proofs.Assembly.{outcome-same}
use Rattle.decoder.proofs.solve.solve.Goals as goal
use Rattle.decoder.proofs.solve.solve.Goals.{After-lay-shape}

-- the lengths, by the shape of the block
sized : (c : After-lay-shape)
    → let s = c.lay-shape.result in
    let k = checks s in
    (length c.args.states.now ≡ k.n) × (length c.args.symbols.now ≡ k.n * s.w) × (length c.args.words.now ≡ k.m * (k.n / 64 + 1)) × (length c.args.bytes.now ≡ k.m * s.w) × (0 < s.w)
unfolding staircase
sized c =
    let a = c.args in
    let p = c.requires in
    let e = c.lay-shape.ensures.numbers in
    at_numbers (λ number w fill.
    (length a.states.now ≡ (sent_checks (code_of number) fill).n) × (length a.symbols.now ≡ (sent_checks (code_of number) fill).n * w)
    × (length a.words.now ≡ (sent_checks (code_of number) fill).m * ((sent_checks (code_of number) fill).n / 64 + 1))
    × (length a.bytes.now ≡ (sent_checks (code_of number) fill).m * w) × (0 < w)) e.0 e.1 e.2
    (p.symbols_len.1, p.symbols_len.0, p.words_len.0, p.words_len.1, p.known.1)

-- what either way leaves, by the caller's numbers
module _ {number w fill : ℕ} (s : Shape) (e : (s.number ≡ number) × (s.w ≡ w) × (s.fill ≡ fill)) (some : 0 < w) {y block states : List ℕ} {plan : Arrays} {early steps pivots : ℕ}
    (L : Peeled (checks s) s.w block states plan y early steps pivots) where
  left : {s' m' : List ℕ} {r : Bool} → Outcome (checks s) s.w y states s' m' r → Decoded (sent_checks (code_of number) fill) w block states s' m' r
  left {s'} {m'} {r} O =
      at_numbers (λ number w fill. Decoded (sent_checks (code_of number) fill) w block states s' m' r) (sym e.0) (sym e.1) (sym e.2)
      (decoded (checks s) s.w block states s' m' r (rw e.1 some) (outcome-same (checks s) s.w block y states L.values.known-byte s' m' r O))

-- no check row is used yet
none-used : (j : ℕ) → get_or (replicate 1024 false) j false ≡ false
none-used j = ⊎_elim (λ h. get_or-replicate 1024 j false false h) (λ h. get_or-eq_default (replicate 1024 false) false {n = j} (omega (arith, length-replicate 1024 false))) (lt_or_le j 1024)

pub peel-g-requires-clause-unused : goal.peel-g-requires-clause-unused
peel-g-requires-clause-unused c j = ap (λ (b : Bool). cond b 1 0) (none-used j)

pub peel-g-requires-clause-states_len : goal.peel-g-requires-clause-states_len
peel-g-requires-clause-states_len c = let z = sized (goal.at.peel-g-requires-clause-states_len c).After-lay-shape in (z.0, z.1)

pub by_steps-requires-clause-states_len : goal.by_steps-requires-clause-states_len
by_steps-requires-clause-states_len c = (sized (goal.at.by_steps-requires-clause-states_len c).After-lay-shape).0

pub returns-then-g-eq0 : goal.returns-then-g-eq0
returns-then-g-eq0 c = left c.lay-shape.result c.lay-shape.ensures.numbers c.requires.known.1 c.peel-g.ensures c.by_steps.ensures

pub by_pivots-requires-clause-words_len : goal.by_pivots-requires-clause-words_len
by_pivots-requires-clause-words_len c = let z = sized (goal.at.by_pivots-requires-clause-words_len c).After-lay-shape in (z.2, z.3)

pub by_pivots-requires-clause-w_nonzero : goal.by_pivots-requires-clause-w_nonzero
by_pivots-requires-clause-w_nonzero c = let z = sized (goal.at.by_pivots-requires-clause-w_nonzero c).After-lay-shape in (z.4, z.0)

pub returns : goal.returns
returns c = left c.lay-shape.result c.lay-shape.ensures.numbers c.requires.known.1 c.peel-g.ensures c.by_pivots.ensures
