-- `decoder::dependence::no_bits` meets its contract.
-- Assumes nothing.
use Rattle.std.proofs.Common.{◌≡◌, ◌+◌, take, drop, fold, bit_or, rules, arith}
use Rattle.decoder.proofs.Determined.{all_or, no_bits}
use Rattle.decoder.proofs.dependence.no_bits.Goals as goal

pub returns : goal.returns
returns c =
    let a = c.args in
    let e : c.fold.result ≡ fold bit_or 0 (take a.len (drop a.at a.words.now)) = search rules in
    no_bits a.words.now a.at a.len (λ k h. omega (arith, c.type_inv.words (a.at + k))) _ (rw e (all_or a.words.now a.at a.len c.requires))
