-- `encoder::encode::put_row` meets its contract.
-- Assumes nothing.
use Rattle.std.proofs.Common.{◌≤◌, length, arith}
use Rattle.algebra.proofs.Codeword.{slot}
use Rattle.symbol_sums.proofs.Fronts.{before_lt, put_front_before}
use Rattle.encoder.proofs.CheckRow.{number}
use Rattle.encoder.proofs.Parity.{row_inside, done_more}
use Rattle.encoder.proofs.encode.put_row.Goals as goal

pub overflow_mul-j : goal.overflow_mul-j
overflow_mul-j c = let T = c.args.rows.now.laid in omega (arith, number T c.requires.i_bound.1 _ c.requires.i_bound.0, T.shaped.given.m, T.shaped.given.few)

pub overflow_add-j : goal.overflow_add-j
overflow_add-j c = let T = c.args.rows.now.laid in omega (arith, number T c.requires.i_bound.1 _ c.requires.i_bound.0, T.shaped.given.m, T.shaped.given.few)

pub put_sum-requires : goal.put_sum-requires
put_sum-requires c =
    let j = number c.args.rows.now.laid c.requires.i_bound.1 _ c.requires.i_bound.0 in
    record {
      prev_lt_j = (before_lt _ _ c.checked_sub.ensures, omega (arith, slot _ _ c.args.rows.now.shape.w j.1, c.requires.info_len.1.size));
      inside = row_inside _ c.args.rows.now.shape.w c.args.info.now _ c.requires.info_len.0 c.information-n.ensures;
    }

pub returns : goal.returns
returns c =
    let T = c.args.rows.now.laid in
    let n = c.information-n.ensures in
    let j = number T c.requires.i_bound.1 _ c.requires.i_bound.0 in
    let few : c.information-n.result ≤ length c.information-n.new.xs = omega (arith, n.size, n.few) in
    (n.size, done_more _ c.args.rows.now.shape.w c.args.info.now c.requires.info_len.0 T.shaped.most c.requires.info_len.1 n j.0 (put_front_before c.information-n.new.xs c.information-n.result c.args.rows.now.shape.w few _ _ c.args.info.now c.checked_sub.ensures c.put_sum.ensures))
