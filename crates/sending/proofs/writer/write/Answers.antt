-- `sending::writer::write` meets its contract: header, extension and symbol, one after the other, fill the output.
-- Assumes nothing.
use mathlib.Core.Path.{◌≡◌, refl, sym, ap, ◌∙◌}
use Prim.Native.Nat.{ℕ, ◌+◌}
use native.Mathlib.Omega.{arith}
use lib.ListN.{length}
use Rattle.ccsds.specs.Tables.{code_of}
use Rattle.ccsds.specs.Refusals.{first_of, record_conditions, refusal_number}
use Rattle.ccsds.specs.Units.{unit_of, unit_length, symbol_start}
use Rattle.sending.specs.Writer.{unit_conditions, write_refusal}
use Rattle.ccsds.proofs.Valid.{few_of}
use Rattle.ccsds.proofs.RefusalOrder.{numbered, in_order, part_refuses, part-passed}
use Rattle.ccsds.proofs.Refusals.{code-known, width_right, record_none, refused-by, kept_by, answered-by, changed_by}
use Rattle.wire.proofs.AppendedLaws.{then_appended, appended-whole}
use Rattle.ccsds.proofs.UnitLaws.{header-length, compact_of, n_of_lem, extension_of_lem, unit_length_lem}
use Rattle.sending.proofs.Writable.{Writable, writable}
use Rattle.sending.proofs.writer.write.Goals as goal
use Rattle.sending.proofs.writer.write.Goals.{In-Err, In_default-check_unit}

-- what the second check answers is the refusal, and so is what the first one answers where it refuses
passed : (number w protocol lsc fill lwc symbol_len out_len : ℕ) {n : ℕ} → 0 ≡ first_of (record_conditions number w protocol lsc fill)
    → n ≡ first_of (unit_conditions number w fill lwc symbol_len out_len) → n ≡ write_refusal number w protocol lsc fill lwc symbol_len out_len
unfolding write_refusal
passed number w protocol lsc fill lwc symbol_len out_len z e =
    e ∙ in_order _ refl ∙ sym (part-passed (record_conditions number w protocol lsc fill) _ refl refl _ z refl)

refused_first : (c : In-Err) → let a = c.args in
    refusal_number c.in-Err.refusal ≡ write_refusal a.code a.w a.protocol a.lsc a.fill a.lwc (length a.symbol.now) (length a.out.now)
unfolding write_refusal
refused_first c =
    let a = c.args in
    part_refuses (record_conditions a.code a.w a.protocol a.lsc a.fill) _ refl refl _ c.in-Err.ensures (numbered _)

ready : (c : In_default-check_unit) → let a = c.args in Writable a.code a.w a.protocol a.lsc a.lwc (length a.symbol.now) (length a.out.now)
ready c = writable _ _ _ _ _ _ _ _ (sym (passed _ _ _ _ _ _ _ _ c.in_default.ensures c.in_default-check_unit.ensures))

room : (number w protocol lsc lwc symbol_len out_len : ℕ) → Writable number w protocol lsc lwc symbol_len out_len
    → out_len ≡ symbol_start (code_of number) w + symbol_len
unfolding unit_length
room number w protocol lsc lwc symbol_len out_len r = omega (arith, r.output, r.symbol)

pub returns-in-Err-clause-answer : goal.returns-in-Err-clause-answer
returns-in-Err-clause-answer c = refused-by _ _ (refused_first c) (numbered _) tt

pub returns-in-Err-clause-output : goal.returns-in-Err-clause-output
returns-in-Err-clause-output c = kept_by _ _ (refused_first c) (numbered _) _ _

pub invariant_of-c : goal.invariant_of-c
invariant_of-c c =
    let n = record_none _ _ _ _ _ (sym (in_order _ refl) ∙ sym c.in_default.ensures) in
    record { compact = compact_of _ _ c.layout_of-l.ensures (code-known _ n.0) (width_right _ n.1).1 }

pub check_unit-requires : goal.check_unit-requires
check_unit-requires c = (c.layout_of-l.ensures.k, n_of_lem c.layout_of-l.ensures)

pub returns-in-Err-check_unit-clause-answer : goal.returns-in-Err-check_unit-clause-answer
returns-in-Err-check_unit-clause-answer c = refused-by _ _ (passed _ _ _ _ _ _ _ _ c.in_default.ensures c.in-Err-check_unit.ensures) (numbered _) tt

pub returns-in-Err-check_unit-clause-output : goal.returns-in-Err-check_unit-clause-output
returns-in-Err-check_unit-clause-output c = kept_by _ _ (passed _ _ _ _ _ _ _ _ c.in_default.ensures c.in-Err-check_unit.ensures) (numbered _) _ _

pub put_header-a-requires : goal.put_header-a-requires
put_header-a-requires c =
    let r = ready (goal.at.put_header-a-requires c).In_default-check_unit in
    (omega (arith, room _ _ _ _ _ _ _ r), omega (arith, r.label.1), omega (arith, r.label.0), omega (arith, r.position.1, few_of c.args.code))

pub put_extension-b-requires : goal.put_extension-b-requires
put_extension-b-requires c =
    let a = c.args in
    let g = c.layout_of-l.ensures in
    let r = ready (goal.at.put_extension-b-requires c).In_default-check_unit in
    omega (arith, room _ _ _ _ _ _ _ r, ap length (extension_of_lem g a.w), c.put_header-a.ensures, header-length a.protocol a.lsc a.lwc)

pub symbol-requires : goal.symbol-requires
symbol-requires c =
    let a = c.args in
    let r = ready (goal.at.symbol-requires c).In_default-check_unit in
    (omega (arith, r.symbol, r.width.0), omega (arith, room _ _ _ _ _ _ _ r, ap length (extension_of_lem c.layout_of-l.ensures a.w), c.put_header-a.ensures, c.put_extension-b.ensures, header-length a.protocol a.lsc a.lwc))

pub returns : goal.returns
unfolding unit_of
returns c =
    let a = c.args in
    let e = passed _ _ _ _ _ _ _ _ c.in_default.ensures c.in_default-check_unit.ensures in
    let u = then_appended (then_appended c.put_header-a.ensures (rw (extension_of_lem c.layout_of-l.ensures a.w) at c.put_extension-b.ensures)) c.symbol.ensures in
    let l = unit_length_lem (code_of a.code) a.w a.protocol a.lsc a.lwc a.symbol.now ∙ sym (room _ _ _ _ _ _ _ (ready (goal.at.returns c).In_default-check_unit)) in
    record { answer = answered-by _ _ e refl tt; output = appended-whole u l ∙ changed_by _ _ e refl _ _ }
