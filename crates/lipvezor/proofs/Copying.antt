-- Show, copied out: what is known where it is not refused, and what the output then holds.
-- Assumes nothing.
use mathlib.Core.Path.{◌≡◌, refl, ◌∙◌, sym, ap}
use mathlib.Core.List.{List, [], ◌∷◌, ◌++◌, append-nil}
use native.Mathlib.Omega.{arith}
use Prim.Native.Nat.{ℕ, ◌+◌, ◌-◌, ◌≤◌, ◌<◌}
use native.Mathlib.Decide.{dec_lt}
use native.Mathlib.Nat.{zero-add}
use lib.ListN.{length, take, drop, length-drop, drop_of_length-le}
use lib.Seq.{paste, take-length, length-take-le}
use denote.Ref.{Bor}
use Rattle.ccsds.specs.Codes.{n_of}
use Rattle.ccsds.specs.Tables.{code_of}
use Rattle.ccsds.specs.RefusalTable as refusal
use Rattle.ccsds.specs.Fill.{idle_lwc}
use Rattle.ccsds.specs.Refusals.{Conditions, encoder_conditions, wrong_length, wrong_position}
use Rattle.sending.specs.Show.{Slice, show_refusal, show_of}
use Rattle.ccsds.proofs.RefusalOrder.{in_order, parts_none, part-passed, first-none}
use Rattle.ccsds.proofs.Refusals.{length_right}
use Rattle.sending.proofs.ShowLaws.{Showable, showable, in_information, in_parity, shows-information, shows-parity}
use Rattle.lipvezor.specs.Sending.{copy_refusal}

-- show is not refused, and the output has W bytes
pub copyable : (number w fill info_len parity_len lwc out_len : ℕ) → copy_refusal number w fill info_len parity_len lwc out_len ≡ 0
    → (show_refusal number w fill info_len parity_len lwc ≡ 0) × (out_len ≡ w)
unfolding copy_refusal show_refusal
copyable number w fill info_len parity_len lwc out_len e =
    let cs = encoder_conditions number w fill info_len parity_len in
    let at : Conditions = (refusal.position, wrong_position (n_of (code_of number)) lwc) ∷ (refusal.idle, idle_lwc (code_of number).k fill lwc) ∷ [] in
    let a = parts_none cs ((refusal.length, wrong_length out_len w) ∷ at) (sym (in_order _ refl) ∙ e) in
    let b = first-none refusal.length _ at a.1 in
    (part-passed cs at refl refl 0 (sym (in_order cs refl ∙ a.0)) refl ∙ b.1, length_right _ _ b.0)

-- what is shown has W bytes
module _ (number w fill : ℕ) (info parity : Bor (List ℕ)) (lwc : ℕ) (z : show_refusal number w fill (length info.now) (length parity.now) lwc ≡ 0) where
  part : (l : List ℕ) (a : ℕ) → a + w ≤ length l → length (take w (drop a l)) ≡ w
  part l a h = length-take-le w (drop a l) (rw length-drop (omega arith))

  pub shown_length : length (show_of number w fill info parity lwc).bytes ≡ w
  shown_length = go (dec_lt (lwc - 1) (code_of number).k)
    where
      s : Showable number w fill (length info.now) (length parity.now) lwc
      s = showable number w fill (length info.now) (length parity.now) lwc z

      go : Dec (lwc - 1 < (code_of number).k) → length (show_of number w fill info parity lwc).bytes ≡ w
      go (yes h) = ap (λ (x : Slice). length x.bytes) (shows-information number w fill info parity lwc z h) ∙ part info.now _ (in_information s h)
      go (no h) =
          let l : (code_of number).k ≤ lwc - 1 = omega arith in
          ap (λ (x : Slice). length x.bytes) (shows-parity number w fill info parity lwc z l) ∙ part parity.now _ (in_parity s l)

-- an output of the part's length holds the part
pub copied : (out x shown : List ℕ) → length out ≡ length shown → x ≡ paste out 0 shown (length shown) → x ≡ shown
copied out x shown h q =
    let n : length out ≤ length shown = omega arith in
    q ∙ ap (λ (k : ℕ). take (length shown) shown ++ drop k out) (zero-add (length shown)) ∙ rw (take-length shown, drop_of_length-le out n, append-nil)
