-- With fill k the calls are document 01's.
-- Assumes nothing.
use mathlib.Core.Path.{◌≡◌, refl, sym, ap, ap₂, ◌∙◌, fun_ext}
use mathlib.Core.Bool.{Bool, true, false, cond}
use mathlib.Core.List.{List, [], ◌∷◌, ◌++◌, append-nil}
use Prim.Native.Nat.{ℕ, ◌-◌, ◌*◌, ◌<◌}
use native.Mathlib.Nat.{zero-mul}
use native.Mathlib.Decide.{dec_lt}
use native.Mathlib.Omega.{arith}
use lib.Dec.{eqb}
use lib.ListN.{length, get_or, take, drop, replicate, take-append-drop}
use Rattle.algebra.specs.Lists.{tab}
use Rattle.algebra.specs.Agreeing.{agreeing, determined, filled_symbols}
use Rattle.ccsds.specs.Tables.{code_of}
use Rattle.ccsds.specs.Fill.{is_idle, wrong_fill, idle_lwc}
use Rattle.ccsds.specs.RefusalTable as refusal
use Rattle.ccsds.specs.Refusals.{Conditions, applies, first_in, first_of, code_conditions, record_conditions, wrong_code, wrong_label}
use Rattle.ccsds.proofs.Valid.{valid_of}
use Rattle.ccsds.proofs.Refusals.{code-known, fill_is_right}
use Rattle.block.specs.Block.{checks, idle_at, wrong_buffers, block_refusal}
use Rattle.block.specs.Status.{Status, heard, missing, status_by, status_of}
use Rattle.closing.specs.Close.{is_known, known, mark_after}
use Rattle.block.specs.Take.{unit_refusal}
use Rattle.closing.specs.Close.{wrong_work, wrong_marks, sent_marks, idle_cleared, agreeing_words, symbols_after, marks_after, close_refusal}
use Rattle.closing.specs.FullBlock.{heard_by, As01, FullBlock}
use Rattle.block.specs.declared.Block.{Block}
use Rattle.block.proofs.Taking.{sent}
use Rattle.ccsds.proofs.FillLaws.{idle-not-below, idle-not_above}

module _ (b : Block) (e : b.fill ≡ (code_of b.code).k) where
  none-idle : (i : ℕ) → is_idle (code_of b.code).k b.fill i ≡ false
  none-idle i = go (dec_lt i b.fill)
    where
      go : Dec (i < b.fill) → is_idle (code_of b.code).k b.fill i ≡ false
      go (yes h) = idle-not-below (code_of b.code).k b.fill i h
      go (no h) = idle-not_above (code_of b.code).k b.fill i (omega arith)

  by-mark : (marks : List ℕ) (i : ℕ) → status_of b marks i ≡ status_by (get_or marks i 0)
  unfolding idle_at
  by-mark marks i = sent b marks i (none-idle i)

  known-heard : (marks : List ℕ) → known b marks ≡ heard_by marks
  unfolding known
  known-heard marks = fun_ext (λ i. ap is_known (by-mark marks i) ∙ go (eqb (get_or marks i 0) 1))
    where
      go : (t : Bool) → is_known (cond t heard missing) ≡ t
      go true = refl
      go false = refl

  -- nothing is cleared, and all marks are counted
  none_cleared : (symbols : List ℕ) → idle_cleared b symbols ≡ symbols
  unfolding idle_cleared
  none_cleared symbols =
      let z : (code_of b.code).k - b.fill ≡ 0 = omega arith in
      ap (λ (n : ℕ). take (b.fill * b.w) symbols ++ replicate (n * b.w) 0 ++ drop ((code_of b.code).k * b.w) symbols) z
      ∙ ap (λ (n : ℕ). take (b.fill * b.w) symbols ++ replicate n 0 ++ drop ((code_of b.code).k * b.w) symbols) (zero-mul b.w)
      ∙ ap₂ (λ (x : List ℕ) (k : ℕ). x ++ drop (k * b.w) symbols) (append-nil (take (b.fill * b.w) symbols)) (sym e)
      ∙ take-append-drop (b.fill * b.w) symbols

  all_sent : (marks : List ℕ) → sent_marks b marks ≡ marks
  unfolding sent_marks
  all_sent marks = ap (λ (k : ℕ). take b.fill marks ++ drop k marks) (sym e) ∙ take-append-drop b.fill marks

  words_are : (symbols marks : List ℕ) → agreeing_words b symbols marks ≡ agreeing (checks b) b.w (heard_by marks) symbols
  unfolding agreeing_words
  words_are symbols marks = ap₂ (agreeing (checks b) b.w) (known-heard marks) (none_cleared symbols)

  -- 13 does not apply to a code's k
  right : wrong_code b.code ≡ false → wrong_fill (code_of b.code).k b.fill ≡ false
  right c = fill_is_right (code_of b.code).k b.fill (omega (arith, (valid_of b.code (code-known b.code c)).large_k)) (omega arith)

  record_is : (cs : Conditions)
      → first_of (record_conditions b.code b.w b.protocol b.lsc b.fill ++ cs)
      ≡ first_of (code_conditions b.code b.w ++ (refusal.label, wrong_label b.protocol b.lsc) ∷ cs)
  unfolding first_of first_in applies
  record_is cs = go (wrong_code b.code) refl
    where
      go : (t : Bool) → wrong_code b.code ≡ t
          → first_of (record_conditions b.code b.w b.protocol b.lsc b.fill ++ cs)
          ≡ first_of (code_conditions b.code b.w ++ (refusal.label, wrong_label b.protocol b.lsc) ∷ cs)
      go true c = rw c
      go false c = rw (right c)

  as_01 : As01 b
  unfolding block_refusal close_refusal unit_refusal first_of first_in applies idle_lwc symbols_after marks_after
  as_01 = record {
    block_refusal_lem = λ s m. record_is ((refusal.length, wrong_buffers b s m) ∷ []);
    unit_refusal_lem = λ p len. rw (none-idle (p.lwc - 1));
    close_refusal_lem = λ s m words bytes.
        record_is (
        (refusal.length, wrong_buffers b (length s) (length m))
        ∷ (refusal.length, wrong_work b (length words) (length bytes))
        ∷ (refusal.mark, wrong_marks m)
        ∷ []
        );
    status = by-mark;
    agreeing-words = words_are;
    symbols-after = λ s m. ap₂ (filled_symbols (checks b) b.w) (known-heard m) (none_cleared s);
    marks-after = λ s m. ap (tab (checks b).n) (fun_ext (λ i. ap₂ (λ (x : Status) (L : List (List ℕ)). mark_after x (determined b.w L i)) (by-mark m i) (words_are s m)));
    report = λ v m. rw (all_sent m);
  }

pub full_block : FullBlock
full_block b e = as_01 b e
