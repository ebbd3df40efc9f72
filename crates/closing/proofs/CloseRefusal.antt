-- Close's refusals, each decided by its test: those that every call on a block uses come first.
-- Assumes nothing.
use mathlib.Core.Path.{◌≡◌, refl, sym, ap, ap₂, ◌∙◌}
use mathlib.Core.Bool.{Bool, true, false, ◌||◌, cond}
use mathlib.Core.List.{List, [], ◌∷◌}
use Prim.Native.Nat.{ℕ, ◌+◌, ◌*◌, ◌/◌, ◌≤◌}
use native.Mathlib.Omega.{arith}
use lib.ListN.{length}
use Rattle.algebra.specs.Staircase.{staircase}
use Rattle.ccsds.specs.Codes.{n_of}
use Rattle.ccsds.specs.Tables.{code_of}
use Rattle.ccsds.specs.RefusalTable as refusal
use Rattle.ccsds.specs.Refusals.{wrong_length, bytes_of}
use Rattle.ccsds.proofs.Valid.{few_of}
use Rattle.ccsds.proofs.RefusalOrder.{chain, in_order, part_refuses, part-passed, parts_none, first_is, first_on, first-end, first-none}
use Rattle.ccsds.proofs.Refusals.{or_false, code-known, width_right, fill_right, length_right, length-same, length-wrong, bytes_right}
use Rattle.block.specs.Block.{checks, block_conditions, block_refusal}
use Rattle.closing.specs.Close.{wrong_work, wrong_marks, close_refusal}
use Rattle.closing.specs.inner.Idle.{IdleIn}
use Rattle.closing.specs.inner.Ready.{Ready}
use Rattle.block.specs.declared.Block.{Block}
use Rattle.block.proofs.BlockRefusal.{checks-n, block_right}

module _ (b : Block) (symbols marks words bytes : List ℕ) where
  pub block_refused : (r : ℕ) → r ≡ block_refusal b (length symbols) (length marks) → (r ≡ 0 → ⊥) → r ≡ close_refusal b symbols marks words bytes
  unfolding close_refusal block_refusal
  block_refused r e h = part_refuses (block_conditions b (length symbols) (length marks)) _ refl refl r e h

  -- the record and its own two buffers are right
  module _ (z : block_refusal b (length symbols) (length marks) ≡ 0) where
    on : close_refusal b symbols marks words bytes ≡ chain ((refusal.length, wrong_work b (length words) (length bytes)) ∷ (refusal.mark, wrong_marks marks) ∷ [])
    unfolding close_refusal block_refusal
    on = part-passed (block_conditions b (length symbols) (length marks)) _ refl refl _ refl z

    pub work_decides : wrong_marks marks ≡ false → close_refusal b symbols marks words bytes ≡ cond (wrong_work b (length words) (length bytes)) 4 0
    unfolding chain
    work_decides h = on ∙ rw h

    -- the work buffers, by the lengths that the code computes
    bytes-size : bytes_of (code_of b.code).m b.w ≡ (checks b).m * b.w
    unfolding checks staircase
    bytes-size = bytes_right (code_of b.code).m b.w (block_right b (length symbols) (length marks) z).0.width

    pub words-refused : (length words ≡ (code_of b.code).m * (n_of (code_of b.code) / 64 + 1) → ⊥) → 4 ≡ close_refusal b symbols marks words bytes
    unfolding wrong_work checks staircase
    words-refused h = sym (on ∙ first_is _ _ _ (ap (λ (t : Bool). t || wrong_length (length bytes) ((checks b).m * b.w)) (length-wrong (length words) _ h)))

    module _ (right : length words ≡ (code_of b.code).m * (n_of (code_of b.code) / 64 + 1)) where
      words_right : wrong_length (length words) ((checks b).m * ((checks b).n / 64 + 1)) ≡ false
      unfolding checks staircase
      words_right = length-same (length words) _ right

      pub bytes-refused : (length bytes ≡ bytes_of (code_of b.code).m b.w → ⊥) → 4 ≡ close_refusal b symbols marks words bytes
      unfolding wrong_work
      bytes-refused h = sym (on ∙ first_is _ _ _ (ap₂ ◌||◌ words_right (length-wrong (length bytes) _ (λ e. h (e ∙ sym bytes-size)))))

      module _ (sized : length bytes ≡ bytes_of (code_of b.code).m b.w) where
        work_right : wrong_work b (length words) (length bytes) ≡ false
        unfolding wrong_work
        work_right = ap₂ ◌||◌ words_right (length-same (length bytes) _ (sized ∙ bytes-size))

        pub marks-refused : wrong_marks marks ≡ true → 11 ≡ close_refusal b symbols marks words bytes
        marks-refused h = sym (on ∙ first_on _ _ _ work_right ∙ first_is _ _ _ h)

        pub none-refused : wrong_marks marks ≡ false → 0 ≡ close_refusal b symbols marks words bytes
        none-refused h = sym (on ∙ first_on _ _ _ work_right ∙ first_on _ _ _ h ∙ first-end)

  -- where none applies
  pub ready : close_refusal b symbols marks words bytes ≡ 0 → Ready b (length symbols) (length marks) (length words) (length bytes)
  unfolding close_refusal block_refusal wrong_work
  ready z =
      let a = parts_none (block_conditions b (length symbols) (length marks)) _ (sym (in_order _ refl) ∙ z) in
      let o = block_right b (length symbols) (length marks) (in_order _ refl ∙ a.0) in
      let w = (first-none refusal.length (wrong_work b (length words) (length bytes)) _ a.1).0 in
      let r = or_false (wrong_length (length words) ((checks b).m * ((checks b).n / 64 + 1))) (wrong_length (length bytes) ((checks b).m * b.w)) w in
      record {
        known = code-known b.code o.0.code;
        some = (width_right b.w o.0.width).0;
        fill = (fill_right (code_of b.code).k b.fill o.0.fill).1;
        symbols-size = o.1;
        marks-size = o.2;
        words_size = length_right _ _ r.0;
        bytes-size = length_right _ _ r.1;
      }

  -- and the idle positions are within the block
  pub idle_in : {k : ℕ} → k ≡ (code_of b.code).k → close_refusal b symbols marks words bytes ≡ 0 → IdleIn b k (length marks)
  idle_in e z = record { information = e; fill = omega (arith, (ready z).fill); within = omega (arith, (ready z).marks-size, checks-n b) }

  -- and the marks have room in an array of 3,072
  pub marks-few : close_refusal b symbols marks words bytes ≡ 0 → length marks ≤ 3072
  marks-few z = rw ((ready z).marks-size ∙ checks-n b) (few_of b.code)
