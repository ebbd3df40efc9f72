-- The refusals of a unit row by row, what is known of one that is admitted, and the ways of a take.
-- Assumes nothing.
use mathlib.Core.Path.{◌≡◌, refl, sym, ap, ◌∙◌, subst}
use mathlib.Core.Bool.{Bool, true, false, cond, not, ◌&&◌}
use mathlib.Core.List.{List}
use lib.Dec.{eqb}
use Rattle.std.specs.Prelude.{Option, Some}
use Prim.Native.Nat.{ℕ, zero, suc, ◌+◌, ◌-◌, ◌≤◌, ◌<◌}
use native.Mathlib.Omega.{arith}
use lib.ListN.{length, get_or, drop, length-drop}
use Rattle.ccsds.specs.Tables.{code_of}
use Rattle.ccsds.specs.Fill.{idle_lwc}
use Rattle.ccsds.specs.RefusalTable as refusal
use Rattle.ccsds.specs.Refusals.{wrong_length, wrong_position, Outcome, refused, answered, outcome, ◌⟫◌}
use Rattle.unit_reader.specs.Reader.{Parts, read_unit, extension_as}
use Rattle.unit_reader.specs.declared.Parameters.{Parameters}
use Rattle.ccsds.specs.inner.Layout.{LayoutOf}
use Rattle.ccsds.specs.declared.tables.Layout.{Layout}
use Rattle.ccsds.proofs.RefusalOrder.{in_order, first_is, first_on, first-end, first-none}
use Rattle.ccsds.proofs.Refusals.{position_right, length_right, length-same, length-wrong, refused-by, answered-by}
use Rattle.block.specs.Block.{checks, idle_at, block_refusal}
use Rattle.block.specs.Status.{wrong_mark, Status, idle, status_by, status_of}
use Rattle.block.specs.Take.{wrong_parameters, foreign, unit_refusal, AdmittedUnit, admission, TakeResult, Take, unchanged, take_at, take_symbol, take_admitted, take_by, take_of}
use Rattle.block.specs.declared.Block.{Block}
use Rattle.block.proofs.BlockRefusal.{checks_of_lem}

-- ---- the refusals of a unit, row by row

module _ (b : Block) (p : Parts) (len : ℕ) where
  pub parameters-refused : wrong_parameters b p.coding ≡ true → 7 ≡ unit_refusal b p len
  unfolding unit_refusal
  parameters-refused h = sym (in_order _ refl ∙ first_is _ _ _ h)

  module _ (parameters : wrong_parameters b p.coding ≡ false) where
    pub foreign-refused : foreign b p ≡ true → 8 ≡ unit_refusal b p len
    unfolding unit_refusal
    foreign-refused h = sym (in_order _ refl ∙ first_on _ _ _ parameters ∙ first_is _ _ _ h)

    module _ (own : foreign b p ≡ false) where
      pub position-refused : wrong_position (checks b).n p.lwc ≡ true → 9 ≡ unit_refusal b p len
      unfolding unit_refusal
      position-refused h = sym (in_order _ refl ∙ first_on _ _ _ parameters ∙ first_on _ _ _ own ∙ first_is _ _ _ h)

      module _ (inside : wrong_position (checks b).n p.lwc ≡ false) where
        pub idle-refused : idle_lwc (code_of b.code).k b.fill p.lwc ≡ true → 14 ≡ unit_refusal b p len
        unfolding unit_refusal
        idle-refused h = sym (in_order _ refl ∙ first_on _ _ _ parameters ∙ first_on _ _ _ own ∙ first_on _ _ _ inside ∙ first_is _ _ _ h)

        module _ (sent : idle_lwc (code_of b.code).k b.fill p.lwc ≡ false) where
          pub symbol-refused : (len - p.symbol ≡ b.w → ⊥) → 10 ≡ unit_refusal b p len
          unfolding unit_refusal
          symbol-refused h =
              sym (in_order _ refl ∙ first_on _ _ _ parameters ∙ first_on _ _ _ own ∙ first_on _ _ _ inside ∙ first_on _ _ _ sent
              ∙ first_is _ _ _ (length-wrong (len - p.symbol) b.w h))

          pub unit_admitted : len - p.symbol ≡ b.w → 0 ≡ unit_refusal b p len
          unfolding unit_refusal
          unit_admitted h =
              sym (in_order _ refl ∙ first_on _ _ _ parameters ∙ first_on _ _ _ own ∙ first_on _ _ _ inside ∙ first_on _ _ _ sent
              ∙ first_on _ _ _ (length-same (len - p.symbol) b.w h) ∙ first-end)

-- 7 by the code's numbers as they are laid out
pub parameters_by : (b : Block) {l : Layout} → LayoutOf (code_of b.code) l → {x : Option Parameters} {p : Parameters} → x ≡ Some p
    → wrong_parameters b (extension_as x) ≡ not (eqb p.w b.w && eqb p.k l.k && eqb p.n (l.k + l.m) && eqb p.seed 0)
unfolding wrong_parameters
parameters_by b g e = rw (e, checks_of_lem b g, g.k)

-- ---- an admitted unit

-- at a position that is not idle
pub record Inside (b : Block) (x : AdmittedUnit) : Type 0 where
  pub position : x.position < (checks b).n
  pub sent : idle_at b x.position ≡ false
  pub size : length x.symbol ≡ b.w

-- what the rows say of a unit that none of them refuses
pub record Fitting (b : Block) (p : Parts) (len : ℕ) : Type 0 where
  pub above : 0 < p.lwc
  pub most : p.lwc ≤ (checks b).n
  pub sent : idle_at b (p.lwc - 1) ≡ false
  pub symbol : len - p.symbol ≡ b.w

pub fitting : (b : Block) (p : Parts) (len : ℕ) → unit_refusal b p len ≡ 0 → Fitting b p len
unfolding unit_refusal idle_lwc idle_at
fitting b p len z =
    let a1 = first-none refusal.parameters (wrong_parameters b p.coding) _ (sym (in_order _ refl) ∙ z) in
    let a2 = first-none refusal.foreign (foreign b p) _ a1.1 in
    let a3 = first-none refusal.position (wrong_position (checks b).n p.lwc) _ a2.1 in
    let a4 = first-none refusal.idle (idle_lwc (code_of b.code).k b.fill p.lwc) _ a3.1 in
    let a5 = first-none refusal.symbol (wrong_length (len - p.symbol) b.w) _ a4.1 in
    let l = position_right (checks b).n p.lwc a3.0 in
    record { above = l.0; most = l.1; sent = a4.0; symbol = length_right _ _ a5.0 }

unit_right : (b : Block) (p : Parts) (unit : List ℕ) → unit_refusal b p (length unit) ≡ 0
    → Inside b (record { position = p.lwc - 1; symbol = drop (length unit - b.w) unit })
unit_right b p unit z =
    let f : Fitting b p (length unit) = fitting b p (length unit) z in
    record { position = omega arith; sent = f.sent; size = length-drop (length unit - b.w) unit ∙ omega arith }

pub admitted_inside : (b : Block) (unit : List ℕ) (x : AdmittedUnit) → admission b unit ≡ answered x → Inside b x
unfolding admission
admitted_inside b unit x = from (read_unit unit)
  where
    by : (p : Parts) (n : ℕ) → unit_refusal b p (length unit) ≡ n
        → outcome n (record { position = p.lwc - 1; symbol = drop (length unit - b.w) unit }) ≡ answered x → Inside b x
    by p zero e q = subst (Inside b) (cc) (unit_right b p unit e)
    by p (suc n) e q = let z : ◌≡◌ {A = ℕ} 0 1 = cc in absurd (omega arith)

    from : (r : Outcome Parts) → (r ⟫ λ p. outcome (unit_refusal b p (length unit)) (record { position = p.lwc - 1; symbol = drop (length unit - b.w) unit })) ≡ answered x → Inside b x
    from (refused n) q = let z : ◌≡◌ {A = ℕ} 0 1 = cc in absurd (omega arith)
    from (answered p) q = by p (unit_refusal b p (length unit)) refl q

-- admission, by what the reader read and by the refusal of the unit
module _ (b : Block) (unit : List ℕ) where
  pub unread : (n : ℕ) → read_unit unit ≡ refused n → refused n ≡ admission b unit
  unfolding admission
  unread n e = rw e

  pub turned_down : (p : Parts) (r : ℕ) → read_unit unit ≡ answered p → r ≡ unit_refusal b p (length unit) → (r ≡ 0 → ⊥) → refused r ≡ admission b unit
  unfolding admission
  turned_down p r e f h = refused-by r _ f h (record { position = p.lwc - 1; symbol = drop (length unit - b.w) unit }) ∙ sym (rw e)

  pub admitted : (p : Parts) (r : ℕ) → read_unit unit ≡ answered p → r ≡ unit_refusal b p (length unit) → r ≡ 0
      → answered (record { position = p.lwc - 1; symbol = drop (length unit - b.w) unit }) ≡ admission b unit
  unfolding admission
  admitted p r e f h = answered-by r _ f h (record { position = p.lwc - 1; symbol = drop (length unit - b.w) unit }) ∙ sym (rw e)

-- ---- an admitted unit, by the mark at its position

module _ (b : Block) (symbols marks : List ℕ) (x : AdmittedUnit) where
  pub at-wrong : wrong_mark (get_or marks x.position 0) ≡ true → take_symbol b symbols marks x ≡ unchanged b symbols marks (refused 11)
  unfolding take_symbol
  at-wrong h = rw h

  pub at_right : wrong_mark (get_or marks x.position 0) ≡ false → (s : Status) → status_of b marks x.position ≡ s
      → take_symbol b symbols marks x ≡ take_at b symbols marks x s
  unfolding take_symbol
  at_right h s e = rw (h, e)

-- ---- a take, by the refusal of the block and by admission

module _ (b : Block) (symbols marks unit : List ℕ) where
  pub take-refused : (r : ℕ) → r ≡ block_refusal b (length symbols) (length marks) → (r ≡ 0 → ⊥) → take_of b symbols marks unit ≡ unchanged b symbols marks (refused r)
  unfolding take_of
  take-refused r e h = ap (take_by b symbols marks unit) (sym e) ∙ go r h
    where
      go : (n : ℕ) → (n ≡ 0 → ⊥) → take_by b symbols marks unit n ≡ unchanged b symbols marks (refused n)
      go zero k = absurd (k refl)
      go (suc n) k = refl

  pub take_by_lem : (a : Outcome AdmittedUnit) → block_refusal b (length symbols) (length marks) ≡ 0 → admission b unit ≡ a → take_of b symbols marks unit ≡ take_admitted b symbols marks a
  unfolding take_of
  take_by_lem a z e = ap (take_by b symbols marks unit) z ∙ ap (take_admitted b symbols marks) e

-- part by part
pub apart : {o : Take} {a : Outcome TakeResult} {s m : List ℕ} → o ≡ record { answer = a; symbols = s; marks = m } → (a ≡ o.answer) × ((s ≡ o.symbols) × (m ≡ o.marks))
apart e = (sym (ap (λ (o : Take). o.answer) e), (sym (ap (λ (o : Take). o.symbols) e), sym (ap (λ (o : Take). o.marks) e)))

-- a position that is not idle has its status by its mark
pub sent : (b : Block) (marks : List ℕ) (i : ℕ) → idle_at b i ≡ false → status_of b marks i ≡ status_by (get_or marks i 0)
sent b marks i e = ap (λ (t : Bool). cond t idle (status_by (get_or marks i 0))) e
