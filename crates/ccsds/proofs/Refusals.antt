-- The laws of refusals: what a condition that does not apply says, and what a call answers and leaves by the number of its refusal.
-- Assumes nothing.
use mathlib.Core.Path.{◌≡◌, refl, sym, ap, ◌∙◌}
use mathlib.Core.Bool.{Bool, true, false, not, cond, ◌||◌, false≢true}
use mathlib.Core.List.{List}
use Prim.Native.Nat.{ℕ, zero, suc, ◌*◌, ◌<◌, ◌≤◌}
use native.Mathlib.Decide.{dec_lt}
use native.Mathlib.Omega.{arith}
use lib.Dec.{eqb, ltb}
use borrow.Author.Tests.{not-false, eq-eqb, ne_eqb, eqb-true, eqb-false, ltb-false, lt-ltb, le-ltb}
use Rattle.ccsds.specs.Tables.{code_of, is_code, Known}
use Rattle.ccsds.specs.Fill.{wrong_fill}
use Rattle.ccsds.specs.RefusalTable.{Refusal}
use Rattle.ccsds.specs.RefusalTable as refusal
use Rattle.ccsds.specs.Refusals.{wrong_code, wrong_width, wrong_label, wrong_length, wrong_position, code_conditions, record_conditions, encoder_conditions, Outcome, refused, answered, ◌⟫◌, refuse_if, outcome, afterwards, bytes_of, information_bytes}
use Rattle.ccsds.proofs.RefusalOrder.{chain, parts_none, first-none}

-- ---- the conditions

pub or_false : (a b : Bool) → a || b ≡ false → (a ≡ false) × (b ≡ false)
or_false true b e = absurd (false≢true (sym e))
or_false false b e = (refl, e)

pub code-known : (number : ℕ) → wrong_code number ≡ false → Known number
unfolding wrong_code
code-known number e = not-false (is_code number) e

pub width-zero : (w : ℕ) → w ≡ 0 → wrong_width w ≡ true
unfolding wrong_width
width-zero w h = ap (λ (b : Bool). b || ltb 1024 w) (eq-eqb w 0 h)

pub width_above : (w : ℕ) → (w ≡ 0 → ⊥) → wrong_width w ≡ ltb 1024 w
unfolding wrong_width
width_above w h = ap (λ (b : Bool). b || ltb 1024 w) (ne_eqb w 0 h)

pub width_right : (w : ℕ) → wrong_width w ≡ false → (0 < w) × (w ≤ 1024)
unfolding wrong_width
width_right w e =
    let p = or_false (eqb w 0) (ltb 1024 w) e in
    (pos (eqb-false w 0 p.0), small (dec_lt 1024 w))
  where
    pos : (w ≡ 0 → ⊥) → 0 < w
    pos h = omega arith

    small : Dec (1024 < w) → w ≤ 1024
    small (yes l) = absurd (false≢true (sym (or_false (eqb w 0) (ltb 1024 w) e).1 ∙ lt-ltb 1024 w l))
    small (no l) = omega arith

pub label_right : (protocol lsc : ℕ) → wrong_label protocol lsc ≡ false → (lsc ≤ 65534) × (protocol ≤ 7)
unfolding wrong_label
label_right protocol lsc e =
    let p = or_false (eqb lsc 0 || ltb 65534 lsc) (ltb 7 protocol) e in
    (ltb-false 65534 lsc (or_false (eqb lsc 0) (ltb 65534 lsc) p.0).1, ltb-false 7 protocol p.1)

pub position_right : (n lwc : ℕ) → wrong_position n lwc ≡ false → (0 < lwc) × (lwc ≤ n)
unfolding wrong_position
position_right n lwc e =
    let p = or_false (eqb lwc 0) (ltb n lwc) e in
    let h : lwc ≡ 0 → ⊥ = eqb-false lwc 0 p.0 in
    (omega arith, ltb-false n lwc p.1)

pub position_is_right : (n lwc : ℕ) → 0 < lwc → lwc ≤ n → wrong_position n lwc ≡ false
unfolding wrong_position
position_is_right n lwc h l = rw (ne_eqb lwc 0 (λ e. omega arith), le-ltb n lwc l)

pub fill_right : (k fill : ℕ) → wrong_fill k fill ≡ false → (0 < fill) × (fill ≤ k)
unfolding wrong_fill
fill_right k fill e =
    let p = or_false (eqb fill 0) (ltb k fill) e in
    let h : fill ≡ 0 → ⊥ = eqb-false fill 0 p.0 in
    (omega arith, ltb-false k fill p.1)

pub fill_is_right : (k fill : ℕ) → 0 < fill → fill ≤ k → wrong_fill k fill ≡ false
unfolding wrong_fill
fill_is_right k fill h l = rw (ne_eqb fill 0 (λ e. omega arith), le-ltb k fill l)

pub length_right : (have size : ℕ) → wrong_length have size ≡ false → have ≡ size
unfolding wrong_length
length_right have size e = eqb-true have size (not-false (eqb have size) e)

pub length-same : (have size : ℕ) → have ≡ size → wrong_length have size ≡ false
unfolding wrong_length
length-same have size e = ap not (eq-eqb have size e)

pub length-wrong : (have size : ℕ) → (have ≡ size → ⊥) → wrong_length have size ≡ true
unfolding wrong_length
length-wrong have size e = ap not (ne_eqb have size e)

pub bytes_right : (symbols w : ℕ) → wrong_width w ≡ false → bytes_of symbols w ≡ symbols * w
unfolding bytes_of
bytes_right symbols w e = ap (λ (b : Bool). cond b 0 (symbols * w)) e

pub bytes-wrong : (symbols w : ℕ) → wrong_width w ≡ true → bytes_of symbols w ≡ 0
unfolding bytes_of
bytes-wrong symbols w e = ap (λ (b : Bool). cond b 0 (symbols * w)) e

pub information_right : (number w fill : ℕ) → wrong_fill (code_of number).k fill ≡ false → information_bytes number w fill ≡ bytes_of fill w
unfolding information_bytes bytes_of
information_right number w fill e = go (wrong_width w)
  where
    go : (b : Bool) → cond (b || wrong_fill (code_of number).k fill) 0 (fill * w) ≡ cond b 0 (fill * w)
    go true = refl
    go false = rw e

pub information-wrong : (number w fill : ℕ) → wrong_fill (code_of number).k fill ≡ true → information_bytes number w fill ≡ 0
unfolding information_bytes
information-wrong number w fill e = go (wrong_width w)
  where
    go : (b : Bool) → cond (b || wrong_fill (code_of number).k fill) 0 (fill * w) ≡ 0
    go true = refl
    go false = rw e

-- ---- where no condition of a part of the table applies

pub code-none : (number w : ℕ) → chain (code_conditions number w) ≡ 0 → (wrong_code number ≡ false) × (wrong_width w ≡ false)
code-none number w z =
    let a = first-none refusal.code (wrong_code number) _ z in
    (a.0, (first-none refusal.width (wrong_width w) _ a.1).0)

pub record_none : (number w protocol lsc fill : ℕ) → chain (record_conditions number w protocol lsc fill) ≡ 0
    → (wrong_code number ≡ false) × (wrong_width w ≡ false) × (wrong_label protocol lsc ≡ false) × (wrong_fill (code_of number).k fill ≡ false)
record_none number w protocol lsc fill z =
    let a = parts_none (code_conditions number w) _ z in
    let c = code-none number w a.0 in
    let l = first-none refusal.label (wrong_label protocol lsc) _ a.1 in
    (c.0, c.1, l.0, (first-none refusal.fill (wrong_fill (code_of number).k fill) _ l.1).0)

pub encoder_none : (number w fill i p : ℕ) → chain (encoder_conditions number w fill i p) ≡ 0
    → (wrong_code number ≡ false) × (wrong_width w ≡ false) × (wrong_fill (code_of number).k fill ≡ false) × (i ≡ fill * w) × (p ≡ (code_of number).m * w)
encoder_none number w fill i p z =
    let a = parts_none (code_conditions number w) _ z in
    let c = code-none number w a.0 in
    let f = first-none refusal.fill (wrong_fill (code_of number).k fill) _ a.1 in
    let l = first-none refusal.length (wrong_length i (fill * w)) _ f.1 in
    let m = first-none refusal.length (wrong_length p ((code_of number).m * w)) _ l.1 in
    (c.0, c.1, f.0, length_right i _ l.0, length_right p _ m.0)

-- ---- by the number r that a check found for the refusal n

module _ (r n : ℕ) (e : r ≡ n) where
  -- it refuses: the answer is that number, and a buffer stays as it was
  module _ (h : r ≡ 0 → ⊥) where
    pub refused-by : {A : Type 0} (a : A) → refused r ≡ outcome n a
    refused-by {A} a = go r h ∙ ap (λ (m : ℕ). outcome m a) e
      where
        go : (m : ℕ) → (m ≡ 0 → ⊥) → refused m ≡ outcome m a
        go zero k = absurd (k refl)
        go (suc m) k = refl

    pub kept_by : (new old : List ℕ) → old ≡ afterwards n new old
    kept_by new old = go r h ∙ ap (λ (m : ℕ). afterwards m new old) e
      where
        go : (m : ℕ) → (m ≡ 0 → ⊥) → old ≡ afterwards m new old
        go zero k = absurd (k refl)
        go (suc m) k = refl

  -- it does not
  module _ (z : r ≡ 0) where
    pub not-refused : n ≡ 0
    not-refused = sym e ∙ z

    pub answered-by : {A : Type 0} (a : A) → answered a ≡ outcome n a
    answered-by a = sym (ap (λ (m : ℕ). outcome m a) not-refused)

    pub changed_by : (new old : List ℕ) → new ≡ afterwards n new old
    changed_by new old = sym (ap (λ (m : ℕ). afterwards m new old) not-refused)

-- ---- what an answer says of the steps before it

pub the_answer : {A : Type 0} {a b : A} → answered a ≡ answered b → a ≡ b
the_answer e = cc

pub never : {A : Type 0} {n : ℕ} {a : A} → refused n ≡ answered a → ⊥
never e = let z : ◌≡◌ {A = ℕ} 0 1 = cc in omega arith

pub of_steps : {A B : Type 0} (r : Outcome A) (f : A → Outcome B) {b : B} → r ⟫ f ≡ answered b → (a : A) × (r ≡ answered a) × (f a ≡ answered b)
of_steps (refused n) f e = absurd (never e)
of_steps (answered a) f e = (a, refl, e)

pub of_test : {A : Type 0} (r : Refusal) (t : Bool) (o : Outcome A) {a : A} → refuse_if r t o ≡ answered a → (t ≡ false) × (o ≡ answered a)
of_test r true o e = absurd (never e)
of_test r false o e = (refl, e)
