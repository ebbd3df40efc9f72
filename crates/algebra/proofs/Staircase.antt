-- Codes with a staircase of parity symbols: each check row in the paper's words, and for each information part just one codeword.
-- Assumes nothing.
use mathlib.Core.Path.{◌≡◌, refl, sym, ap, ap₂, ◌∙◌, subst}
use mathlib.Core.Logic.{◌↔◌}
use mathlib.Core.Bool.{Bool, true, false, xor, ◌||◌, cond}
use mathlib.Core.List.{List, ◌++◌}
use Prim.Native.Nat.{ℕ, zero, suc, ◌+◌, ◌-◌, ◌*◌, ◌/◌, ◌%◌, ◌<◌}
use native.Mathlib.Nat.{add-mul, suc_inj}
use native.Mathlib.Decide.{dec_lt}
use native.Mathlib.Omega.{arith}
use lib.Dec.{eqb, eqb-suc-zero}
use lib.ListN.{length, get_or, take, length-append, get_or-append}
use lib.Seq.{get_or-append-add, get_or-take, take_at}
use lib.Arith.{digits_div, digits_mod, digits_lt}
use borrow.Author.Tests.{eq-eqb, lt-ltb, le-ltb}
use Rattle.algebra.specs.Sums.{◌⊕◌, sum}
use Rattle.algebra.specs.Codeword.{byte_at, row_sum, codeword}
use Rattle.algebra.specs.Staircase.{stair, staircase, before, parity, parity_bytes, OneCodeword}
use Rattle.algebra.proofs.Sums.{comm, unit, unit_l, self, cancel, eq_of_add, sum_ext, sum_tests, sum-none, sum-only, sum-xor, sum_append, odd}
use Rattle.algebra.proofs.Lists.{eqb_iff, length-tab, get_d_tab}
use Rattle.algebra.proofs.Codeword.{slot, ext_byte_at, codeword_iff}

-- ---- a check row

-- parity symbols j and j - 1 are different positions
stair-xor : (j i : ℕ) → stair j i ≡ xor (eqb i j) (eqb (suc i) j)
unfolding stair xor
stair-xor j i = go (eqb i j) (eqb (suc i) j) refl refl
  where
    go : (a b : Bool) → eqb i j ≡ a → eqb (suc i) j ≡ b → a || b ≡ xor a b
    go true true p q = let e : i ≡ j = (eqb_iff i j).0 p in let f : suc i ≡ j = (eqb_iff (suc i) j).0 q in absurd (omega arith)
    go true false p q = refl
    go false true p q = refl
    go false false p q = refl

xor-false : (b : Bool) → xor false b ≡ b
unfolding xor
xor-false true = refl
xor-false false = refl

stair-sum : (j m : ℕ) (p : ℕ → ℕ) → j < m → sum (stair j) p m ≡ p j ⊕ before p j
stair-sum j m p h =
    sum_tests (stair j) (λ i. xor (eqb i j) (eqb (suc i) j)) p m (λ i l. stair-xor j i)
    ∙ sum-xor (λ i. eqb i j) (λ i. eqb (suc i) j) p m
    ∙ ap₂ ◌⊕◌ (sum-only (λ i. eqb i j) p j m h (eq-eqb j j refl) (λ i l t. (eqb_iff i j).0 t)) (prior j h)
  where
    prior : (l : ℕ) → l < m → sum (λ i. eqb (suc i) l) p m ≡ before p l
    prior zero d = sum-none (λ i. eqb (suc i) zero) p m (λ i k. eqb-suc-zero i)
    prior (suc l) d = sum-only (λ i. eqb (suc i) (suc l)) p l m (omega arith) (eq-eqb (suc l) (suc l) refl) (λ i k t. suc_inj ((eqb_iff (suc i) (suc l)).0 t))

module _ (k m : ℕ) (info : ℕ → ℕ → Bool) where
  pub has-info : (j p : ℕ) → p < k → (staircase k m info).has j p ≡ info j p
  unfolding staircase
  has-info j p h = ap (λ (b : Bool). cond b (info j p) (stair j (p - k))) (lt-ltb p k h)

  pub has-parity : (j i : ℕ) → (staircase k m info).has j (k + i) ≡ stair j i
  unfolding staircase
  has-parity j i =
      let e : (k + i) - k ≡ i = omega arith in
      ap (λ (b : Bool). cond b (info j (k + i)) (stair j ((k + i) - k))) (le-ltb (k + i) k (omega arith)) ∙ ap (stair j) e

  -- Check row j in document 01's words: the sum of its information symbols, plus p_j, plus p_(j - 1) where j > 0.
  pub check-row : (w : ℕ) (x : List ℕ) (j b : ℕ) → j < m
      → row_sum (staircase k m info) w x j b ≡ sum (info j) (byte_at w x b) k ⊕ (byte_at w x b (k + j) ⊕ before (λ i. byte_at w x b (k + i)) j)
  unfolding row_sum staircase
  check-row w x j b h =
      let s : ℕ → ℕ = byte_at w x b in
      let has : ℕ → Bool = (staircase k m info).has j in
      sum_append has s k m
      ∙ ap₂ ◌⊕◌ (sum_tests has (info j) s k (λ p l. has-info j p l))
      (sum_tests (λ i. has (k + i)) (stair j) (λ i. s (k + i)) m (λ i l. has-parity j i) ∙ stair-sum j m (λ i. s (k + i)) h)

  -- ---- codewords and parity

  -- the parity symbols depend on the information symbols alone
  pub parity_ext : (x y : ℕ → ℕ) → ((i : ℕ) → i < k → x i ≡ y i) → (j : ℕ) → parity k info x j ≡ parity k info y j
  unfolding parity
  parity_ext x y h zero = sum_ext (info zero) x y k h
  parity_ext x y h (suc j) = ap₂ ◌⊕◌ (parity_ext x y h j) (sum_ext (info (suc j)) x y k h)

  -- p_j is the sum of the information symbols that an odd number of the check rows 0 to j have
  pub parity_odd : (x : ℕ → ℕ) (j : ℕ) → parity k info x j ≡ sum (λ i. odd (suc j) (λ r. info r i)) x k
  unfolding parity odd
  parity_odd x zero = sum_tests (info zero) (λ i. xor false (info zero i)) x k (λ p l. sym (xor-false (info zero p)))
  parity_odd x (suc j) =
      ap (λ (v : ℕ). v ⊕ sum (info (suc j)) x k) (parity_odd x j)
      ∙ sym (sum-xor (λ i. odd (suc j) (λ r. info r i)) (info (suc j)) x k)

  -- all check rows hold just when each parity symbol is the running sum
  module _ (s : ℕ → ℕ) where
    abbrev Rows : Type 0
    Rows = (j : ℕ) → j < m → sum (info j) s k ⊕ (s (k + j) ⊕ before (λ i. s (k + i)) j) ≡ 0

    abbrev Running : Type 0
    Running = (j : ℕ) → j < m → s (k + j) ≡ parity k info s j

    own : Rows → (j : ℕ) → j < m → s (k + j) ≡ before (λ i. s (k + i)) j ⊕ sum (info j) s k
    own r j h =
        let b : ℕ = before (λ i. s (k + i)) j in
        sym (cancel (s (k + j)) b)
        ∙ ap (λ (v : ℕ). v ⊕ b) (sym (eq_of_add (sum (info j) s k) (s (k + j) ⊕ b) (r j h)))
        ∙ comm (sum (info j) s k) b

    running : Rows → Running
    unfolding parity
    running r zero h = own r zero h ∙ unit_l (sum (info zero) s k)
    running r (suc j) h = own r (suc j) h ∙ ap (λ (v : ℕ). v ⊕ sum (info (suc j)) s k) (running r j (omega arith))

    rows : Running → Rows
    unfolding parity
    rows f zero h = ap (◌⊕◌ (sum (info zero) s k)) (unit (s (k + zero)) ∙ f zero h) ∙ self (sum (info zero) s k)
    rows f (suc j) h =
        let q : ℕ = sum (info (suc j)) s k in
        let b : ℕ = parity k info s j in
        ap (◌⊕◌ q) (ap₂ ◌⊕◌ (f (suc j) h) (f j (omega arith)) ∙ ap (λ (v : ℕ). v ⊕ b) (comm b q) ∙ cancel q b) ∙ self q

  pub codeword-parity : (w : ℕ) (x : List ℕ)
      → (codeword (staircase k m info) w x ≡ true) ↔ ((b : ℕ) → b < w → (j : ℕ) → j < m → byte_at w x b (k + j) ≡ parity k info (byte_at w x b) j)
  unfolding staircase
  codeword-parity w x = (
    λ e b l. running (byte_at w x b) (λ j h. sym (check-row w x j b h) ∙ (codeword_iff (staircase k m info) w x).0 e j h b l),
    λ f. (codeword_iff (staircase k m info) w x).1 (λ j h b l. check-row w x j b h ∙ rows (byte_at w x b) (f b l) j h),
  )

  -- ---- for each information part there is just one codeword

  module _ (w : ℕ) (u : List ℕ) (size : length u ≡ k * w) where
    -- the word that the encoder makes
    abbrev word : List ℕ
    word = u ++ parity_bytes k m info w u

    parity-length : length (parity_bytes k m info w u) ≡ m * w
    unfolding parity_bytes
    parity-length = length-tab (m * w) (λ t. parity k info (byte_at w u (t % w)) (t / w))

    word-length : length word ≡ (k + m) * w
    word-length = omega (arith, length-append u (parity_bytes k m info w u), size, parity-length, add-mul k m w)

    word-info : (b i : ℕ) → b < w → i < k → byte_at w word b i ≡ byte_at w u b i
    word-info b i l h = get_or-append u (parity_bytes k m info w u) 0 (i * w + b) (omega (arith, slot i k w h))

    word-parity : (b j : ℕ) → b < w → j < m → byte_at w word b (k + j) ≡ parity k info (byte_at w word b) j
    unfolding parity_bytes
    word-parity b j l h =
        let f : ℕ → ℕ = λ t. parity k info (byte_at w u (t % w)) (t / w) in
        let e : (k + j) * w + b ≡ length u + (j * w + b) = omega (arith, add-mul k j w) in
        ap (λ (t : ℕ). get_or word t 0) e ∙ get_or-append-add u (parity_bytes k m info w u) (j * w + b) 0
        ∙ get_d_tab (m * w) f 0 (j * w + b) (digits_lt h l)
        ∙ ap₂ (λ (c i : ℕ). parity k info (byte_at w u c) i) (digits_mod j l) (digits_div j l)
        ∙ parity_ext (byte_at w u b) (byte_at w word b) (λ i g. sym (word-info b i l g)) j

    -- the same information part and both codewords: the same bytes
    same_byte : (x : List ℕ) → codeword (staircase k m info) w x ≡ true → take (k * w) x ≡ u → (b i : ℕ) → b < w → i < k + m
        → byte_at w x b i ≡ byte_at w word b i
    same_byte x e t b i l h = go (dec_lt i k)
      where
        front : (p : ℕ) → p < k → byte_at w x b p ≡ byte_at w word b p
        front p g =
            let q : p * w + b < k * w = omega (arith, slot p k w g) in
            sym (get_or-take (k * w) x (p * w + b) 0 q) ∙ ap (λ (y : List ℕ). get_or y (p * w + b) 0) t ∙ sym (word-info b p l g)

        go : Dec (i < k) → byte_at w x b i ≡ byte_at w word b i
        go (yes g) = front i g
        go (no g) =
            let d : k + (i - k) ≡ i = omega arith in
            let hj : i - k < m = omega arith in
            subst (λ (p : ℕ). byte_at w x b p ≡ byte_at w word b p) d
            ((codeword-parity w x).0 e b l (i - k) hj ∙ parity_ext (byte_at w x b) (byte_at w word b) front (i - k) ∙ sym (word-parity b (i - k) l hj))

    pub one-codeword : 0 < w → OneCodeword k m info w u
    one-codeword pos x long = (there, back)
      where
        there : (codeword (staircase k m info) w x ≡ true) × (take (k * w) x ≡ u) → x ≡ word
        there h = ext_byte_at (k + m) w x word pos long word-length (λ i b l g. same_byte x h.0 h.1 b i g l)

        back : x ≡ word → (codeword (staircase k m info) w x ≡ true) × (take (k * w) x ≡ u)
        back e = (
          ap (codeword (staircase k m info) w) e ∙ (codeword-parity w word).1 (λ b l j h. word-parity b j l h),
          ap (take (k * w)) e ∙ take_at u (parity_bytes k m info w u) (k * w) size,
        )
