-- Idle positions: where they stand among positions and among bytes, and a part of a list that is set.
-- Assumes nothing.
use mathlib.Core.Path.{◌≡◌, refl, sym, ap, ap₂, ◌∙◌, subst}
use mathlib.Core.Bool.{Bool, true, false, cond}
use mathlib.Core.List.{List, ◌++◌}
use Prim.Native.Nat.{ℕ, ◌+◌, ◌-◌, ◌*◌, ◌≤◌, ◌<◌}
use native.Mathlib.Nat.{mul_comm, mul-sub, mul-le-mul_right}
use native.Mathlib.Decide.{dec_lt}
use native.Mathlib.Omega.{arith}
use lib.ListN.{length, get_or, take, drop, replicate, length-append, length-drop, length-replicate, get_or-replicate, get_or-append}
use borrow.Rule.Slice.PartMut.{put_mid}
use Rattle.std.proofs.Common.{append_assoc}
use lib.Seq.{drop-drop}
use lib.Seq.{length-take-le, get_or-take, get_or-drop, get_or-append-add, ext_get_or}
use Rattle.algebra.specs.Codeword.{byte_at}
use Rattle.algebra.proofs.Codeword.{slot}
use Rattle.ccsds.specs.Tables.{code_of}
use Rattle.ccsds.specs.Fill.{is_idle}
use Rattle.ccsds.proofs.FillLaws.{idle_in, idle-not-below, idle-not_above}
use Rattle.block.specs.Block.{idle_at}
use Rattle.block.specs.Status as status
use Rattle.block.specs.Status.{Status, status_by, status_of}
use Rattle.closing.specs.Close.{idle_cleared}
use Rattle.closing.specs.inner.Idle.{IdleIn, PartSet}
use Rattle.block.specs.declared.Block.{Block}
use Rattle.closing.specs.declared.states.Filled.{Filled}

-- ---- positions

-- the bytes of an idle position
pub idle-byte : (k f i w j : ℕ) → j < w → is_idle (k * w) (f * w) (i * w + j) ≡ is_idle k f i
idle-byte k f i w j h = go (dec_lt i f) (dec_lt i k)
  where
    go : Dec (i < f) → Dec (i < k) → is_idle (k * w) (f * w) (i * w + j) ≡ is_idle k f i
    go (yes a) d = idle-not-below (k * w) (f * w) (i * w + j) (omega (arith, slot i f w a)) ∙ sym (idle-not-below k f i a)
    go (no a) d =
        let b : f ≤ i = omega arith in
        let m : f * w ≤ i * w + j = omega (arith, mul-le-mul_right w b) in
        inside b m d
      where
        inside : f ≤ i → f * w ≤ i * w + j → Dec (i < k) → is_idle (k * w) (f * w) (i * w + j) ≡ is_idle k f i
        inside b m (yes c) = idle_in (k * w) (f * w) (i * w + j) m (omega (arith, slot i k w c)) ∙ sym (idle_in k f i b c)
        inside b m (no c) =
            let u : k ≤ i = omega arith in
            idle-not_above (k * w) (f * w) (i * w + j) (omega (arith, mul-le-mul_right w u)) ∙ sym (idle-not_above k f i u)

-- those of a record with its code's k, of n positions
pub idle : (s : Filled) {n : ℕ} → s.k ≤ n → IdleIn s.block s.k n
idle s h = record { information = s.information; fill = s.fill; within = h }

-- a block's idle positions
pub idle-at : {b : Block} {k n : ℕ} → IdleIn b k n → (i : ℕ) → is_idle k b.fill i ≡ idle_at b i
unfolding idle_at
idle-at {b} I i = ap (λ (m : ℕ). is_idle m b.fill i) I.information

-- each position is done by its mark, and then the idle ones are done as idle: so each is done by its status
pub by-status : {b : Block} {k n : ℕ} → IdleIn b k n → (g : ℕ → Status → ℕ) (v : ℕ) → ((i : ℕ) → v ≡ g i status.idle)
    → (marks : List ℕ) {l l' : List ℕ} → length l ≡ length marks → ((i : ℕ) → i < length marks → get_or l i 0 ≡ g i (status_by (get_or marks i 0)))
    → PartSet b.fill k v l l' → (i : ℕ) → i < length marks → get_or l' i 0 ≡ g i (status_of b marks i)
by-status {b} I g v e marks {l} s h P i r =
    P.each i (omega arith) ∙ ap₂ (λ (t : Bool) (m : ℕ). cond t v m) (idle-at I i) (h i r)
    ∙ ap (λ (u : ℕ). cond (idle_at b i) u (g i (status_by (get_or marks i 0)))) (e i) ∙ go (idle_at b i) (status_by (get_or marks i 0))
  where
    go : (t : Bool) (x : Status) → cond t (g i status.idle) (g i x) ≡ g i (cond t status.idle x)
    go true x = refl
    go false x = refl

-- ---- a part of a list

past : (x y : List ℕ) (n i : ℕ) → length x ≡ n → n ≤ i → get_or (x ++ y) i 0 ≡ get_or y (i - n) 0
past x y n i e h = ap (λ (m : ℕ). get_or (x ++ y) m 0) (omega arith) ∙ get_or-append-add x y (i - n) 0

-- the list with its elements from index f to before k set to v
abbrev pub part_set : List ℕ → ℕ → ℕ → ℕ → List ℕ
part_set l f k v = take f l ++ replicate (k - f) v ++ drop k l

module _ (l : List ℕ) (f k v : ℕ) (h : f ≤ k) (room : k ≤ length l) where
  front : length (take f l) ≡ f
  front = length-take-le f l (omega arith)

  both : length (take f l ++ replicate (k - f) v) ≡ k
  both = length-append (take f l) (replicate (k - f) v) ∙ ap₂ ◌+◌ front (length-replicate (k - f) v) ∙ omega arith

  part_length : length (part_set l f k v) ≡ length l
  part_length = length-append (take f l ++ replicate (k - f) v) (drop k l) ∙ ap₂ ◌+◌ both (length-drop k l) ∙ omega arith

  pub part_at : (i : ℕ) → get_or (part_set l f k v) i 0 ≡ cond (is_idle k f i) v (get_or l i 0)
  part_at i = go (dec_lt i f) (dec_lt i k)
    where
      by : (b : Bool) → is_idle k f i ≡ b → cond b v (get_or l i 0) ≡ cond (is_idle k f i) v (get_or l i 0)
      by b e = ap (λ (t : Bool). cond t v (get_or l i 0)) (sym e)

      go : Dec (i < f) → Dec (i < k) → get_or (part_set l f k v) i 0 ≡ cond (is_idle k f i) v (get_or l i 0)
      go (yes a) d =
          get_or-append (take f l ++ replicate (k - f) v) (drop k l) 0 i (omega (arith, both))
          ∙ get_or-append (take f l) (replicate (k - f) v) 0 i (omega (arith, front)) ∙ get_or-take f l i 0 a ∙ by false (idle-not-below k f i a)
      go (no a) (yes c) =
          get_or-append (take f l ++ replicate (k - f) v) (drop k l) 0 i (omega (arith, both))
          ∙ past (take f l) (replicate (k - f) v) f i front (omega arith) ∙ get_or-replicate (k - f) (i - f) v 0 (omega arith)
          ∙ by true (idle_in k f i (omega arith) c)
      go (no a) (no c) =
          past (take f l ++ replicate (k - f) v) (drop k l) k i both (omega arith) ∙ get_or-drop k l (i - k) 0
          ∙ ap (λ (n : ℕ). get_or l n 0) (omega arith) ∙ by false (idle-not_above k f i (omega arith))

  pub part_is : PartSet f k v l (part_set l f k v)
  part_is = record { size = part_length; each = λ i q. part_at i }

  -- as the code sets it
  pub put_is : {y : List ℕ} → y ≡ replicate (k - f) v → PartSet f k v l (put_mid f (k - f) l y)
  put_is {y} e =
      subst (PartSet f k v l)
      (sym (ap (put_mid f (k - f) l) e ∙ ap (λ (t : List ℕ). take f l ++ (replicate (k - f) v ++ t)) (drop-drop (k - f) f l ∙ ap (λ (n : ℕ). drop n l) (omega arith)) ∙ sym (append_assoc (take f l) (replicate (k - f) v) (drop k l))))
      part_is

  pub set_is : {l' : List ℕ} → PartSet f k v l l' → l' ≡ part_set l f k v
  set_is {l'} P =
      ext_get_or 0 l' (part_set l f k v) (P.size ∙ sym part_length) (λ i q.
      P.each i (subst (λ (n : ℕ). i < n) P.size q) ∙ sym (part_at i))

-- ---- the symbols with the idle ones cleared

sub_mul : (k f w : ℕ) → (k - f) * w ≡ k * w - f * w
sub_mul k f w = mul_comm (k - f) w ∙ mul-sub w k f ∙ ap₂ ◌-◌ (mul_comm w k) (mul_comm w f)

module _ (b : Block) (s : List ℕ) where
  cleared_part : idle_cleared b s ≡ part_set s (b.fill * b.w) ((code_of b.code).k * b.w) 0
  unfolding idle_cleared
  cleared_part =
      ap (λ (n : ℕ). take (b.fill * b.w) s ++ replicate n 0 ++ drop ((code_of b.code).k * b.w) s) (sub_mul (code_of b.code).k b.fill b.w)

  module _ (h : b.fill ≤ (code_of b.code).k) (room : (code_of b.code).k * b.w ≤ length s) where
    pub cleared_byte : (i j : ℕ) → j < b.w → byte_at b.w (idle_cleared b s) j i ≡ cond (idle_at b i) 0 (byte_at b.w s j i)
    unfolding idle_at
    cleared_byte i j l =
        ap (λ (x : List ℕ). byte_at b.w x j i) cleared_part
        ∙ part_at s (b.fill * b.w) ((code_of b.code).k * b.w) 0 (mul-le-mul_right b.w h) room (i * b.w + j)
        ∙ ap (λ (t : Bool). cond t 0 (byte_at b.w s j i)) (idle-byte (code_of b.code).k b.fill i b.w j l)

    pub cleared_is : {k n : ℕ} {s' : List ℕ} → IdleIn b k n → PartSet (b.fill * b.w) (k * b.w) 0 s s' → s' ≡ idle_cleared b s
    cleared_is {s' = s'} I P =
        set_is s (b.fill * b.w) ((code_of b.code).k * b.w) 0 (mul-le-mul_right b.w h) room
        (subst (λ (m : ℕ). PartSet (b.fill * b.w) (m * b.w) 0 s s') I.information P)
        ∙ sym cleared_part
