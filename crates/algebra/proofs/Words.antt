-- What passes a test, and all lists of bytes of one length: what is in these lists, and that nothing is in them twice.
-- Assumes nothing.
use mathlib.Core.Path.{◌≡◌, refl, sym, ap, ◌∙◌, subst}
use mathlib.Core.Logic.{◌↔◌, ◌⊎◌, inl, inr}
use mathlib.Core.Bool.{Bool, true, false, cond, false≢true}
use mathlib.Core.List.Memᴰ
use mathlib.Core.List.{List, [], ◌∷◌, ◌++◌, map, Memᴰ, head-eq_of_cons-eq, tail-eq_of_cons-eq}
use Prim.Native.Nat.{ℕ, zero, suc, ◌<◌}
use native.Mathlib.Nat.{le-suc, le_refl, le_trans, lt_irrefl, not-suc-le-zero, suc_inj, suc-ne-zero}
use native.Mathlib.Decide.{ℕ_discrete}
use native.Mathlib.Omega.{arith}
use lib.Dec.{lit<}
use lib.ListN.{length, get_or}
use Rattle.algebra.specs.Words.{filter, behind, words}

pub mem-filter : {A : Type 0} (f : A → Bool) (a : A) (l : List A) → Memᴰ a (filter f l) ↔ (Memᴰ a l × (f a ≡ true))
unfolding filter
mem-filter f a [] = (λ h. absurd (Memᴰ.not-nil h), λ h. absurd (Memᴰ.not-nil h.0))
mem-filter {A} f a (b ∷ l) =
    (λ h. from (mem-filter f a l).0 (f b) refl h, λ h. to (mem-filter f a l).1 (f b) refl (Memᴰ.cases_cons h.0) h.1)
  where
    from : (Memᴰ a (filter f l) → Memᴰ a l × (f a ≡ true)) → (c : Bool) → f b ≡ c → Memᴰ a (cond c (b ∷ filter f l) (filter f l))
        → Memᴰ a (b ∷ l) × (f a ≡ true)
    from ih true e h = go (Memᴰ.cases_cons h)
      where
        go : (a ≡ b) ⊎ Memᴰ a (filter f l) → Memᴰ a (b ∷ l) × (f a ≡ true)
        go (inl q) = (Memᴰ.head q, ap f q ∙ e)
        go (inr m) = (Memᴰ.tail (ih m).0, (ih m).1)
    from ih false e h = (Memᴰ.tail (ih h).0, (ih h).1)

    to : (Memᴰ a l × (f a ≡ true) → Memᴰ a (filter f l)) → (c : Bool) → f b ≡ c → (a ≡ b) ⊎ Memᴰ a l → f a ≡ true
        → Memᴰ a (cond c (b ∷ filter f l) (filter f l))
    to ih true e (inl q) t = Memᴰ.head q
    to ih true e (inr m) t = Memᴰ.tail (ih (m, t))
    to ih false e (inl q) t = absurd (false≢true (sym e ∙ ap f (sym q) ∙ t))
    to ih false e (inr m) t = ih (m, t)

-- no element stands twice
abbrev pub Once : {A : Type 0} → List A → Type 0
Once [] = Unit {0}
Once (a ∷ l) = (¬ Memᴰ a l) × Once l

pub once_filter : {A : Type 0} (f : A → Bool) (l : List A) → Once l → Once (filter f l)
unfolding filter
once_filter f [] h = tt
once_filter {A} f (b ∷ l) h = go (f b) (once_filter f l h.1)
  where
    go : (c : Bool) → Once (filter f l) → Once (cond c (b ∷ filter f l) (filter f l))
    go true ih = (λ m. h.0 ((mem-filter f b l).0 m).0, ih)
    go false ih = ih

once_append : {A : Type 0} (s t : List A) → Once s → Once t → ((a : A) → Memᴰ a s → Memᴰ a t → ⊥) → Once (s ++ t)
once_append [] t hs ht d = ht
once_append {A} (a ∷ s) t hs ht d =
    (λ m. go (Memᴰ.append_cases s m), once_append s t hs.1 ht (λ b u v. d b (Memᴰ.tail u) v))
  where
    go : Memᴰ a s ⊎ Memᴰ a t → ⊥
    go (inl m) = hs.0 m
    go (inr m) = d a (Memᴰ.head refl) m

-- ---- all lists of n bytes

mem-map : (b : ℕ) (x : List ℕ) (L : List (List ℕ)) → Memᴰ x (map (λ l. b ∷ l) L) → (l : List ℕ) × Memᴰ l L × (x ≡ b ∷ l)
mem-map b x [] h = absurd (Memᴰ.not-nil h)
mem-map b x (l ∷ L) h = go (mem-map b x L) (Memᴰ.cases_cons h)
  where
    go : (Memᴰ x (map (λ l. b ∷ l) L) → (y : List ℕ) × Memᴰ y L × (x ≡ b ∷ y)) → (x ≡ b ∷ l) ⊎ Memᴰ x (map (λ l. b ∷ l) L)
        → (y : List ℕ) × Memᴰ y (l ∷ L) × (x ≡ b ∷ y)
    go ih (inl e) = (l, Memᴰ.head refl, e)
    go ih (inr m) = let r = ih m in (r.0, Memᴰ.tail r.1, r.2)

map-mem : (b : ℕ) (l : List ℕ) (L : List (List ℕ)) → Memᴰ l L → Memᴰ (b ∷ l) (map (λ x. b ∷ x) L)
map-mem b l [] h = absurd (Memᴰ.not-nil h)
map-mem b l (y ∷ L) h = go (map-mem b l L) (Memᴰ.cases_cons h)
  where
    go : (Memᴰ l L → Memᴰ (b ∷ l) (map (λ x. b ∷ x) L)) → (l ≡ y) ⊎ Memᴰ l L → Memᴰ (b ∷ l) ((b ∷ y) ∷ map (λ x. b ∷ x) L)
    go ih (inl e) = Memᴰ.head (ap (λ (z : List ℕ). b ∷ z) e)
    go ih (inr m) = Memᴰ.tail (ih m)

mem-behind : (k : ℕ) (x : List ℕ) (L : List (List ℕ)) → Memᴰ x (behind k L) → (b : ℕ) × (b < k) × ((l : List ℕ) × Memᴰ l L × (x ≡ b ∷ l))
unfolding behind
mem-behind zero x L h = absurd (Memᴰ.not-nil h)
mem-behind (suc k) x L h = go (mem-behind k x L) (Memᴰ.append_cases (behind k L) h)
  where
    go : (Memᴰ x (behind k L) → (b : ℕ) × (b < k) × ((l : List ℕ) × Memᴰ l L × (x ≡ b ∷ l)))
        → Memᴰ x (behind k L) ⊎ Memᴰ x (map (λ l. k ∷ l) L) → (b : ℕ) × (b < suc k) × ((l : List ℕ) × Memᴰ l L × (x ≡ b ∷ l))
    go ih (inl m) = let r = ih m in (r.0, le_trans r.1 (le-suc k), r.2)
    go ih (inr m) = (k, le_refl (suc k), mem-map k x L m)

behind-mem : (k b : ℕ) (l : List ℕ) (L : List (List ℕ)) → b < k → Memᴰ l L → Memᴰ (b ∷ l) (behind k L)
unfolding behind
behind-mem zero b l L h m = absurd (not-suc-le-zero h)
behind-mem (suc k) b l L h m = go (ℕ_discrete b k) (behind-mem k b l L)
  where
    go : Dec (b ≡ k) → (b < k → Memᴰ l L → Memᴰ (b ∷ l) (behind k L)) → Memᴰ (b ∷ l) (behind k L ++ map (λ x. k ∷ x) L)
    go (yes e) ih = Memᴰ.append_right (behind k L) (Memᴰ.cast (ap (λ (z : ℕ). z ∷ l) e) (map-mem k l L m))
    go (no e) ih = Memᴰ.append_left (map (λ x. k ∷ x) L) (ih (omega arith) m)

-- a list is among them just when it has n elements, all of them bytes
pub mem-words : (n : ℕ) (x : List ℕ) → Memᴰ x (words n) ↔ ((length x ≡ n) × ((t : ℕ) → get_or x t 0 < 256))
unfolding words
mem-words zero [] = (λ h. (refl, λ t. lit< tt), λ h. Memᴰ.head refl)
mem-words zero (b ∷ x) = (
  λ h. absurd (suc-ne-zero (length x) (ap length (Memᴰ.eq_of_singleton h))),
  λ h. absurd (suc-ne-zero (length x) h.0),
)
mem-words (suc n) [] = (
  λ h. let r = mem-behind 256 [] (words n) h in absurd (suc-ne-zero (length r.2.0) (sym (ap length r.2.2))),
  λ h. absurd (suc-ne-zero n (sym h.0)),
)
mem-words (suc n) (b ∷ x) = (
  λ h. from (mem-behind 256 (b ∷ x) (words n) h) (mem-words n x).0,
  λ h. behind-mem 256 b x (words n) (h.1 zero) ((mem-words n x).1 (suc_inj h.0, λ t. h.1 (suc t))),
)
  where
    bytes : b < 256 → ((t : ℕ) → get_or x t 0 < 256) → (t : ℕ) → get_or (b ∷ x) t 0 < 256
    bytes hb hx zero = hb
    bytes hb hx (suc t) = hx t

    from : (c : ℕ) × (c < 256) × ((l : List ℕ) × Memᴰ l (words n) × (b ∷ x ≡ c ∷ l))
        → (Memᴰ x (words n) → (length x ≡ n) × ((t : ℕ) → get_or x t 0 < 256)) → (suc (length x) ≡ suc n) × ((t : ℕ) → get_or (b ∷ x) t 0 < 256)
    from r ih =
        let e = ih (Memᴰ.cast (tail-eq_of_cons-eq r.2.2) r.2.1) in
        (ap suc e.0, bytes (subst (λ (z : ℕ). z < 256) (sym (head-eq_of_cons-eq r.2.2)) r.1) e.1)

once_map : (b : ℕ) (L : List (List ℕ)) → Once L → Once (map (λ l. b ∷ l) L)
once_map b [] h = tt
once_map b (l ∷ L) h =
    (λ m. let r = mem-map b (b ∷ l) L m in h.0 (Memᴰ.cast (tail-eq_of_cons-eq r.2) r.1), once_map b L h.1)

once_behind : (k : ℕ) (L : List (List ℕ)) → Once L → Once (behind k L)
unfolding behind
once_behind zero L h = tt
once_behind (suc k) L h = once_append (behind k L) (map (λ l. k ∷ l) L) (once_behind k L h) (once_map k L h) (λ x u v.
    let r = mem-behind k x L u in
    let s = mem-map k x L v in
    lt_irrefl k (subst (λ (z : ℕ). z < k) (head-eq_of_cons-eq (sym r.2.2 ∙ s.2)) r.1))

pub once_words : (n : ℕ) → Once (words n)
unfolding words
once_words zero = (λ m. absurd (Memᴰ.not-nil m), tt)
once_words (suc n) = once_behind 256 (words n) (once_words n)
