-- The pivots that reduced rows have, put in one row after the other.
-- Assumes nothing.
use mathlib.Core.Path.{◌≡◌, sym, ap, ◌∙◌}
use mathlib.Core.Logic.{◌≢◌, ◌⊎◌, inl, inr, ⊎_elim}
use mathlib.Core.List.{List}
use Prim.Native.Nat.{ℕ, ◌+◌, ◌-◌, ◌*◌, ◌<◌, ◌≤◌}
use native.Mathlib.Nat.{eq-or-lt_of_le}
use native.Mathlib.Omega.{arith}
use lib.ListN.{length, get_or, set}
use lib.Seq.{get_or-set_same, get_or-set_other}
use Rattle.algebra.specs.Codeword.{Checks, byte_at}
use Rattle.algebra.proofs.Codeword.{slot}
use Rattle.buffers.specs.Parts.{put}
use Rattle.buffers.proofs.Put.{put-length, put_in, put_out}
use Rattle.elimination.specs.Reduced.{pivot_word}
use Rattle.elimination.proofs.Order.{eq_or_ne}
use Rattle.elimination.proofs.ColumnLaws.{rows_apart}
use Rattle.peeling.specs.Plan.{Arrays, kind_of, pivot_of, Plan, Unsolved}
use Rattle.pivot_equations.specs.declared.rows.Rows.{Rows}
use Rattle.decoder.specs.Pivots.{Solved, Free, KindsOnly, Put, PutOne}

kinds_more : {plan plan' plan'' : Arrays} → KindsOnly plan plan' → KindsOnly plan' plan'' → KindsOnly plan plan''
kinds_more a b = record { pivots = b.pivots ∙ a.pivots; steps = b.steps ∙ a.steps; used = b.used ∙ a.used }

module _ (c : Checks) (w : ℕ) (r : Rows) (states l d : List ℕ) (plan : Arrays) (symbols : List ℕ) (P : Plan c states plan r.early r.steps r.pivots) (U : Unsolved plan r.pivots)
    (size : length symbols ≡ c.n * w) (i : ℕ) (plan' : Arrays) (symbols' : List ℕ) (X : Put c w r.packed r.steps i r.pivots l d plan symbols plan' symbols') where
  -- the r.pivots' positions, which are still there
  position : (u : ℕ) → u < r.pivots → pivot_of plan u < c.n
  position u h = (P.pivot u h).position

  kept : (u : ℕ) → u < r.pivots → pivot_of plan' u ≡ pivot_of plan u
  kept u h = ap (λ (l : List ℕ). get_or l u 0) X.same.pivots

  room : (u : ℕ) → u < r.pivots → pivot_of plan u * w + w ≤ length symbols'
  room u h = omega (arith, slot (pivot_of plan u) c.n w (position u h), size, X.symbols-size)

  module _ (plan'' : Arrays) (symbols'' : List ℕ) where
    -- a pivot that row r.steps + i does not have
    carry : (u : ℕ) → pivot_word l r.packed (r.steps + i) ≢ u + 1 → kind_of plan'' (pivot_of plan u) ≡ kind_of plan' (pivot_of plan u)
        → ((b : ℕ) → b < w → byte_at w symbols'' b (pivot_of plan u) ≡ byte_at w symbols' b (pivot_of plan u))
        → Solved w r.packed r.steps i l d plan' symbols' u (pivot_of plan u) ⊎ Free w r.packed r.steps i l plan symbols plan' symbols' u (pivot_of plan u)
        → Solved w r.packed r.steps (i + 1) l d plan'' symbols'' u (pivot_of plan u) ⊎ Free w r.packed r.steps (i + 1) l plan symbols plan'' symbols'' u (pivot_of plan u)
    carry u ne ek eb (inl s) = inl (record {
      row = s.row;
      below = omega (arith, s.below);
      word = s.word;
      kind = ek ∙ s.kind;
      bytes = λ b h. eb b h ∙ s.bytes b h;
    })
    carry u ne ek eb (inr f) = inr (record {
      none = λ row h. ⊎_elim (λ e g. ne (ap (λ (k : ℕ). pivot_word l r.packed (r.steps + k)) (sym e) ∙ g)) (λ lt. f.none row lt) (eq-or-lt_of_le (let g : row ≤ i = omega arith in g));
      kind = ek ∙ f.kind;
      bytes = λ b h. eb b h ∙ f.bytes b h;
    })

    -- row r.steps + i has no pivot
    more-none : pivot_word l r.packed (r.steps + i) ≡ 0 → plan'' ≡ plan' → symbols'' ≡ symbols' → Put c w r.packed r.steps (i + 1) r.pivots l d plan symbols plan'' symbols''
    more-none z ep es = record {
      same = rw ep X.same;
      symbols-size = ap length es ∙ X.symbols-size;
      pivot = λ u h. carry u (λ e. omega arith) (ap (λ (x : Arrays). kind_of x (pivot_of plan u)) ep) (λ b k. ap (λ (x : List ℕ). byte_at w x b (pivot_of plan u)) es) (X.pivot u h);
      others = λ k o. ap (λ (x : Arrays). kind_of x k) ep ∙ X.others k o;
      other_bytes = λ p b o h k. ap (λ (x : List ℕ). byte_at w x b p) es ∙ X.other_bytes p b o h k;
    }

    -- it has pivot u
    module _ (u : ℕ) (h : u < r.pivots) (word : pivot_word l r.packed (r.steps + i) ≡ u + 1) (only : KindsOnly plan' plan'') (ep : plan''.kinds ≡ set plan'.kinds (pivot_of plan u) (4097 + (r.steps + i)))
        (es : symbols'' ≡ put symbols' (pivot_of plan u * w) d (i * w) w) where
      other_kind : (k : ℕ) → k ≢ pivot_of plan u → kind_of plan'' k ≡ kind_of plan' k
      other_kind k ne = ap (λ (x : List ℕ). get_or x k 0) ep ∙ get_or-set_other plan'.kinds (pivot_of plan u) k (4097 + (r.steps + i)) 0 ne

      other_byte : (p b : ℕ) → p ≢ pivot_of plan u → b < w → byte_at w symbols'' b p ≡ byte_at w symbols' b p
      other_byte p b ne k =
          ap (λ (x : List ℕ). byte_at w x b p) es
          ∙ put_out symbols' (pivot_of plan u * w) d (i * w) w (p * w + b) (λ j hj e. rows_apart p (pivot_of plan u) w ne b j k hj e)

      solved : Solved w r.packed r.steps (i + 1) l d plan'' symbols'' u (pivot_of plan u)
      solved = record {
        row = i;
        below = omega arith;
        word = word;
        kind = ap (λ (x : List ℕ). get_or x (pivot_of plan u) 0) ep
            ∙ get_or-set_same plan'.kinds (pivot_of plan u) (4097 + (r.steps + i)) 0 (omega (arith, position u h, P.positions, plan'.kinds_len));
        bytes = λ b k. ap (λ (x : List ℕ). byte_at w x b (pivot_of plan u)) es ∙ put_in symbols' (pivot_of plan u * w) d (i * w) w b k (room u h);
      }

      -- another pivot has another position
      apart : (v : ℕ) → v < r.pivots → v ≢ u → pivot_of plan v ≢ pivot_of plan u
      apart v k ne e = ne (omega (arith, U u h, U v k, ap (kind_of plan) e))

      more-one : Put c w r.packed r.steps (i + 1) r.pivots l d plan symbols plan'' symbols''
      more-one = record {
        same = kinds_more X.same only;
        symbols-size = ap length es ∙ put-length symbols' (pivot_of plan u * w) d (i * w) w ∙ X.symbols-size;
        pivot = λ v k. ⊎_elim
            (λ e. rw e (inl solved))
            (λ ne. carry v (λ e. ne (omega arith)) (other_kind (pivot_of plan v) (apart v k ne)) (λ b q. other_byte (pivot_of plan v) b (apart v k ne) q) (X.pivot v k))
            (eq_or_ne v u);
        others = λ k o. other_kind k (o u h) ∙ X.others k o;
        other_bytes = λ p b o q k. other_byte p b (o u h) k ∙ X.other_bytes p b o q k;
      }

    pub put-more : pivot_word l r.packed (r.steps + i) ≤ r.pivots → PutOne w r i l d plan' symbols' plan'' symbols'' → Put c w r.packed r.steps (i + 1) r.pivots l d plan symbols plan'' symbols''
    put-more within O = ⊎_elim (λ z. more-none z (O.none z).0 (O.none z).1) (λ ne. one (pivot_word l r.packed (r.steps + i) - 1) (omega arith)) (eq_or_ne (pivot_word l r.packed (r.steps + i)) 0)
      where
        one : (u : ℕ) → pivot_word l r.packed (r.steps + i) ≡ u + 1 → Put c w r.packed r.steps (i + 1) r.pivots l d plan symbols plan'' symbols''
        one u e =
            let h : u < r.pivots = omega arith in
            more-one u h e (O.one u e).0 ((O.one u e).1 ∙ ap (λ (p : ℕ). set plan'.kinds p (4097 + (r.steps + i))) (kept u h)) ((O.one u e).2 ∙ ap (λ (p : ℕ). put symbols' (p * w) d (i * w) w) (kept u h))
