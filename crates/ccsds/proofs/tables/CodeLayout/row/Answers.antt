-- `ccsds::tables::CodeLayout::row` meets its contract: the array holds the rows one after the other.
-- Assumes nothing.
use Rattle.std.proofs.Common.{◌≡◌, ℕ, zero, suc, ◌+◌, ◌-◌, ◌≤◌, ◌<◌, List, [], length, get_or, take, drop, ap, ◌∙◌, arith}
use Rattle.std.proofs.Math.Nat.{add-sub_cancel_left}
use Rattle.std.proofs.lemmas.List.{get_or-drop, get_or-take, ext_get_or, length-take-le, length-drop}
use Rattle.ccsds.specs.Codes.{Params}
use Rattle.ccsds.specs.inner.Layout.{joined, FrontIs, LayoutOf, max_addresses, start_of}
use Rattle.ccsds.specs.declared.tables.Layout.{Layout}
use Rattle.ccsds.proofs.tables.CodeLayout.row.Goals as goal

-- a part of a list, by its elements
part : (flat row : List ℕ) (at n : ℕ) → n ≡ length row → at + n ≤ length flat
    → ((i : ℕ) → i < length row → get_or flat (at + i) 0 ≡ get_or row i 0) → take (at + n - at) (drop at flat) ≡ row
part flat row at n e room each =
    let size : length (take n (drop at flat)) ≡ n = length-take-le n (drop at flat) (omega (arith, length-drop at flat)) in
    ap (λ (k : ℕ). take k (drop at flat)) (add-sub_cancel_left at n)
    ∙ ext_get_or 0 _ _ (size ∙ e) (λ i h. get_or-take n (drop at flat) i 0 (omega (arith, size)) ∙ get_or-drop at flat i 0 ∙ each i (omega (arith, size)))

module _ (c : Params) (l : Layout) (flat : List ℕ) (g : LayoutOf c l) (f : FrontIs (joined c.rows) flat) (row : ℕ) (h : row < length c.rows) where
  -- a row ends within the array
  ends : (at n : ℕ) → at ≡ start_of l row → at ≤ max_addresses → n ≡ length (get_or c.rows row []) → at + n ≤ max_addresses
  ends at zero s few e = omega arith
  ends at (suc n) s few e = omega (arith, (g.laid row h n (omega arith)).0, s, g.flat)

  there : (at n : ℕ) → at ≡ start_of l row → at ≤ max_addresses → n ≡ length (get_or c.rows row [])
      → take (at + n - at) (drop at flat) ≡ get_or c.rows row []
  there at n s few e =
      part flat _ at n e (omega (arith, ends at n s few e, f.size))
      (λ i q. let at-i = g.laid row h i q in f.each (at + i) (omega (arith, at-i.0, s)) ∙ ap (λ (k : ℕ). get_or (joined c.rows) (k + i) 0) s ∙ at-i.1)

pub slice_bounds-result-end : goal.slice_bounds-result-end
slice_bounds-result-end c =
    ends _ c.args.self.layout c.args.flat.now c.args.self.layout_of c.requires.front _ c.requires.row_in_bounds _ _ c.start-at.ensures.value c.start-at.ensures.room c.degree.ensures

pub returns : goal.returns
returns c =
    there _ c.args.self.layout c.args.flat.now c.args.self.layout_of c.requires.front _ c.requires.row_in_bounds _ _ c.start-at.ensures.value c.start-at.ensures.room c.degree.ensures
