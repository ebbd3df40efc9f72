-- What specs/UnitClaims.antt claims of units that are written, read and sent.
-- Assumes nothing.
use mathlib.Core.Path.{◌≡◌, ◌∙◌, sym, ap, refl}
use mathlib.Core.Bool.{Bool, true, false}
use mathlib.Core.List.{List, [], ◌∷◌, ◌++◌, append_assoc, append-nil}
use mathlib.Core.Option.{some}
use Prim.Native.Nat.{ℕ, ◌+◌, ◌-◌, ◌*◌, ◌/◌, ◌%◌, ◌≤◌, ◌<◌}
use native.Mathlib.Nat.{add-mul, add-sub_cancel_left, add-mul-div_right, add-mul-mod_self_right}
use native.Mathlib.Decide.{dec_lt}
use native.Mathlib.Omega.{arith}
use lib.Dec.{lit<}
use lib.ListN.{length, get_or, take, drop, replicate, length-append, length-drop}
use lib.Seq.{length-take-le, take-append-le, drop-append-le, drop-append-add, take_at, drop_at, get_or_at}
use denote.Ref.{Bor}
use borrow.Author.Tests.{eq-eqb, le-ltb}
use Rattle.algebra.specs.Staircase.{parity_bytes}
use Rattle.algebra.proofs.Lists.{length-tab}
use Rattle.algebra.proofs.Codeword.{slot}
use Rattle.ccsds.specs.Codes.{Params, n_of, encode_of}
use Rattle.ccsds.specs.Tables.{code_of}
use Rattle.ccsds.specs.Fill.{is_idle, wrong_fill, idle_lwc, padded}
use Rattle.ccsds.specs.Refusals.{first_of, first_in, applies, wrong_code, wrong_width, wrong_label, wrong_position, answered}
use Rattle.wire.specs.Sdnv.{finished, number_at, sdnv_bytes}
use Rattle.wire.specs.Bytes.{part}
use Rattle.unit_reader.specs.Reader.{length_at, coding_of, value_of, wrong_type, extension_at, extensions_of, wrong_header, read_unit}
use Rattle.unit_claims.specs.UnitClaims.{lwc_of, parts_of, ReadsAs, RoundTrip, SendsCodeword, IdleNotSent, SendsFull}
use Rattle.ccsds.specs.Units.{header_of, value_bytes, extension_of, unit_of, symbol_start, unit_bytes}
use Rattle.sending.specs.Writer.{write_refusal}
use Rattle.sending.specs.Show.{Slice, show_refusal, show_of}
use Rattle.algebra.specs.Codeword.{symbol_at}
use Rattle.ccsds.proofs.Valid.{few_of, valid_of}
use Rattle.ccsds.proofs.Refusals.{code-known, length-same, position_is_right, fill_right, fill_is_right}
use Rattle.ccsds.proofs.FillLaws.{idle-not-below, idle-not_above, idle_range, sent_below, padded-length}
use Rattle.wire.proofs.SdnvRound.{reads_back}
use Rattle.unit_reader.proofs.ReaderLaws.{from-value}
use Rattle.ccsds.proofs.UnitLaws.{value-most, extension-length, unit_length_lem, unit_right}
use Rattle.sending.proofs.Writable.{writable}
use Rattle.sending.proofs.ShowLaws.{showable, shows-none, shows-information, shows-parity}

-- a number that stands at a position
there : (v : ℕ) → v < 4294967296 → (s before after : List ℕ) (at : ℕ) → s ≡ before ++ (sdnv_bytes v ++ after) → length before ≡ at
    → number_at s at ≡ finished (record { value = v; end = at + length (sdnv_bytes v) })
there v h s before after at q l = rw (q, ← l, reads_back v h before after)

-- the four numbers of a value
value-reads : (w k n : ℕ) → w < 4294967296 → k < 4294967296 → n < 4294967296
    → coding_of (value_bytes w k n) ≡ answered (record { w = w; k = k; n = n; seed = 0 })
unfolding coding_of value_bytes
value-reads w k n hw hk hn =
    let v = value_bytes w k n in
    let sw = sdnv_bytes w in
    let sk = sdnv_bytes k in
    let sn = sdnv_bytes n in
    let s0 = sdnv_bytes 0 in
    let a = 0 + length sw in
    let b = a + length sk in
    let c = b + length sn in
    let e1 : number_at v 0 ≡ finished (record { value = w; end = a }) = there w hw v [] (sk ++ sn ++ s0) 0 (simp append_assoc) refl in
    let e2 : number_at v a ≡ finished (record { value = k; end = b }) = there k hk v sw (sn ++ s0) a (simp append_assoc) (omega arith) in
    let e3 : number_at v b ≡ finished (record { value = n; end = c }) = there n hn v (sw ++ sk) s0 b (simp append_assoc) (simp length-append (omega arith)) in
    let e4 : number_at v c ≡ finished (record { value = 0; end = c + length s0 }) = there 0 (omega arith) v (sw ++ sk ++ sn) [] c (simp (append_assoc, append-nil)) (simp length-append (omega arith)) in
    let l : c + length s0 ≡ length v = simp length-append (omega arith) in
    rw (e1, e2, e3, e4, eq-eqb _ _ l)

-- the extension that stands at a position
extension-reads : (w k n : ℕ) → w < 4294967296 → k < 4294967296 → n < 4294967296
    → (s before after : List ℕ) (at : ℕ) → s ≡ before ++ (extension_of w k n ++ after) → length before ≡ at
    → extension_at s false at ≡ answered (record { coding = some (record { w = w; k = k; n = n; seed = 0 }); end = at + length (extension_of w k n) })
unfolding extension_of value_of wrong_type length_at
extension-reads w k n hw hk hn s before after at q l =
    let v = value_bytes w k n in
    let z = length v in
    let sz = sdnv_bytes z in
    let e = at + 1 + length sz in
    let front = before ++ (1 ∷ []) ++ sz in
    let t : get_or s at 0 ≡ 1 = rw q (get_or_at before 1 (sz ++ v ++ after) 0 at l) in
    let m : number_at s (at + 1) ≡ finished (record { value = z; end = e }) =
    there z (omega (arith, value-most w k n)) s (before ++ (1 ∷ [])) (v ++ after) (at + 1) (q ∙ simp append_assoc) (simp length-append (omega arith)) in
    let q2 : s ≡ front ++ (v ++ after) = q ∙ simp append_assoc in
    let lf : length front ≡ e = simp length-append (omega arith) in
    let ls : length s ≡ e + (z + length after) = rw q2 (simp length-append (omega (arith, lf))) in
    let d : part s e (e + z) ≡ v = rw (q2, add-sub_cancel_left, drop_at front (v ++ after) e lf, take_at v after z refl) in
    let x : e + z ≡ at + length (extension_of w k n) = omega (arith, extension-length w k n) in
    let i : e + z ≤ length s = omega arith in
    let y : wrong_type false (get_or s at 0) ≡ false = rw t in
    let ln : length_at s (at + 1) ≡ answered (record { value = z; end = e }) = rw (m, le-ltb (length s) (e + z) i) in
    from-value s false at (omega arith) y ln
    ∙ rw (t, d, value-reads w k n hw hk hn, x)

-- the unit, of any code's numbers that an SDNV can hold
pub unit_reads : (c : Params) (w protocol lsc lwc : ℕ) (symbol : List ℕ) → w < 4294967296 → n_of c < 4294967296 → protocol ≤ 7
    → ReadsAs (unit_of c w protocol lsc lwc symbol) (parts_of c w protocol lsc lwc) symbol
unfolding unit_of read_unit wrong_header header_of extensions_of
unit_reads c w protocol lsc lwc symbol hw hn hp =
    let e = extension_of w c.k (n_of c) in
    let h = header_of protocol lsc lwc in
    let u = h ++ e ++ symbol in
    let x = extension-reads w c.k (n_of c) hw (omega arith) hn u h symbol 6 (append_assoc h e symbol) refl in
    let l : 6 ≤ length u = omega (arith, unit_length_lem c w protocol lsc lwc symbol) in
    let version : (16 + protocol * 2) / 16 ≡ 1 = omega arith in
    let reserved : (16 + protocol * 2) % 2 ≡ 0 = add-mul-mod_self_right 16 protocol 2 in
    let half : (16 + protocol * 2) / 2 ≡ 8 + protocol = add-mul-div_right 16 protocol (lit< tt) in
    let p : (16 + protocol * 2) / 2 % 8 ≡ protocol = rw half (omega arith) in
    let a : lwc / 256 * 256 + lwc % 256 ≡ lwc = omega arith in
    let b : lsc / 256 * 256 + lsc % 256 ≡ lsc = omega arith in
    record {
      read = rw (le-ltb _ _ l, version, reserved, x, p, a, b);
      rest = drop_at (h ++ e) symbol (symbol_start c w) (length-append h e);
    }

pub round_trip : RoundTrip
round_trip number w protocol lsc fill lwc symbol outs z =
    let r = writable number w protocol lsc fill lwc (length symbol) outs z in
    unit_reads (code_of number) w protocol lsc lwc symbol (omega (arith, r.width)) (omega (arith, few_of number)) r.label.1

-- ---- sending

-- the symbol at a position of two buffers, one after the other
module _ (k w : ℕ) (first rest : List ℕ) (size : length first ≡ k * w) where
  in_first : (i : ℕ) → i < k → symbol_at w (first ++ rest) i ≡ take w (drop (i * w) first)
  in_first i h =
      let l : i * w ≤ length first = omega (arith, slot i k w h) in
      let d : w ≤ length (drop (i * w) first) = rw length-drop (omega (arith, slot i k w h)) in
      rw (drop-append-le (i * w) first rest l, take-append-le w (drop (i * w) first) rest d)

  in_second : (i : ℕ) → k ≤ i → symbol_at w (first ++ rest) i ≡ take w (drop ((i - k) * w) rest)
  in_second i h =
      let n : i * w ≡ length first + (i - k) * w = ap (λ (j : ℕ). j * w) (split i h) ∙ add-mul k (i - k) w ∙ omega arith in
      rw (n, drop-append-add first rest ((i - k) * w))
    where
      split : (i : ℕ) → k ≤ i → i ≡ k + (i - k)
      split i h = omega arith

  symbol-length : (m i : ℕ) → length rest ≡ m * w → i < k + m → length (symbol_at w (first ++ rest) i) ≡ w
  symbol-length m i l h =
      length-take-le w (drop (i * w) (first ++ rest))
      (simp (length-drop, length-append) (omega (arith, slot i (k + m) w h, add-mul k m w)))

-- an information symbol that is sent
in_sent : (k w fill : ℕ) (u rest : List ℕ) → length u ≡ fill * w → (i : ℕ) → i < fill → symbol_at w (padded k w fill u ++ rest) i ≡ take w (drop (i * w) u)
unfolding padded
in_sent k w fill u rest l i h =
    ap (λ (x : List ℕ). symbol_at w x i) (append_assoc u (replicate ((k - fill) * w) 0) rest) ∙ in_first fill w u _ l i h

encoded_length : (c : Params) (w : ℕ) (u : List ℕ) → length (encode_of c w u) ≡ c.m * w
unfolding parity_bytes
encoded_length c w u = length-tab (c.m * w) _

back : (position : ℕ) → lwc_of position - 1 ≡ position
back position = omega arith

idle_of : (k fill position : ℕ) {b : Bool} → is_idle k fill position ≡ b → idle_lwc k fill (lwc_of position) ≡ b
unfolding idle_lwc
idle_of k fill position e = ap (is_idle k fill) (back position) ∙ e

-- a code, a width and a fill that are not refused, and a position
module _ (number w fill position : ℕ) (code : wrong_code number ≡ false) (width : wrong_width w ≡ false) (fills : wrong_fill (code_of number).k fill ≡ false)
    (below : position < n_of (code_of number)) where
  right : wrong_position (n_of (code_of number)) (lwc_of position) ≡ false
  right = position_is_right (n_of (code_of number)) (lwc_of position) (omega arith) (omega arith)

  -- it is idle: write refuses it
  write_refuses : (protocol lsc symbol_len : ℕ) → wrong_label protocol lsc ≡ false → is_idle (code_of number).k fill position ≡ true
      → write_refusal number w protocol lsc fill (lwc_of position) symbol_len (unit_bytes number w) ≡ 14
  unfolding write_refusal first_of first_in applies
  write_refuses protocol lsc symbol_len label idle =
      rw (code, width, label, fills, length-same _ _ (unit_right number w code width), right, idle_of (code_of number).k fill position idle)

  -- it is not: its symbol is shown, and can be written
  module _ (sent : is_idle (code_of number).k fill position ≡ false) where
    show_admits : (info_len parity_len : ℕ) → info_len ≡ fill * w → parity_len ≡ (code_of number).m * w
        → show_refusal number w fill info_len parity_len (lwc_of position) ≡ 0
    unfolding show_refusal first_of first_in applies
    show_admits info_len parity_len hi hp =
        rw (code, width, fills, length-same info_len _ hi, length-same parity_len _ hp, right, idle_of (code_of number).k fill position sent)

    write_admits : (protocol lsc symbol_len : ℕ) → wrong_label protocol lsc ≡ false → symbol_len ≡ w
        → write_refusal number w protocol lsc fill (lwc_of position) symbol_len (unit_bytes number w) ≡ 0
    unfolding write_refusal first_of first_in applies
    write_admits protocol lsc symbol_len label h =
        rw (code, width, label, fills, length-same _ _ (unit_right number w code width), right, idle_of (code_of number).k fill position sent, length-same symbol_len w h)

    shown_is : (info parity : Bor (List ℕ)) → length info.now ≡ fill * w → length parity.now ≡ (code_of number).m * w
        → (show_of number w fill info parity (lwc_of position)).bytes ≡ symbol_at w (padded (code_of number).k w fill info.now ++ parity.now) position
    shown_is info parity hi hp = go (dec_lt position k)
      where
        k : ℕ
        k = (code_of number).k

        zero : show_refusal number w fill (length info.now) (length parity.now) (lwc_of position) ≡ 0
        zero = show_admits _ _ hi hp

        go : Dec (position < k) → (show_of number w fill info parity (lwc_of position)).bytes ≡ symbol_at w (padded k w fill info.now ++ parity.now) position
        go (yes h) =
            let l : lwc_of position - 1 < k = rw (back position) h in
            let f : position < fill = sent_below k fill position sent h in
            ap (λ (s : Slice). s.bytes) (shows-information number w fill info parity (lwc_of position) zero l)
            ∙ rw (back position) (sym (in_sent k w fill info.now parity.now hi position f))
        go (no h) =
            let l : k ≤ position = omega arith in
            ap (λ (s : Slice). s.bytes) (shows-parity number w fill info parity (lwc_of position) zero (rw (back position) l))
            ∙ rw (back position)
            (sym (in_second k w (padded k w fill info.now) parity.now (padded-length k w fill info.now (fill_right k fill fills).1 hi) position l))

pub sends_codeword : SendsCodeword
sends_codeword number w protocol lsc fill position info parity code width label fills below sent size e =
    let c = code_of number in
    let u = padded c.k w fill info.now in
    let shown = (show_of number w fill info parity (lwc_of position)).bytes in
    let p : length parity.now ≡ c.m * w = ap length e ∙ encoded_length c w u in
    let q : length u ≡ c.k * w = padded-length c.k w fill info.now (fill_right c.k fill fills).1 size in
    let s : shown ≡ symbol_at w (u ++ parity.now) position = shown_is number w fill position code width fills below sent info parity size p in
    let l : length shown ≡ w = ap length s ∙ symbol-length c.k w u parity.now q c.m position p below in
    let o = write_admits number w fill position code width fills below sent protocol lsc (length shown) label l in
    let r = round_trip number w protocol lsc fill (lwc_of position) shown (unit_bytes number w) o in
    (o, record { read = r.read; rest = r.rest ∙ s })

pub idle-not_sent : IdleNotSent
idle-not_sent number w protocol lsc fill position info parity symbol_len code width label fills idle =
    let k = (code_of number).k in
    let r = idle_range k fill position idle in
    let h : position < k = r.1 in (
      shows-none number w fill info parity (lwc_of position) (λ z. absurd (omega (arith, (showable number w fill _ _ _ z).sent (rw (back position) h), back position, r.0))),
      write_refuses number w fill position code width fills (omega arith) protocol lsc symbol_len label idle,
    )

-- with fill k
none-idle : (k lwc : ℕ) → idle_lwc k k lwc ≡ false
unfolding idle_lwc
none-idle k lwc = go (dec_lt (lwc - 1) k)
  where
    go : Dec (lwc - 1 < k) → is_idle k k (lwc - 1) ≡ false
    go (yes h) = idle-not-below k k (lwc - 1) h
    go (no h) = idle-not_above k k (lwc - 1) (omega arith)

pub sends_full : SendsFull
unfolding show_refusal write_refusal first_of first_in applies
sends_full number w protocol lsc lwc info_len parity_len symbol_len out_len code =
    let k = (code_of number).k in
    let v = valid_of number (code-known number code) in
    let f : wrong_fill k k ≡ false = fill_is_right k k (omega (arith, v.large_k)) (omega arith) in
    (rw (f, none-idle k lwc), rw (f, none-idle k lwc))
