-- A frame written and read again is that frame, and a line that is read as a frame is that frame's line.
use Rattle.std.specs.Prelude.{Option, None, Some}
use mathlib.Core.Bool.{Bool, true, false, cond, ◌&&◌, and-eq-true_iff}
use mathlib.Core.List.{List, [], ◌∷◌}
use mathlib.Core.Path.{◌≡◌, refl, sym, ap, ◌∙◌}
use Prim.Native.Nat.{ℕ, ◌+◌, ◌*◌, ◌%◌, ◌^◌, ◌<◌, ◌≤◌}
use native.Mathlib.Omega.{arith}
use borrow.Author.Tests.{ltb-true, lt-ltb, eqb-true}
use lib.Dec.{eqb}
use lib.ListN.{length, get_or}
use Rattle.calendar.specs.Below.{all_of}
use Rattle.frames.specs.declared.Cron.{Cron}
use Rattle.frames.specs.declared.Rule.{Rule}
use Rattle.hex_lines.proofs.Fields.{hexes, widths, total, valued, all_bytes, length_all, fields_spell, read_and_written, written_and_read}
use Rattle.hex_lines.proofs.Numbers.{number_is_field, number_fits}
use Rattle.hex_lines.specs.Hex.{Field, fits, line_bytes, field}
use Rattle.zone.specs.declared.Transition.{Transition}
use Rattle.plan.specs.Fits.{frame_fields, frame_fits}
use Rattle.plan.specs.Text.{moved, frame_line, moved_up, cron_from, rule_from, change_from, frame_from, bytes_frame, line_frame}
use Rattle.plan.specs.declared.Frame.{Frame}

-- two's complement, there and back
moved_below : (v : ℕ) → moved 2 v < 65536
unfolding moved
moved_below v = omega arith

moved_below_4 : (v : ℕ) → moved 4 v < 4294967296
unfolding moved
moved_below_4 v = omega arith

up_moved : (v : ℕ) → v < 65536 → (moved 2 v + 1440) % 65536 ≡ v
unfolding moved
up_moved v h = omega arith

up_moved_4 : (v : ℕ) → v < 4294967296 → (moved 4 v + 1440) % 4294967296 ≡ v
unfolding moved
up_moved_4 v h = omega arith

moved_up_lem : (v : ℕ) → v < 65536 → moved 2 ((v + 1440) % 65536) ≡ v
unfolding moved
moved_up_lem v h = omega arith

moved_up_4 : (v : ℕ) → v < 4294967296 → moved 4 ((v + 1440) % 4294967296) ≡ v
unfolding moved
moved_up_4 v h = omega arith

-- the fields of a frame's line
abbrev pub line_fields : Frame → List Field
line_fields (Frame.Offset o) = (1, 1) ∷ (2, moved 2 o) ∷ []
line_fields (Frame.Change t) = (1, 2) ∷ (4, moved 4 t.at) ∷ (2, moved 2 t.offset) ∷ []
line_fields (Frame.Cron f) = (1, 3) ∷ frame_fields (Frame.Cron f)
line_fields (Frame.Rule f) = (1, 4) ∷ frame_fields (Frame.Rule f)
line_fields (Frame.Extra m) = (1, 5) ∷ frame_fields (Frame.Extra m)
line_fields (Frame.Excepted m) = (1, 6) ∷ frame_fields (Frame.Excepted m)
line_fields (Frame.End n) = (1, 255) ∷ frame_fields (Frame.End n)

line_fields_lem : (f : Frame) → frame_line f ≡ hexes (line_fields f)
unfolding frame_line frame_fields
line_fields_lem (Frame.Offset o) = refl
line_fields_lem (Frame.Change t) = refl
line_fields_lem (Frame.Cron f) = refl
line_fields_lem (Frame.Rule f) = refl
line_fields_lem (Frame.Extra m) = refl
line_fields_lem (Frame.Excepted m) = refl
line_fields_lem (Frame.End n) = refl

pub frame_spells : (f : Frame) → line_bytes (frame_line f) ≡ Some (all_bytes (line_fields f))
frame_spells f = rw (line_fields_lem f) (fields_spell (line_fields f))

fields_fit : (f : Frame) → frame_fits f ≡ true → all_of fits (line_fields f) ≡ true
unfolding frame_fits
fields_fit (Frame.Offset o) h = rw (lt-ltb _ _ (moved_below o))
fields_fit (Frame.Change t) h = rw (lt-ltb _ _ (moved_below_4 t.at), lt-ltb _ _ (moved_below t.offset))
fields_fit (Frame.Cron f) h = h
fields_fit (Frame.Rule f) h = h
fields_fit (Frame.Extra m) h = h
fields_fit (Frame.Excepted m) h = h
fields_fit (Frame.End n) h = h

-- what a list of fields has at a place
abbrev nth : ℕ → List Field → ℕ
nth i l = (get_or l i (0, 0)).1

-- fields that are a frame's are read as that frame
abbrev Reads : Frame → Type 0
Reads f =
    (get : ℕ → ℕ → ℕ) → valued get 0 (widths (line_fields f)) ≡ line_fields f → frame_from get (total (widths (line_fields f))) ≡ Some f

below : (k v : ℕ) (fs : List Field) → all_of fits ((k, v) ∷ fs) ≡ true → v < 256 ^ k
below k v fs h = ltb-true _ _ ((and-eq-true_iff (fits (k, v)) (all_of fits fs)).0 h).0

others : (f : Field) (fs : List Field) → all_of fits (f ∷ fs) ≡ true → all_of fits fs ≡ true
others f fs h = ((and-eq-true_iff (fits f) (all_of fits fs)).0 h).1

reads_offset : (o : ℕ) → frame_fits (Frame.Offset o) ≡ true → Reads (Frame.Offset o)
unfolding frame_fits frame_fields frame_from
reads_offset o h get e = rw (ap (nth 0) e, ap (nth 1) e, up_moved o (below 2 o [] h))

reads_change : (t : Transition) → frame_fits (Frame.Change t) ≡ true → Reads (Frame.Change t)
unfolding frame_fits frame_fields frame_from
reads_change t h get e =
    let a = below 4 t.at ((2, t.offset) ∷ []) h in
    let b = below 2 t.offset [] (others (4, t.at) ((2, t.offset) ∷ []) h) in
    rw (ap (nth 0) e, ap (nth 1) e, ap (nth 2) e, up_moved_4 t.at a, up_moved t.offset b)

reads_cron : (f : Cron) → Reads (Frame.Cron f)
unfolding frame_fields frame_from cron_from
reads_cron f get e =
    rw (ap (nth 0) e, ap (nth 1) e, ap (nth 2) e, ap (nth 3) e, ap (nth 4) e, ap (nth 5) e, ap (nth 6) e)

reads_rule : (f : Rule) → Reads (Frame.Rule f)
unfolding frame_fields frame_from rule_from
reads_rule f get e =
    rw
    (ap (nth 0) e, ap (nth 1) e, ap (nth 2) e, ap (nth 3) e, ap (nth 4) e, ap (nth 5) e, ap (nth 6) e, ap (nth 7) e, ap (nth 8) e, ap (nth 9) e, ap (nth 10) e, ap (nth 11) e, ap (nth 12) e)

reads_extra : (m : ℕ) → Reads (Frame.Extra m)
unfolding frame_fields frame_from
reads_extra m get e = rw (ap (nth 0) e, ap (nth 1) e)

reads_excepted : (m : ℕ) → Reads (Frame.Excepted m)
unfolding frame_fields frame_from
reads_excepted m get e = rw (ap (nth 0) e, ap (nth 1) e)

reads_end : (n : ℕ) → Reads (Frame.End n)
unfolding frame_fields frame_from
reads_end n get e = rw (ap (nth 0) e, ap (nth 1) e)

reads : (f : Frame) → frame_fits f ≡ true → Reads f
reads (Frame.Offset o) h = reads_offset o h
reads (Frame.Change t) h = reads_change t h
reads (Frame.Cron f) h = reads_cron f
reads (Frame.Rule f) h = reads_rule f
reads (Frame.Extra m) h = reads_extra m
reads (Frame.Excepted m) h = reads_excepted m
reads (Frame.End n) h = reads_end n

-- a frame whose fields fit, written and read
pub written_is_read : (f : Frame) → frame_fits f ≡ true → line_frame (frame_line f) ≡ Some f
unfolding line_frame bytes_frame
written_is_read f h =
    let fs = line_fields f in
    rw (line_fields_lem f, fields_spell fs, line_frame, length_all fs)
    (reads f h (field (all_bytes fs)) (written_and_read fs (fields_fit f h)))

-- one kind after the other: this one, or one of those after it
chosen : {G : Type 0} (t : Bool) (x f : Frame) (o : Option Frame)
    → cond t (Some x) o ≡ Some f → (t ≡ true → x ≡ f → G) → (o ≡ Some f → G) → G
chosen true x f o e a b = a refl (cc)
chosen false x f o e a b = b e

not_none : {G : Type 0} (f : Frame) → None ≡ Some f → G
not_none f e = let z : ◌≡◌ {A = ℕ} 0 1 = cc in absurd (omega arith)

module _ (line bytes : List ℕ) (e : line_bytes line ≡ Some bytes) where
  -- the kind and the length that a test found
  kind_of : (k n : ℕ) → (eqb (field bytes 0 1) k && eqb (length bytes) n) ≡ true → field bytes 0 1 ≡ k
  kind_of k n t = eqb-true _ _ ((and-eq-true_iff (eqb (field bytes 0 1) k) (eqb (length bytes) n)).0 t).0

  size_of : (k n : ℕ) → (eqb (field bytes 0 1) k && eqb (length bytes) n) ≡ true → n ≡ length bytes
  size_of k n t = sym (eqb-true _ _ ((and-eq-true_iff (eqb (field bytes 0 1) k) (eqb (length bytes) n)).0 t).1)

  -- a field fits its bytes
  field_below : (at k : ℕ) → at + k ≤ length bytes → k ≤ 8 → field bytes at k < 16 ^ (2 * k)
  field_below at k h l = rw (number_is_field line bytes e at k h l) at (number_fits line at k)

  -- the line by fields of these widths, the kind known
  by_widths : (k n : ℕ) (ks : List ℕ) → total (1 ∷ ks) ≡ n → (eqb (field bytes 0 1) k && eqb (length bytes) n) ≡ true
      → hexes ((1, k) ∷ valued (field bytes) 1 ks) ≡ line
  by_widths k n ks s t =
      let r : hexes ((1, field bytes 0 1) ∷ valued (field bytes) 1 ks) ≡ line = read_and_written (1 ∷ ks) line bytes e (s ∙ size_of k n t) in
      rw (kind_of k n t) at r

  is_offset : (eqb (field bytes 0 1) 1 && eqb (length bytes) 3) ≡ true → frame_line (Frame.Offset (moved_up (field bytes) 1 2)) ≡ line
  unfolding frame_line
  is_offset t =
      let n = size_of 1 3 t in
      rw (moved_up_lem (field bytes 1 2) (field_below 1 2 (omega arith) (omega arith))) (by_widths 1 3 (2 ∷ []) refl t)

  is_change : (eqb (field bytes 0 1) 2 && eqb (length bytes) 7) ≡ true → frame_line (Frame.Change (change_from (field bytes))) ≡ line
  unfolding frame_line
  is_change t =
      let n = size_of 2 7 t in
      rw
      (moved_up_4 (field bytes 1 4) (field_below 1 4 (omega arith) (omega arith)), moved_up_lem (field bytes 5 2) (field_below 5 2 (omega arith) (omega arith)))
      (by_widths 2 7 (4 ∷ 2 ∷ []) refl t)

  is_cron : (eqb (field bytes 0 1) 3 && eqb (length bytes) 21) ≡ true → frame_line (Frame.Cron (cron_from (field bytes))) ≡ line
  unfolding frame_line cron_from
  is_cron t = by_widths 3 21 (8 ∷ 4 ∷ 4 ∷ 2 ∷ 1 ∷ 1 ∷ []) refl t

  is_rule : (eqb (field bytes 0 1) 4 && eqb (length bytes) 41) ≡ true → frame_line (Frame.Rule (rule_from (field bytes))) ≡ line
  unfolding frame_line rule_from
  is_rule t = by_widths 4 41 (1 ∷ 2 ∷ 4 ∷ 4 ∷ 1 ∷ 4 ∷ 4 ∷ 5 ∷ 5 ∷ 4 ∷ 4 ∷ 2 ∷ []) refl t

  is_extra : (eqb (field bytes 0 1) 5 && eqb (length bytes) 5) ≡ true → frame_line (Frame.Extra (field bytes 1 4)) ≡ line
  unfolding frame_line
  is_extra t = by_widths 5 5 (4 ∷ []) refl t

  is_excepted : (eqb (field bytes 0 1) 6 && eqb (length bytes) 5) ≡ true → frame_line (Frame.Excepted (field bytes 1 4)) ≡ line
  unfolding frame_line
  is_excepted t = by_widths 6 5 (4 ∷ []) refl t

  is_end_lem : (eqb (field bytes 0 1) 255 && eqb (length bytes) 2) ≡ true → frame_line (Frame.End (field bytes 1 1)) ≡ line
  unfolding frame_line
  is_end_lem t = by_widths 255 2 (1 ∷ []) refl t

  bytes_line : (f : Frame) → bytes_frame bytes ≡ Some f → frame_line f ≡ line
  unfolding bytes_frame frame_from
  bytes_line f h =
      let is : (x : Frame) → x ≡ f → frame_line x ≡ line → frame_line f ≡ line = λ x p q. rw p at q in
      chosen _ _ f _ h (λ t x. is _ x (is_offset t))
      (λ h. chosen _ _ f _ h (λ t x. is _ x (is_change t))
      (λ h. chosen _ _ f _ h (λ t x. is _ x (is_cron t))
      (λ h. chosen _ _ f _ h (λ t x. is _ x (is_rule t))
      (λ h. chosen _ _ f _ h (λ t x. is _ x (is_extra t))
      (λ h. chosen _ _ f _ h (λ t x. is _ x (is_excepted t))
      (λ h. chosen _ _ f _ h (λ t x. is _ x (is_end_lem t)) (not_none f)))))))

any_bytes : (line : List ℕ) (f : Frame) (o : Option (List ℕ)) → line_bytes line ≡ o
    → elim o [ None ↦ None | Some bytes ↦ bytes_frame bytes ] ≡ Some f → frame_line f ≡ line
any_bytes line f None e h = not_none f h
any_bytes line f (Some bytes) e h = bytes_line line bytes e f h

-- a line that is read as a frame is that frame's line
pub read_is_written : (line : List ℕ) (f : Frame) → line_frame line ≡ Some f → frame_line f ≡ line
unfolding line_frame
read_is_written line f h = any_bytes line f (line_bytes line) refl h
