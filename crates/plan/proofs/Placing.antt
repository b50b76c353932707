-- A frame's line put number by number.
use mathlib.Core.List.{List, [], ◌∷◌, ◌++◌, append_assoc}
use mathlib.Core.Path.{◌≡◌, refl, sym, ap, ◌∙◌}
use Prim.Native.Nat.{ℕ, zero, suc, ◌+◌, ◌-◌, ◌*◌, ◌%◌, ◌^◌, ◌<◌, ◌≤◌}
use native.Mathlib.Nat.{mod-add-mod, pow-le-pow_right}
use native.Mathlib.Numerals.{add-one}
use native.Mathlib.Omega.{arith}
use lib.Pow.{pow-add}
use lib.ListN.{length, get_or, set, length-append}
use Rattle.frames.specs.Kinds.{row_numbers}
use Rattle.hex_lines.proofs.Fields.{hexes, widths, total}
use Rattle.hex_lines.proofs.Puts.{length_put, put_then, set_is_put}
use Rattle.hex_lines.specs.Hex.{Field, hex_of, put_at}
use Rattle.plan.specs.Fits.{frame_fields, frame_widths, pairs_from, pairs_at}
use Rattle.plan.specs.Rows.{row_of}
use Rattle.plan.specs.Text.{moved, moved_frame, frame_line, whole_line, plan_text}
use Rattle.plan.specs.declared.Frame.{Frame}

-- how many numbers so many bytes write
pub bytes_bits : (k : ℕ) → 2 ^ (8 * k) ≡ 256 ^ k
bytes_bits zero = refl
bytes_bits (suc k) = let e : 8 * suc k ≡ 8 * k + 8 = omega arith in rw (e, pow-add 2 (8 * k) 8, bytes_bits k) (omega arith)

pub numbers_least : (k : ℕ) → 2 ≤ k → 65536 ≤ 256 ^ k
numbers_least k h = pow-le-pow_right {n = 256} (omega arith) h

pub numbers_most : (k : ℕ) → k ≤ 7 → 256 ^ k ≤ 256 ^ 7
numbers_most k h = pow-le-pow_right {n = 256} (omega arith) h

-- two's complement of a number of any size
pub moved_by : (v k : ℕ) → 2 ≤ k → (v % 256 ^ k + (256 ^ k - 1440)) % 256 ^ k ≡ moved k v
unfolding moved
moved_by v k h =
    let n = 256 ^ k in
    let least : 65536 ≤ 256 ^ k = numbers_least k h in
    mod-add-mod v n (n - 1440) ∙ ap (λ (m : ℕ). m % n) {x = v + (n - 1440)} {y = v + n - 1440} (omega arith)

-- the numbers of a frame's line
abbrev pub frame_pairs : Frame → List Field
frame_pairs f = pairs_at (frame_widths f) (row_of (moved_frame f)) 0

pub row_line : (f : Frame) → hexes (frame_pairs f) ≡ frame_line f
unfolding pairs_at pairs_from frame_widths frame_fields row_of moved_frame frame_line hex_of
row_line (Frame.Offset o) = refl
row_line (Frame.Change t) = refl
row_line (Frame.Cron f) = refl
row_line (Frame.Rule f) = refl
row_line (Frame.Extra m) = refl
row_line (Frame.Excepted m) = refl
row_line (Frame.End n) = refl

pub row_size : (f : Frame) → 2 * total (widths (frame_pairs f)) ≡ length (frame_line f)
unfolding pairs_at pairs_from frame_widths frame_fields row_of moved_frame frame_line hex_of
row_size (Frame.Offset o) = refl
row_size (Frame.Change t) = refl
row_size (Frame.Cron f) = refl
row_size (Frame.Rule f) = refl
row_size (Frame.Extra m) = refl
row_size (Frame.Excepted m) = refl
row_size (Frame.End n) = refl

-- one number more
pub next_pair : (sizes row : List ℕ) (i : ℕ) → i < row_numbers
    → pairs_at sizes row i ≡ (get_or sizes i 0, get_or row i 0) ∷ pairs_at sizes row (i + 1)
unfolding pairs_at pairs_from
next_pair sizes row i h = let n : row_numbers - i ≡ suc (row_numbers - (i + 1)) = omega arith in rw (n, add-one i)

pub no_pair : (sizes row : List ℕ) (i : ℕ) → row_numbers ≤ i → pairs_at sizes row i ≡ []
unfolding pairs_at pairs_from
no_pair sizes row i h = let n : row_numbers - i ≡ 0 = omega arith in rw n

-- and the LF
pub line_end_put : (f : Frame) (l : List ℕ) (at : ℕ) → at + length (frame_line f) < length l
    → set (put_at l at (frame_line f)) (at + length (frame_line f)) 10 ≡ put_at l at (whole_line f)
line_end_put f l at h =
    let p = put_at l at (frame_line f) in
    set_is_put p (at + length (frame_line f)) 10 (rw (length_put l at (frame_line f)) h)
    ∙ put_then l at (frame_line f) (10 ∷ []) (omega arith)

pub whole_length : (f : Frame) → length (whole_line f) ≡ length (frame_line f) + 1
whole_length f = length-append (frame_line f) (10 ∷ [])

-- no line is longer than a rule's
pub line_short : (f : Frame) → length (frame_line f) ≤ 82
unfolding frame_line hex_of
line_short (Frame.Offset o) = omega arith
line_short (Frame.Change t) = omega arith
line_short (Frame.Cron f) = omega arith
line_short (Frame.Rule f) = omega arith
line_short (Frame.Extra m) = omega arith
line_short (Frame.Excepted m) = omega arith
line_short (Frame.End n) = omega arith

-- a plan's text line by line, from either end
pub text_cons : (f : Frame) (fs : List Frame) → whole_line f ++ plan_text fs ≡ plan_text (f ∷ fs)
unfolding plan_text
text_cons f fs = append_assoc (frame_line f) (10 ∷ []) (plan_text fs)

pub text_append : (fs gs : List Frame) → plan_text (fs ++ gs) ≡ plan_text fs ++ plan_text gs
unfolding plan_text
text_append [] gs = refl
text_append (f ∷ fs) gs = rw (text_append fs gs) (sym (append_assoc (frame_line f) (10 ∷ plan_text fs) (plan_text gs)))

pub text_snoc : (fs : List Frame) (f : Frame) → plan_text (fs ++ (f ∷ [])) ≡ plan_text fs ++ whole_line f
unfolding plan_text
text_snoc fs f = text_append fs (f ∷ [])
