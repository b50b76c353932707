-- A sheet that is taken or refused, and what comes of it.
use Rattle.std.specs.Prelude.{Result, Ok, Err}
use mathlib.Core.Bool.{Bool, true, false}
use mathlib.Core.List.{List, [], ◌∷◌, ◌++◌, map}
use mathlib.Core.Path.{◌≡◌, refl, sym, ap, ◌∙◌}
use Prim.Native.Nat.{ℕ, suc, ◌+◌, ◌-◌, ◌<◌, ◌≤◌}
use native.Mathlib.Nat.{add-zero, zero-add}
use native.Mathlib.Omega.{arith}
use borrow.Author.Tests.{lt-ltb, le-ltb, ltb-true, ltb-false}
use lib.Dec.{ltb}
use lib.ListN.{length, take, drop, length-append, length-map}
use lib.Seq.{sets, length-sets, sets-eq, take-append_seam, length-take-le}
use Rattle.calendar.proofs.Every.{neither}
use Rattle.framed.specs.Framed.{frame_of}
use Rattle.hex_lines.proofs.Puts.{put_inside}
use Rattle.hex_lines.specs.Hex.{put_at}
use Rattle.lines.specs.Lines.{lines_of, lines_in}
use Rattle.plan.proofs.Placing.{text_snoc}
use Rattle.plan.proofs.Rows.{frame_in_row}
use Rattle.plan.specs.Rows.{row_of, frame_in}
use Rattle.plan.specs.Text.{whole_line, plan_text}
use Rattle.plan.specs.declared.Frame.{Frame}
use Rattle.sheet.specs.Form.{Form}
use Rattle.sheet.specs.Refusals.{Sheet, taken, refused, too_long, read_sheet, bad_line, bad_at, bad_length}
use Rattle.compile.specs.Answers.{compiled_as, left_in, frames_in}
use Rattle.compile.specs.Compiled.{Compiled, plan, refusal, frames_after, compiled_frames, compiled_text, compile}
use Rattle.compile.specs.Reading.{frames, sheet_frames, frames_read, read_as, first}
use Rattle.compile.specs.Reasons.{refusal_as}
use Rattle.compile.specs.declared.Refusal.{Refusal}
use Rattle.compile.proofs.Framing.{as_from, sheet_frames_is, frames_read_lem}

-- ---- the frames of a sheet
frames_after_lem : (fs : List Form) (n : ℕ) → frames_after n fs ≡ map frame_of fs ++ (Frame.End (n + length fs) ∷ [])
frames_after_lem [] n = rw add-zero
frames_after_lem (f ∷ fs) n =
    let e : suc n + length fs ≡ n + suc (length fs) = omega arith in
    ap (λ (gs : List Frame). frame_of f ∷ gs) (frames_after_lem fs (suc n) ∙ rw e)

pub compiled_frames_lem : (fs : List Form) → compiled_frames fs ≡ map frame_of fs ++ (Frame.End (length fs) ∷ [])
unfolding compiled_frames
compiled_frames_lem fs = frames_after_lem fs 0 ∙ rw zero-add

pub compiled_length : (fs : List Form)
    → length (compiled_text fs) ≡ length (plan_text (map frame_of fs)) + length (whole_line (Frame.End (length fs)))
unfolding compiled_text
compiled_length fs =
    ap (λ (gs : List Frame). length (plan_text gs)) (compiled_frames_lem fs)
    ∙ ap length (text_snoc (map frame_of fs) (Frame.End (length fs)))
    ∙ length-append (plan_text (map frame_of fs)) (whole_line (Frame.End (length fs)))

pub short : (text : List ℕ) → too_long text ≡ false → lines_in text ≤ 64
unfolding too_long
short text e = ltb-false 64 _ (neither (ltb 16448 (length text)) (ltb 64 (lines_in text)) e).1

-- ---- what compiling is
pub record Refused (text : List ℕ) (room : ℕ) (b : Refusal) : Type 0 where
  pub number : ℕ
  pub line : ℕ
  pub at : ℕ
  pub size : ℕ
  pub compiled : compile text room ≡ refusal number line at size
  pub same : b ≡ refusal_as number line at size

module _ (text : List ℕ) (room : ℕ) where
  pub compile_long : too_long text ≡ true → compile text room ≡ refusal 1 0 0 0
  unfolding compile read_sheet bad_line bad_at bad_length
  compile_long e = rw (compile, read_sheet, e) refl

  -- what holds of a refusal that the sheet has, of 9, and of its plan where that fits, holds of what compiling is
  pub compile_cases : (P : Compiled → Type 0)
      → ((number line : ℕ) → read_sheet text ≡ refused number line → P (refusal number line (bad_at line (lines_of text).whole) (bad_length line (lines_of text).whole (lines_of text).tail)))
      → ((fs : List Form) → read_sheet text ≡ taken fs → room < length (compiled_text fs) → P (refusal 9 0 0 0))
      → ((fs : List Form) → read_sheet text ≡ taken fs → length (compiled_text fs) ≤ room → P (plan (compiled_text fs)))
      → P (compile text room)
  unfolding compile
  compile_cases P bad full fits = by_sheet (read_sheet text) refl
    where
      by_room : (fs : List Form) → read_sheet text ≡ taken fs → (b : Bool) → ltb room (length (compiled_text fs)) ≡ b
          → P (elim b [ true ↦ refusal 9 0 0 0 | false ↦ plan (compiled_text fs) ])
      by_room fs e true l = full fs e (ltb-true room (length (compiled_text fs)) l)
      by_room fs e false l = fits fs e (ltb-false room (length (compiled_text fs)) l)

      by_sheet : (s : Sheet) → read_sheet text ≡ s
          → P
          (elim s [
            | refused number line ↦ refusal number line (bad_at line (lines_of text).whole) (bad_length line (lines_of text).whole (lines_of text).tail)
            | taken fs ↦ elim (ltb room (length (compiled_text fs))) [ true ↦ refusal 9 0 0 0 | false ↦ plan (compiled_text fs) ]
          ])
      by_sheet (refused number line) e = bad number line e
      by_sheet (taken fs) e = by_room fs e (ltb room (length (compiled_text fs))) refl

  compile_full : (fs : List Form) → read_sheet text ≡ taken fs → room < length (compiled_text fs) → compile text room ≡ refusal 9 0 0 0
  unfolding compile
  compile_full fs e h = rw (compile, e, lt-ltb _ _ h) refl

  compile_fits : (fs : List Form) → read_sheet text ≡ taken fs → length (compiled_text fs) ≤ room → compile text room ≡ plan (compiled_text fs)
  unfolding compile
  compile_fits fs e h = rw (compile, e, le-ltb _ _ h) refl

  pub compile_refused : too_long text ≡ false → (b : Refusal) → Err b ≡ read_as (sheet_frames text) → Refused text room b
  unfolding compile as_from
  compile_refused l b e = by_sheet (read_sheet text) refl (e ∙ ap read_as (sheet_frames_is text l))
    where
      by_sheet : (s : Sheet) → read_sheet text ≡ s → Err b ≡ read_as (as_from 0 0 (lines_of text).whole (lines_of text).tail s)
          → Refused text room b
      by_sheet (taken fs) g e = let z : ◌≡◌ {A = ℕ} 0 1 = cc in absurd (omega arith)
      by_sheet (refused number line) g e =
          let k : line - 0 ≡ line = omega arith in
          let z : 0 + bad_at line (lines_of text).whole ≡ bad_at line (lines_of text).whole = omega arith in
          let r : b ≡ refusal_as number line (bad_at line (lines_of text).whole) (bad_length line (lines_of text).whole (lines_of text).tail) =
          cc (k, z) in
          record {
            number = number;
            line = line;
            at = bad_at line (lines_of text).whole;
            size = bad_length line (lines_of text).whole (lines_of text).tail;
            compiled = rw (compile, g) refl;
            same = r;
          }

-- ---- a sheet that is taken
record TakenAs (text : List ℕ) (n bytes : ℕ) : Type 0 where
  pub forms : List Form
  pub sheet : read_sheet text ≡ taken forms
  pub count : n ≡ length forms
  pub size : bytes ≡ length (plan_text (map frame_of forms))
  pub read : frames_read text ≡ map frame_of forms

sheet_taken : (text : List ℕ) → too_long text ≡ false → (n bytes : ℕ) → Ok (n, bytes) ≡ read_as (sheet_frames text)
    → TakenAs text n bytes
unfolding as_from sheet_frames frames_read
sheet_taken text l n bytes e = by_sheet (read_sheet text) refl (sheet_frames_is text l)
  where
    by_sheet : (s : Sheet) → read_sheet text ≡ s → sheet_frames text ≡ as_from 0 0 (lines_of text).whole (lines_of text).tail s
        → TakenAs text n bytes
    by_sheet (taken fs) g f =
        let r : Ok (n, bytes) ≡ read_as (frames (map frame_of fs)) = e ∙ ap read_as f in
        let k : ◌≡◌ {A = ℕ × ℕ} (n, bytes) (length (map frame_of fs), length (plan_text (map frame_of fs))) = cc in
        record {
          forms = fs;
          sheet = g;
          count = ap (λ (p : ℕ × ℕ). p.0) k ∙ length-map fs frame_of;
          size = ap (λ (p : ℕ × ℕ). p.1) k;
          read = frames_read_lem (lines_of text).whole 0 0 first (lines_of text).tail (map frame_of fs) f;
        }
    by_sheet (refused number line) g f =
        let r : ◌≡◌ {A = Result (ℕ × ℕ) Refusal} (Ok (n, bytes)) (Err _) = e ∙ ap read_as f in let z : ◌≡◌ {A = ℕ} 0 1 = cc in absurd (omega arith)

-- ---- the frames that the rows hold are those that were stored
rows_back : (fs : List Frame) → map frame_in (map row_of fs) ≡ fs
rows_back [] = refl
rows_back (f ∷ fs) = rw (frame_in_row f, rows_back fs) refl

frames_kept : (rows₀ rows : List (List ℕ)) (fs : List Frame) (n : ℕ) → rows ≡ sets rows₀ 0 (map row_of fs) → n ≡ length fs → n ≤ length rows₀
    → frames_in rows n ≡ fs
frames_kept rows₀ rows fs n e c h =
    let m : n ≡ length (map row_of fs) = c ∙ sym (length-map fs row_of) in
    rw (e, sets-eq (map row_of fs) rows₀ 0 (omega (arith, m)), m) (ap (map frame_in) (take-append_seam (map row_of fs) _) ∙ rows_back fs)

rows_places : (rows₀ rows : List (List ℕ)) (fs : List Frame) → rows ≡ sets rows₀ 0 (map row_of fs) → length rows₀ ≡ 64 → length rows ≡ 64
rows_places rows₀ rows fs e h = ap length e ∙ length-sets rows₀ 0 (map row_of fs) ∙ h

-- the plan in front of the buffer
put_front : (buffer p : List ℕ) → length p ≤ length buffer → put_at buffer 0 p ≡ p ++ drop (length p) buffer
put_front buffer p h = let z : 0 + length p ≡ length p = omega arith in put_inside buffer 0 p (omega arith) ∙ rw z refl

pub plan_left : (buffer p : List ℕ) → take (length p) (left_in buffer (plan p)) ≡ p
plan_left buffer p = take-append_seam p (drop (length p) buffer)

-- the plan of the first n rows fits, and is what compiling answers and leaves
pub record Made (text buffer : List ℕ) (rows : List (List ℕ)) (n size : ℕ) : Type 0 where
  pub fits : length (plan_text (frames_in rows n ++ (Frame.End (length (take n rows)) ∷ []))) ≤ length buffer
  pub answer : Ok size ≡ compiled_as (compile text (length buffer))
  pub left : put_at buffer 0 (plan_text (frames_in rows n ++ (Frame.End (length (take n rows)) ∷ []))) ≡ left_in buffer (compile text (length buffer))

-- ---- a sheet that was read with n frames
module _ (text buffer : List ℕ) (l : too_long text ≡ false) (n bytes end : ℕ) (e : Ok (n, bytes) ≡ read_as (sheet_frames text)) (g : end ≡ length (whole_line (Frame.End n))) where
  t : TakenAs text n bytes
  t = sheet_taken text l n bytes e

  size : bytes + end ≡ length (compiled_text t.forms)
  unfolding t
  size =
      let k : length (whole_line (Frame.End n)) ≡ length (whole_line (Frame.End (length t.forms))) =
      ap (λ (m : ℕ). length (whole_line (Frame.End m))) t.count in
      omega (arith, compiled_length t.forms, t.size, g, k)

  pub no_room : length buffer < bytes + end → compile text (length buffer) ≡ refusal 9 0 0 0
  no_room h = compile_full text (length buffer) t.forms t.sheet (omega (arith, size))

  module _ (rows₀ rows : List (List ℕ)) (stored : rows ≡ sets rows₀ 0 (map row_of (frames_read text))) (places : length rows₀ ≡ 64) (most : n ≤ 64) (h : bytes + end ≤ length buffer) where
    kept : plan_text (frames_in rows n ++ (Frame.End n ∷ [])) ≡ compiled_text t.forms
    unfolding compiled_text
    kept =
        let k : n ≡ length (map frame_of t.forms) = t.count ∙ sym (length-map t.forms frame_of) in
        let f : frames_in rows n ≡ map frame_of t.forms =
        frames_kept rows₀ rows (map frame_of t.forms) n (stored ∙ ap (λ (fs : List Frame). sets rows₀ 0 (map row_of fs)) t.read) k
        (omega (arith, places)) in
        ap plan_text
        (ap (λ (fs : List Frame). fs ++ (Frame.End n ∷ [])) f ∙ ap (λ (m : ℕ). map frame_of t.forms ++ (Frame.End m ∷ [])) t.count ∙ sym (compiled_frames_lem t.forms))

    pub plan_made : Made text buffer rows n (bytes + end)
    plan_made =
        let c = compile_fits text (length buffer) t.forms t.sheet (omega (arith, size)) in
        let q : length (take n rows) ≡ n = length-take-le n rows (omega (arith, rows_places rows₀ rows (frames_read text) stored places)) in
        let k : plan_text (frames_in rows n ++ (Frame.End (length (take n rows)) ∷ [])) ≡ compiled_text t.forms =
        ap (λ (m : ℕ). plan_text (frames_in rows n ++ (Frame.End m ∷ []))) q ∙ kept in
        record {
          fits = omega (arith, ap length k, size);
          answer = rw c (ap Ok size);
          left = rw c (ap (put_at buffer 0) k ∙ put_front buffer (compiled_text t.forms) (omega (arith, size)));
        }
