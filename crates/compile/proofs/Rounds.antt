-- The loop over a sheet's lines: what is left to do makes what was to do at first.
use Rattle.std.specs.Prelude.{Result, Ok, Err}
use mathlib.Core.Bool.{Bool, true, false, cond}
use mathlib.Core.List.{List, [], ◌∷◌, ◌++◌, map}
use mathlib.Core.Path.{◌≡◌, refl, sym, ap, ◌∙◌}
use Prim.Native.Nat.{ℕ, suc, ◌+◌, ◌-◌, ◌*◌, ◌<◌, ◌≤◌}
use native.Mathlib.Omega.{arith}
use borrow.Author.Tests.{lt-ltb, le-leb}
use lib.Dec.{eqb}
use lib.ListN.{length, take, drop, set, length-drop, length-take, length-append, drop_of_length-le}
use lib.Seq.{sets}
use Rattle.line.specs.Lined.{number_of, refusal_with, context_as, lined}
use Rattle.line.specs.declared.Refusal.{Refusal as LineRefusal}
use Rattle.lines.proofs.Ends.{end_least, lines_at, lines_none}
use Rattle.lines.specs.Lines.{Lines, lines_of, lines_in, line_end}
use Rattle.plan.proofs.Placing.{whole_length, line_short}
use Rattle.plan.specs.Rows.{row_of}
use Rattle.plan.specs.Text.{frame_line, whole_line, plan_text}
use Rattle.plan.specs.declared.Frame.{Frame}
use Rattle.compile.specs.Reading.{SheetFrames, frames, refused, following, sheet_frames_from, first, sheet_frames, frames_from, frames_read, read_as, last_as, small}
use Rattle.compile.specs.Reasons.{reason_with, refusal_as}
use Rattle.compile.specs.Steps.{next_context, stepped, rows_with}
use Rattle.compile.specs.declared.Reason.{Reason}
use Rattle.compile.specs.declared.Refusal.{Refusal}
use Rattle.compile.specs.declared.step.State.{State}
use Rattle.compile.proofs.Reasons.{reason_of_line}
use Rattle.compile.proofs.Stepping.{step_is, step_refused}

-- the answer of what is left after n frames and so many bytes
abbrev left_as : ℕ → ℕ → SheetFrames → Result (ℕ × ℕ) Refusal
left_as n bytes (frames fs) = Ok (n + length fs, bytes + length (plan_text fs))
left_as n bytes (refused number line at size) = Err (refusal_as number line at size)

-- a bad line
abbrev pub bad_line : LineRefusal → ℕ → ℕ → ℕ → Refusal
bad_line refusal line at size = record { reason = Reason.Line refusal; line = line; at = at; length = size }

pub record Left (text : List ℕ) (rows₀ rows : List (List ℕ)) (at : ℕ) (s : State) : Type 0 where
  pub within : at ≤ length text
  pub lines : s.lines ≡ s.frames
  pub places : s.frames + length (lines_of (drop at text)).whole ≤ 64
  pub bytes : s.bytes ≤ s.frames * 83
  pub answer : left_as s.frames s.bytes (sheet_frames_from s.lines at s.context (lines_of (drop at text)).whole (lines_of (drop at text)).tail) ≡ read_as (sheet_frames text)
  pub stored : sets rows s.frames (map row_of (frames_from s.context (lines_of (drop at text)).whole)) ≡ sets rows₀ 0 (map row_of (frames_read text))

abbrev pub Right : List ℕ → List (List ℕ) → List (List ℕ) → Result (ℕ × ℕ) Refusal → Type 0
Right text rows₀ rows r = (r ≡ read_as (sheet_frames text)) × (rows ≡ sets rows₀ 0 (map row_of (frames_read text)))

all_left : (x : SheetFrames) → left_as 0 0 x ≡ read_as x
all_left (frames fs) =
    let e : 0 + length fs ≡ length fs = omega arith in
    let g : 0 + length (plan_text fs) ≡ length (plan_text fs) = omega arith in rw (e, g) refl
all_left (refused number line at size) = refl

pub left_first : (text : List ℕ) (rows : List (List ℕ)) → lines_in text ≤ 64
    → Left text rows rows 0 (record { context = first; lines = 0; frames = 0; bytes = 0 })
unfolding sheet_frames frames_read lines_in
left_first text rows h =
    record {
      within = omega arith;
      lines = refl;
      places = omega arith;
      bytes = omega arith;
      answer = all_left (sheet_frames_from 0 0 first (lines_of text).whole (lines_of text).tail);
      stored = refl;
    }

-- one frame more
more_left : (n bytes : ℕ) (f : Frame) (x : SheetFrames) → left_as (n + 1) (bytes + length (whole_line f)) x ≡ left_as n bytes (following f x)
unfolding plan_text
more_left n bytes f (frames fs) =
    let e : n + 1 + length fs ≡ n + suc (length fs) = omega arith in
    let g : bytes + length (whole_line f) + length (plan_text fs) ≡ bytes + length (frame_line f ++ (10 ∷ plan_text fs)) =
    omega (arith, whole_length f, length-append (frame_line f) (10 ∷ plan_text fs)) in
    rw (e, g) refl
more_left n bytes f (refused number line at size) = refl

module _ (text : List ℕ) (rows₀ rows : List (List ℕ)) (at : ℕ) (s : State) (left : Left text rows₀ rows at s) where
  rest : (ls : Lines) → lines_of (drop at text) ≡ ls
      → (left_as s.frames s.bytes (sheet_frames_from s.lines at s.context ls.whole ls.tail) ≡ read_as (sheet_frames text))
      × (sets rows s.frames (map row_of (frames_from s.context ls.whole)) ≡ sets rows₀ 0 (map row_of (frames_read text)))
  rest ls e = (
    ap (λ (x : Lines). left_as s.frames s.bytes (sheet_frames_from s.lines at s.context x.whole x.tail)) (sym e) ∙ left.answer,
    ap (λ (x : Lines). sets rows s.frames (map row_of (frames_from s.context x.whole))) (sym e) ∙ left.stored,
  )

  -- the text's end
  pub left_none : length text ≤ at → Right text rows₀ rows (last_as s.lines s.frames s.bytes)
  unfolding sheet_frames_from frames_from lines_of plan_text
  left_none h =
      let r = rest (record { whole = []; tail = [] }) (ap lines_of (drop_of_length-le text {i = at} h)) in
      (by_lines (eqb s.lines 0) ∙ r.0, r.1)
    where
      by_lines : (b : Bool)
          → cond {A = Result (ℕ × ℕ) Refusal} b (Err (refusal_as 4 1 0 0)) (Ok (s.frames, s.bytes)) ≡ left_as s.frames s.bytes (cond b (refused 4 1 0 0) (frames []))
      by_lines true = refl
      by_lines false = let e : s.frames + 0 ≡ s.frames = omega arith in let g : s.bytes + 0 ≡ s.bytes = omega arith in rw (e, g) refl

  pub left_small : small (last_as s.lines s.frames s.bytes) ≡ true
  left_small = by_lines (eqb s.lines 0)
    where
      by_lines : (b : Bool) → small (cond b (Err (refusal_as 4 1 0 0)) (Ok (s.frames, s.bytes))) ≡ true
      by_lines true = refl
      by_lines false =
          rw (le-leb s.frames 64 (omega (arith, left.places)), le-leb s.bytes 5312 (omega (arith, left.places, left.bytes))) refl

  -- a line without LF
  pub left_tail : at < length text → length text ≤ line_end text at
      → Right text rows₀ rows (Err (bad_line LineRefusal.Bytes (s.lines + 1) at (line_end text at - at)))
  unfolding sheet_frames_from frames_from reason_with refusal_with
  left_tail h l =
      let r = rest (record { whole = []; tail = drop at text }) (lines_none text at left.within l) in
      let n : line_end text at - at ≡ length (drop at text) = omega (arith, length-drop at text, (end_least text at left.within).to) in
      (rw n (ap (λ (b : Bool). left_as s.frames s.bytes (cond b (refused 2 (s.lines + 1) at (length (drop at text))) (cond (eqb s.lines 0) (refused 4 1 0 0) (frames [])))) (sym (lt-ltb 0 (length (drop at text)) (omega (arith, length-drop at text))))) ∙ r.0, r.1)

  -- a line
  module _ (h : line_end text at < length text) where
    abbrev line : List ℕ
    line = take (line_end text at - at) (drop at text)

    abbrev more : List (List ℕ)
    more = (lines_of (drop (line_end text at + 1) text)).whole

    abbrev tail : List ℕ
    tail = (lines_of (drop (line_end text at + 1) text)).tail

    size : length line ≡ line_end text at - at
    size = length-take (line_end text at - at) (drop at text) ∙ omega (arith, length-drop at text)

    pub left_room : s.frames < 64
    left_room = omega (arith, left.places, ap (λ (ls : Lines). length ls.whole) (lines_at text at left.within h))

    on_lined : Result Frame LineRefusal → SheetFrames
    on_lined x = elim x [
      | Ok f ↦ following f (sheet_frames_from (s.lines + 1) (at + length line + 1) (next_context s.context f) more tail)
      | Err refusal ↦ refused (number_of refusal) (s.lines + 1) at (length line)
    ]

    frames_on : Result Frame LineRefusal → List Frame
    frames_on x = elim x [ Ok f ↦ f ∷ frames_from (next_context s.context f) more | Err refusal ↦ [] ]

    by_line : (x : Result Frame LineRefusal) → lined (context_as s.context) line ≡ x
        → (left_as s.frames s.bytes (on_lined x) ≡ read_as (sheet_frames text))
        × (sets rows s.frames (map row_of (frames_on x)) ≡ sets rows₀ 0 (map row_of (frames_read text)))
    unfolding sheet_frames_from frames_from on_lined frames_on
    by_line x e =
        let r = rest (record { whole = line ∷ more; tail = tail }) (lines_at text at left.within h) in
        (ap (λ (y : Result Frame LineRefusal). left_as s.frames s.bytes (on_lined y)) (sym e) ∙ r.0, ap (λ (y : Result Frame LineRefusal). sets rows s.frames (map row_of (frames_on y))) (sym e) ∙ r.1)

    left_bad : (refusal : LineRefusal) → lined (context_as s.context) line ≡ Err refusal
        → Right text rows₀ rows (Err (bad_line refusal (s.lines + 1) at (line_end text at - at)))
    unfolding on_lined frames_on
    left_bad refusal e =
        let r = by_line (Err refusal) e in
        (ap (λ (x : Reason). Err (record { reason = x; line = s.lines + 1; at = at; length = line_end text at - at })) (sym (reason_of_line refusal)) ∙ (rw size at r.0), r.1)

    left_on : (f : Frame) → lined (context_as s.context) line ≡ Ok f
        → Left text rows₀ (set rows s.frames (row_of f)) (line_end text at + 1)
        (record { context = next_context s.context f; lines = s.lines + 1; frames = s.frames + 1; bytes = s.bytes + length (whole_line f) })
    unfolding on_lined frames_on
    left_on f e =
        let r = by_line (Ok f) e in
        let p : at + length line + 1 ≡ line_end text at + 1 = omega (arith, size, (end_least text at left.within).from) in
        let n : s.frames + 1 ≡ suc s.frames = omega arith in
        record {
          within = omega arith;
          lines = ap (λ (k : ℕ). k + 1) left.lines;
          places = omega (arith, left.places, ap (λ (ls : Lines). length ls.whole) (lines_at text at left.within h));
          bytes = omega (arith, left.bytes, whole_length f, line_short f);
          answer =
              more_left s.frames s.bytes f
              (sheet_frames_from (s.lines + 1) (line_end text at + 1) (next_context s.context f) more tail)
              ∙ rw p at r.0;
          stored = ap (λ (k : ℕ). sets (set rows s.frames (row_of f)) k (map row_of (frames_from (next_context s.context f) more))) n ∙ r.1;
        }

    onward : (f : Frame) → lined (context_as s.context) line ≡ Ok f → (next : State)
        → next ≡ record { context = next_context s.context f; lines = s.lines + 1; frames = s.frames + 1; bytes = s.bytes + length (whole_line f) }
        → (rows' : List (List ℕ)) → rows' ≡ set rows s.frames (row_of f) → Left text rows₀ rows' (line_end text at + 1) next
    onward f e next p rows' g = rw (p, g) (left_on f e)

    -- as the step leaves it
    pub left_stepped : (next : State) (rows' : List (List ℕ)) → stepped s (lined (context_as s.context) line) ≡ Ok next
        → rows' ≡ rows_with rows s.frames (lined (context_as s.context) line) → Left text rows₀ rows' (line_end text at + 1) next
    left_stepped next rows' e g =
        let q = step_is s (lined (context_as s.context) line) next e in
        onward q.frame q.is next q.same rows' (g ∙ ap (rows_with rows s.frames) q.is)

    pub left_refused : (refusal : LineRefusal) (rows' : List (List ℕ)) → stepped s (lined (context_as s.context) line) ≡ Err refusal
        → rows' ≡ rows_with rows s.frames (lined (context_as s.context) line)
        → Right text rows₀ rows' (Err (bad_line refusal (s.lines + 1) at (line_end text at - at)))
    left_refused refusal rows' e g =
        let x = step_refused s (lined (context_as s.context) line) refusal e in
        let l = left_bad refusal x in
        (l.0, g ∙ ap (rows_with rows s.frames) x ∙ l.1)
