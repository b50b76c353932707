-- The lines as frames against the sheet's own reading of its lines.
use Rattle.std.specs.Prelude.{Option, None, Some, Result, Ok, Err}
use mathlib.Core.Bool.{Bool, true, false, cond}
use mathlib.Core.List.{List, [], ◌∷◌, map}
use mathlib.Core.Path.{◌≡◌, refl, sym, ap, subst, ◌∙◌}
use Prim.Native.Nat.{ℕ, suc, ◌+◌, ◌-◌, ◌<◌}
use native.Mathlib.Omega.{arith}
use borrow.Author.Tests.{eq-eqb, eqb-true, ltb-false}
use lib.Dec.{ltb, eqb}
use lib.ListN.{length}
use Rattle.framed.specs.Framed.{frame_of}
use Rattle.line.proofs.Numbered.{lined_number, lined_frame, lined_is}
use Rattle.line.specs.Lined.{number_of, context_as, lined, refusal_of}
use Rattle.line.specs.declared.Before.{Before}
use Rattle.line.specs.declared.Context.{Context}
use Rattle.line.specs.declared.Refusal.{Refusal}
use Rattle.lines.specs.Lines.{lines_of}
use Rattle.plan.specs.declared.Frame.{Frame}
use Rattle.sheet.specs.Form.{Form, zone, change, cron, rule, extra, except, form_of}
use Rattle.sheet.specs.Range.{instant_of_time}
use Rattle.sheet.specs.Refusals.{Context as Standings, context_after, line_refusal, Sheet, taken, refused as refused_sheet, following as followed, too_long, read_from, read_sheet, bad_line, bad_at, bad_length}
use Rattle.compile.specs.Reading.{SheetFrames, frames, refused, following, sheet_frames_from, first, sheet_frames, frames_from}
use Rattle.compile.specs.Steps.{next_context}
use Rattle.compile.proofs.Reasons.{Numbered, line_numbered, one_numbered}

-- what stands before the next line, by the frame and by the form
context_next : (c : Context) (f : Form) → context_as (next_context c (frame_of f)) ≡ context_after (context_as c) f
unfolding frame_of context_after instant_of_time
context_next c (zone s) = refl
context_next c (change t s) = by_before c.before
  where
    by_before : (b : Before)
        → context_as (next_context (record { before = b; low = c.low; offset = c.offset }) (frame_of (change t s))) ≡ context_after (context_as (record { before = b; low = c.low; offset = c.offset })) (change t s)
    by_before Before.Start = refl
    by_before (Before.Zoned k) = let e : k + 1 ≡ suc k = omega arith in rw e refl
    by_before Before.Lines = refl
context_next c (cron m h d mo w) = refl
context_next c (rule t ps) = refl
context_next c (extra t) = refl
context_next c (except t) = refl

-- n lines were read, and the next begins at a place
unfoldable pub as_from : ℕ → ℕ → List (List ℕ) → List ℕ → Sheet → SheetFrames
as_from n at lines tail (taken fs) = frames (map frame_of fs)
as_from n at lines tail (refused_sheet number line) = refused number line (at + bad_at (line - n) lines) (bad_length (line - n) lines tail)

-- a refusal is of a line not yet read
Later : ℕ → Sheet → Type 0
Later n (taken fs) = Unit {0}
Later n (refused_sheet number line) = n < line

module _ (n at : ℕ) (line : List ℕ) (more : List (List ℕ)) (tail : List ℕ) where
  one_on : (f : Form) (r : Sheet) → Later (n + 1) r
      → following (frame_of f) (as_from (n + 1) (at + length line + 1) more tail r) ≡ as_from n at (line ∷ more) tail (followed f r)
  unfolding as_from Later bad_line bad_at bad_length
  one_on f (taken fs) l = refl
  one_on f (refused_sheet number k) l =
      let e : k - n ≡ suc (suc (k - n - 2)) = omega (arith, l) in
      let g : k - (n + 1) ≡ suc (k - n - 2) = omega (arith, l) in
      let h : at + length line + 1 + bad_at (suc (k - n - 2)) more ≡ at + (length line + 1 + bad_at (suc (k - n - 2)) more) = omega arith in
      rw (e, g, h) refl

  at_once : (number : ℕ) → refused number (n + 1) at (length line) ≡ as_from n at (line ∷ more) tail (refused_sheet number (n + 1))
  unfolding as_from bad_line bad_at bad_length
  at_once number = let e : n + 1 - n ≡ 1 = omega arith in let z : at + 0 ≡ at = omega arith in rw (e, z) refl

later_on : (n : ℕ) (f : Form) (r : Sheet) → Later (n + 1) r → Later n (followed f r)
unfolding Later
later_on n f (taken fs) l = tt
later_on n f (refused_sheet number k) l = omega (arith, l)

-- a refusal has the number of a reason
Named : Sheet → Type 0
Named (taken fs) = Unit {0}
Named (refused_sheet number line) = Numbered number

named_on : (f : Form) (r : Sheet) → Named r → Named (followed f r)
unfolding Named
named_on f (taken fs) l = tt
named_on f (refused_sheet number k) l = l

record Same (n at : ℕ) (c : Context) (lines : List (List ℕ)) (tail : List ℕ) : Type 0 where
  answer : sheet_frames_from n at c lines tail ≡ as_from n at lines tail (read_from n (context_as c) lines tail)
  later : Later n (read_from n (context_as c) lines tail)
  named : Named (read_from n (context_as c) lines tail)

-- ---- after the last line
none_left : (n at : ℕ) (c : Context) (tail : List ℕ) → (n ≡ 0 → at ≡ 0) → Same n at c [] tail
unfolding sheet_frames_from read_from as_from Later Named bad_line bad_at bad_length
none_left n at c tail h = by_ends (ltb 0 (length tail)) refl (eqb n 0) refl
  where
    by_ends : (a : Bool) → ltb 0 (length tail) ≡ a → (b : Bool) → eqb n 0 ≡ b → Same n at c [] tail
    by_ends true p b q =
        let e : n + 1 - n ≡ 1 = omega arith in
        let z : at + 0 ≡ at = omega arith in
        record { answer = rw (p, e, z) refl; later = rw p (omega arith); named = rw p (line_numbered Refusal.Bytes) }
    by_ends false p true q =
        let m : n ≡ 0 = eqb-true n 0 q in
        let k : at ≡ 0 = h m in
        let l : length tail ≡ 0 = omega (arith, ltb-false 0 (length tail) p) in
        record { answer = rw (p, q, m, k, l) refl; later = rw (p, q) (omega arith); named = rw (p, q) (line_numbered Refusal.Place) }
    by_ends false p false q = record { answer = rw (p, q) refl; later = rw (p, q) tt; named = rw (p, q) tt }

-- ---- a line
module _ (n at : ℕ) (c : Context) (line : List ℕ) (more : List (List ℕ)) (tail : List ℕ) where
  read_on : (f : Form) → form_of line ≡ Some f → line_refusal (context_as c) line ≡ 0
      → read_from n (context_as c) (line ∷ more) tail ≡ followed f (read_from (n + 1) (context_after (context_as c) f) more tail)
  unfolding read_from
  read_on f o z = rw (read_from, o, eq-eqb _ _ z) refl

  read_stop : (refusal : Refusal) → lined (context_as c) line ≡ Err refusal
      → read_from n (context_as c) (line ∷ more) tail ≡ refused_sheet (number_of refusal) (n + 1)
  unfolding read_from
  read_stop refusal e = by_form (form_of line) refl
    where
      is : line_refusal (context_as c) line ≡ number_of refusal
      is = sym (lined_number (context_as c) line) ∙ ap refusal_of e

      by_number : (f : Form) → form_of line ≡ Some f → (b : Bool) → eqb (line_refusal (context_as c) line) 0 ≡ b
          → read_from n (context_as c) (line ∷ more) tail ≡ refused_sheet (number_of refusal) (n + 1)
      by_number f o true z =
          let g : Err refusal ≡ Ok (frame_of f) = sym e ∙ lined_frame (context_as c) line (eqb-true _ 0 z) f o in
          let y : ◌≡◌ {A = ℕ} 0 1 = cc in absurd (omega arith)
      by_number f o false z = rw (read_from, o, z, is) refl

      by_form : (o : Option Form) → form_of line ≡ o → read_from n (context_as c) (line ∷ more) tail ≡ refused_sheet (number_of refusal) (n + 1)
      by_form None o = rw (read_from, o, is) refl
      by_form (Some f) o = by_number f o (eqb (line_refusal (context_as c) line) 0) refl

  frames_on_lem : (f : Frame) → lined (context_as c) line ≡ Ok f
      → sheet_frames_from n at c (line ∷ more) tail ≡ following f (sheet_frames_from (n + 1) (at + length line + 1) (next_context c f) more tail)
  unfolding sheet_frames_from
  frames_on_lem f e = rw (sheet_frames_from, e) refl

  frames_stop : (refusal : Refusal) → lined (context_as c) line ≡ Err refusal
      → sheet_frames_from n at c (line ∷ more) tail ≡ refused (number_of refusal) (n + 1) at (length line)
  unfolding sheet_frames_from
  frames_stop refusal e = rw (sheet_frames_from, e) refl

  same_line : (x : Result Frame Refusal) → lined (context_as c) line ≡ x → ((b : ℕ) (d : Context) → Same (n + 1) b d more tail)
      → Same n at c (line ∷ more) tail
  unfolding Later Named
  same_line (Err refusal) e again =
      let r = read_stop refusal e in
      record {
        answer = frames_stop refusal e ∙ at_once n at line more tail (number_of refusal) ∙ ap (as_from n at (line ∷ more) tail) (sym r);
        later = rw r (omega arith);
        named = rw r (line_numbered refusal);
      }
  same_line (Ok f) e again =
      let q = lined_is (context_as c) line f e in
      let g = q.form in
      let s = again (at + length line + 1) (next_context c (frame_of g)) in
      let k = context_next c g in
      let r = read_on g q.of q.whole in
      let l : Later (n + 1) (read_from (n + 1) (context_after (context_as c) g) more tail) = rw k at s.later in
      record {
        answer = frames_on_lem (frame_of g) (e ∙ ap Ok q.same)
            ∙ ap (following (frame_of g))
            (s.answer ∙ ap (λ (d : Standings). as_from (n + 1) (at + length line + 1) more tail (read_from (n + 1) d more tail)) k)
            ∙ one_on n at line more tail g (read_from (n + 1) (context_after (context_as c) g) more tail) l
            ∙ ap (as_from n at (line ∷ more) tail) (sym r);
        later = rw r (later_on n g (read_from (n + 1) (context_after (context_as c) g) more tail) l);
        named = rw r (named_on g (read_from (n + 1) (context_after (context_as c) g) more tail) (rw k at s.named));
      }

same_from : (lines : List (List ℕ)) (n at : ℕ) (c : Context) (tail : List ℕ) → (n ≡ 0 → at ≡ 0) → Same n at c lines tail
same_from [] n at c tail h = none_left n at c tail h
same_from (line ∷ more) n at c tail h =
    same_line n at c line more tail (lined (context_as c) line) refl (λ b d. same_from more (n + 1) b d tail (λ (z : n + 1 ≡ 0). absurd (omega (arith, z))))

-- the frames of a sheet are those of its lines' forms, and a refusal has the bad line's place and length
pub sheet_frames_is : (text : List ℕ) → too_long text ≡ false
    → sheet_frames text ≡ as_from 0 0 (lines_of text).whole (lines_of text).tail (read_sheet text)
unfolding sheet_frames read_sheet
sheet_frames_is text e = rw (read_sheet, e) (same_from (lines_of text).whole 0 0 first (lines_of text).tail (λ z. refl)).answer

-- and a refusal has the number of a reason
pub sheet_named : (text : List ℕ) (number line : ℕ) → read_sheet text ≡ refused_sheet number line → Numbered number
unfolding read_sheet Named
sheet_named text number line e = by_length (too_long text) refl
  where
    by_length : (b : Bool) → too_long text ≡ b → Numbered number
    by_length true l = let k : refused_sheet 1 0 ≡ refused_sheet number line = rw (read_sheet, l) at e in let n : number ≡ 1 = cc in rw n one_numbered
    by_length false l = subst Named (rw (read_sheet, l) at e) (same_from (lines_of text).whole 0 0 first (lines_of text).tail (λ z. refl)).named

-- ---- the frames that were read are those that are answered
pub frames_read_lem : (lines : List (List ℕ)) (n at : ℕ) (c : Context) (tail : List ℕ) (fs : List Frame)
    → sheet_frames_from n at c lines tail ≡ frames fs → frames_from c lines ≡ fs
unfolding sheet_frames_from frames_from
frames_read_lem [] n at c tail fs e = by_ends (ltb 0 (length tail)) (eqb n 0) e
  where
    by_ends : (a b : Bool) → cond a (refused 2 (n + 1) at (length tail)) (cond b (refused 4 1 0 0) (frames [])) ≡ frames fs → [] ≡ fs
    by_ends true b e = let z : ◌≡◌ {A = ℕ} 0 1 = cc in absurd (omega arith)
    by_ends false true e = let z : ◌≡◌ {A = ℕ} 0 1 = cc in absurd (omega arith)
    by_ends false false e = cc
frames_read_lem (line ∷ more) n at c tail fs e =
    by_lined (lined (context_as c) line) refl (λ f gs. frames_read_lem more (n + 1) (at + length line + 1) (next_context c f) tail gs) e
  where
    by_rest : (f : Frame) (x : SheetFrames) → ((gs : List Frame) → x ≡ frames gs → frames_from (next_context c f) more ≡ gs)
        → following f x ≡ frames fs → f ∷ frames_from (next_context c f) more ≡ fs
    by_rest f (frames gs) again e = cc (again gs refl)
    by_rest f (refused number k b size) again e = let z : ◌≡◌ {A = ℕ} 0 1 = cc in absurd (omega arith)

    by_lined : (x : Result Frame Refusal) → lined (context_as c) line ≡ x
        → ((f : Frame) (gs : List Frame) → sheet_frames_from (n + 1) (at + length line + 1) (next_context c f) more tail ≡ frames gs → frames_from (next_context c f) more ≡ gs)
        → sheet_frames_from n at c (line ∷ more) tail ≡ frames fs → frames_from c (line ∷ more) ≡ fs
    by_lined (Ok f) g again e =
        rw (frames_from, g)
        (by_rest f (sheet_frames_from (n + 1) (at + length line + 1) (next_context c f) more tail) (again f) (rw (sheet_frames_from, g) at e))
    by_lined (Err refusal) g again e =
        let h : refused (number_of refusal) (n + 1) at (length line) ≡ frames fs = rw (sheet_frames_from, g) at e in
        let z : ◌≡◌ {A = ℕ} 0 1 = cc in absurd (omega arith)
