-- The lines of a sheet one after the other, as frames.
use Rattle.std.specs.Prelude.{Bool, true, cond, ◌&&◌, List, [], ◌∷◌, ℕ, ◌+◌, leb, ltb, eqb, length, Result, Ok, Err}
use Rattle.line.specs.Lined.{number_of, context_as, lined}
use Rattle.line.specs.declared.Before.{Before}
use Rattle.line.specs.declared.Context.{Context}
use Rattle.lines.specs.Lines.{lines_of}
use Rattle.plan.specs.Text.{plan_text}
use Rattle.plan.specs.declared.Frame.{Frame}
use Rattle.compile.specs.Reasons.{refusal_as}
use Rattle.compile.specs.Steps.{next_context}
use Rattle.compile.specs.declared.Refusal.{Refusal}

-- a sheet's frames, or a refusal number with the number of a line and the line's place and length
pub data SheetFrames : Type 0 where
  frames : List Frame → SheetFrames
  refused : ℕ → ℕ → ℕ → ℕ → SheetFrames

abbrev pub following : Frame → SheetFrames → SheetFrames
following f (frames fs) = frames (f ∷ fs)
following f (refused number line at size) = refused number line at size

-- "the first bad line decides": n lines are good, and the next one begins at a place
unfoldable pub sheet_frames_from : ℕ → ℕ → Context → List (List ℕ) → List ℕ → SheetFrames
sheet_frames_from n at c [] tail = cond (ltb 0 (length tail)) (refused 2 (n + 1) at (length tail)) (cond (eqb n 0) (refused 4 1 0 0) (frames []))
sheet_frames_from n at c (line ∷ more) tail =
    elim (lined (context_as c) line) [
      | Ok f ↦ following f (sheet_frames_from (n + 1) (at + length line + 1) (next_context c f) more tail)
      | Err refusal ↦ refused (number_of refusal) (n + 1) at (length line)
    ]

abbrev pub first : Context
first = record { before = Before.Start; low = 0; offset = 0 }

unfoldable pub sheet_frames : List ℕ → SheetFrames
sheet_frames text = let r = lines_of text in sheet_frames_from 0 0 first r.whole r.tail

-- the frames of the lines before the first bad one
unfoldable pub frames_from : Context → List (List ℕ) → List Frame
frames_from c [] = []
frames_from c (line ∷ more) = elim (lined (context_as c) line) [ Ok f ↦ f ∷ frames_from (next_context c f) more | Err refusal ↦ [] ]

unfoldable pub frames_read : List ℕ → List Frame
frames_read text = frames_from first (lines_of text).whole

-- what reading answers: the number of frames and the bytes of their plan lines, or the refusal
abbrev pub read_as : SheetFrames → Result (ℕ × ℕ) Refusal
read_as (frames fs) = Ok (length fs, length (plan_text fs))
read_as (refused number line at size) = Err (refusal_as number line at size)

abbrev pub last_as : ℕ → ℕ → ℕ → Result (ℕ × ℕ) Refusal
last_as lines n bytes = cond (eqb lines 0) (Err (refusal_as 4 1 0 0)) (Ok (n, bytes))

-- at most 64 frames, of at most 83 bytes each
abbrev pub small : Result (ℕ × ℕ) Refusal → Bool
small (Ok r) = leb r.0 64 && leb r.1 5312
small (Err refusal) = true
