-- "One frame for each sheet line, in order, then the end frame."
use Rattle.std.specs.Prelude.{true, false, List, [], ◌∷◌, ℕ, suc, ltb, length}
use Rattle.framed.specs.Framed.{frame_of}
use Rattle.lines.specs.Lines.{lines_of}
use Rattle.plan.specs.Text.{plan_text}
use Rattle.plan.specs.declared.Frame.{Frame}
use Rattle.sheet.specs.Form.{Form}
use Rattle.sheet.specs.Refusals.{taken, refused, read_sheet, bad_at, bad_length}

-- the frames of some lines after n others, then "FF: number of frames before it"
abbrev pub frames_after : ℕ → List Form → List Frame
frames_after n [] = Frame.End n ∷ []
frames_after n (f ∷ fs) = frame_of f ∷ frames_after (suc n) fs

unfoldable pub compiled_frames : List Form → List Frame
compiled_frames fs = frames_after 0 fs

unfoldable pub compiled_text : List Form → List ℕ
compiled_text fs = plan_text (compiled_frames fs)

-- what the compiler answers: the plan, or a refusal number, a line and the bad line's place and length in the sheet
pub data Compiled : Type 0 where
  plan : List ℕ → Compiled
  refusal : ℕ → ℕ → ℕ → ℕ → Compiled

-- "9: sheet is taken but the plan is longer than the lent buffer; line 0"
unfoldable pub compile : List ℕ → ℕ → Compiled
compile text room =
    let r = lines_of text in
    elim (read_sheet text) [
      | refused number line ↦ refusal number line (bad_at line r.whole) (bad_length line r.whole r.tail)
      | taken fs ↦ elim (ltb room (length (compiled_text fs))) [ true ↦ refusal 9 0 0 0 | false ↦ plan (compiled_text fs) ]
    ]
