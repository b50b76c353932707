-- "In it the lowest of 2 to 8": a line's frame, or its refusal with that number.
use Rattle.std.specs.Prelude.{Bool, true, false, cond, List, ℕ, ◌+◌, ltb, eqb, get_or, Option, None, Some, Result, Ok, Err}
use Rattle.framed.specs.Framed.{frame_of}
use Rattle.frames.specs.declared.Rule.{Rule}
use Rattle.lines.specs.Bytes.{byte}
use Rattle.plan.specs.declared.Frame.{Frame}
use Rattle.rules.specs.declared.Unruled.{Unruled}
use Rattle.sheet.specs.Form.{Form, form_of}
use Rattle.sheet.specs.Place.{Before as Standing, start, zoned, lines}
use Rattle.sheet.specs.Refusals.{Context as Standings, bytes_good, form_refusal}
use Rattle.words.specs.Reads.{cursor}
use Rattle.words.specs.declared.cursor.Cursor.{Cursor}
use Rattle.words.specs.declared.cursor.Time.{Time}
use Rattle.zone.specs.Zone.{most_changes}
use Rattle.line.specs.declared.Before.{Before}
use Rattle.line.specs.declared.Context.{Context}
use Rattle.line.specs.declared.Refusal.{Refusal}

-- what stands before the line
abbrev pub before_as : Before → Standing
before_as Before.Start = start
before_as (Before.Zoned k) = zoned k
before_as Before.Lines = lines

abbrev pub context_as : Context → Standings
context_as c = record { before = before_as c.before; low = c.low; offset = c.offset }

-- the document's number of a refusal
abbrev pub number_of : Refusal → ℕ
number_of Refusal.Bytes = 2
number_of Refusal.Form = 3
number_of Refusal.Place = 4
number_of Refusal.Range = 5
number_of Refusal.Parts = 6
number_of Refusal.Limits = 7
number_of Refusal.Start = 8

-- the refusal with one of these numbers
unfoldable pub refusal_with : ℕ → Refusal
refusal_with n =
    cond (eqb n 2) Refusal.Bytes
    (cond (eqb n 3) Refusal.Form
    (cond (eqb n 4) Refusal.Place
    (cond (eqb n 5) Refusal.Range (cond (eqb n 6) Refusal.Parts (cond (eqb n 7) Refusal.Limits Refusal.Start)))))

-- a form's frame where no refusal applies; 3 where there is no form
unfoldable pub lined_form : Standings → Option Form → Result Frame Refusal
lined_form c None = Err Refusal.Form
lined_form c (Some f) = cond (eqb (form_refusal c f) 0) (Ok (frame_of f)) (Err (refusal_with (form_refusal c f)))

unfoldable pub lined : Standings → List ℕ → Result Frame Refusal
lined c line = cond (bytes_good line) (lined_form c (form_of line)) (Err Refusal.Bytes)

-- "`Z`: exactly one, the first line. `T`: directly after `Z` or another `T`", and where other lines may stand
abbrev pub zone_stands : Before → Bool
zone_stands Before.Start = true
zone_stands (Before.Zoned k) = false
zone_stands Before.Lines = false

abbrev pub change_stands : Before → Bool
change_stands Before.Start = false
change_stands (Before.Zoned k) = ltb k most_changes
change_stands Before.Lines = false

abbrev pub other_stands : Before → Bool
other_stands Before.Start = false
other_stands (Before.Zoned k) = true
other_stands Before.Lines = true

-- an answer where the form ends with the line and may stand where it does
unfoldable pub standing : {A : Type 0} → ℕ → ℕ → Bool → Result A Refusal → Result A Refusal
standing length end stands answer = cond (eqb end length) (cond stands answer (Err Refusal.Place)) (Err Refusal.Form)

-- a time that was read, with the place after the space behind it
abbrev pub spaced : List ℕ → Option (Time × Cursor) → Option (Time × Cursor)
spaced text None = None
spaced text (Some r) = cond (eqb (get_or text r.1.at 0) (byte " ")) (Some (r.0, cursor (r.1.at + 1))) None

-- 6 "parts that don't go together", 8 "start not an occurrence of its rule"
abbrev pub unruled_as : Unruled → Refusal
unruled_as Unruled.Apart = Refusal.Parts
unruled_as Unruled.NoStart = Refusal.Start

-- the frame of a rule, or its refusal
abbrev pub ruled_line : Result Rule Unruled → Result Frame Refusal
ruled_line (Ok f) = Ok (Frame.Rule f)
ruled_line (Err unruled) = Err (unruled_as unruled)

-- 0 with a frame, else the refusal's number
abbrev pub refusal_of : Result Frame Refusal → ℕ
refusal_of (Ok f) = 0
refusal_of (Err refusal) = number_of refusal
