-- "Refusal numbers" 1 to 8 of a sheet: for a line one condition each, and the least that holds.
use Rattle.std.specs.Prelude.{Bool, true, false, cond, not, ◌&&◌, ◌||◌, List, [], ◌∷◌, ℕ, zero, suc, ◌+◌, leb, ltb, eqb, length, Option, None, Some}
use Rattle.calendar.specs.Below.{within, all_of}
use Rattle.lines.specs.Lines.{lines_of, lines_in}
use Rattle.zone.specs.Zone.{under_limits, distance}
use Rattle.sheet.specs.Form.{Form, zone, change, cron, rule, extra, except, form_of}
use Rattle.sheet.specs.Meaning.{occurs_at, within_until}
use Rattle.sheet.specs.Parts.{given_of, parts_together}
use Rattle.sheet.specs.Place.{Before, start, lines, after, in_place}
use Rattle.sheet.specs.Range.{minute_of, instant_of_time, offset_of_shift, in_range}

-- what the lines before a line leave: where it stands, the least instant of a next transition, the offset before it
pub record Context : Type 0 where
  pub before : Before
  pub low : ℕ
  pub offset : ℕ

unfoldable pub context_after : Context → Form → Context
context_after c (zone s) = record { before = after c.before (zone s); low = 0; offset = offset_of_shift s }
context_after c (change t s) = record { before = after c.before (change t s); low = instant_of_time t + distance; offset = offset_of_shift s }
context_after c (cron m h d mo w) = record { before = lines; low = c.low; offset = c.offset }
context_after c (rule t ps) = record { before = lines; low = c.low; offset = c.offset }
context_after c (extra t) = record { before = lines; low = c.low; offset = c.offset }
context_after c (except t) = record { before = lines; low = c.low; offset = c.offset }

-- 2: "over 256 bytes, or a byte outside 20 to 7E"
unfoldable pub bytes_good : List ℕ → Bool
bytes_good line = leb (length line) 256 && all_of (within 32 126) line

-- 6: "parts that don't go together"
unfoldable pub together : Form → Bool
together (zone s) = true
together (change t s) = true
together (cron m h d mo w) = true
together (rule t ps) = parts_together ps
together (extra t) = true
together (except t) = true

-- 7: "transition limits"
unfoldable pub limits_kept : Context → Form → Bool
limits_kept c (zone s) = true
limits_kept c (change t s) = under_limits c.low c.offset (record { at = instant_of_time t; offset = offset_of_shift s })
limits_kept c (cron m h d mo w) = true
limits_kept c (rule t ps) = true
limits_kept c (extra t) = true
limits_kept c (except t) = true

-- 8: "start not an occurrence of its rule (COUNT and UNTIL left out), or UNTIL before start"
unfoldable pub start_occurs : Form → Bool
start_occurs (zone s) = true
start_occurs (change t s) = true
start_occurs (cron m h d mo w) = true
start_occurs (rule t ps) =
    let g = given_of ps in
    occurs_at g (minute_of t) (minute_of t) && within_until g.until (minute_of t)
start_occurs (extra t) = true
start_occurs (except t) = true

-- "in it the lowest of 2 to 8 that applies"; 0 where none does
unfoldable pub form_refusal : Context → Form → ℕ
form_refusal c f =
    cond (not (in_place c.before f)) 4
    (cond (not (in_range f)) 5
    (cond (not (together f)) 6 (cond (not (limits_kept c f)) 7 (cond (not (start_occurs f)) 8 0))))

unfoldable pub form_refusal_or3 : Context → Option Form → ℕ
form_refusal_or3 c None = 3
form_refusal_or3 c (Some f) = form_refusal c f

unfoldable pub line_refusal : Context → List ℕ → ℕ
line_refusal c line = cond (not (bytes_good line)) 2 (form_refusal_or3 c (form_of line))

-- what a sheet is found to be: its lines' forms, or a refusal number with the number of a line
pub data Sheet : Type 0 where
  taken : List Form → Sheet
  refused : ℕ → ℕ → Sheet

-- "1: sheet over 16,448 bytes or over 64 lines (a tail without LF is a line)"
unfoldable pub too_long : List ℕ → Bool
too_long text = ltb 16448 (length text) || ltb 64 (lines_in text)

-- the end of the sheet after n lines: "line without LF"; "an empty sheet (line 1)"
abbrev pub ended : ℕ → List ℕ → Sheet
ended n tail = cond (ltb 0 (length tail)) (refused 2 (n + 1)) (cond (eqb n 0) (refused 4 1) (taken []))

abbrev pub following : Form → Sheet → Sheet
following f (taken fs) = taken (f ∷ fs)
following f (refused n k) = refused n k

-- "the first bad line decides": n lines are good
unfoldable pub read_from : ℕ → Context → List (List ℕ) → List ℕ → Sheet
read_from n c [] tail = ended n tail
read_from n c (line ∷ more) tail =
    elim (form_of line) [
      | None ↦ refused (line_refusal c line) (n + 1)
      | Some f ↦ elim (eqb (line_refusal c line) 0) [
        | true ↦ following f (read_from (n + 1) (context_after c f) more tail)
        | false ↦ refused (line_refusal c line) (n + 1)
      ]
    ]

-- before the first line
abbrev pub first : Context
first = record { before = start; low = 0; offset = 0 }

-- "1 comes first; then the first bad line decides"
unfoldable pub read_sheet : List ℕ → Sheet
read_sheet text =
    let r = lines_of text in
    elim (too_long text) [ true ↦ refused 1 0 | false ↦ read_from 0 first r.whole r.tail ]

-- "For 2 to 8 an entry also shows the bad line as a part of the lent sheet without LF, empty for line 0 or past the end": line k, counted from 1
unfoldable pub bad_line : ℕ → List (List ℕ) → List ℕ → List ℕ
bad_line zero ls tail = []
bad_line (suc zero) [] tail = tail
bad_line (suc (suc k)) [] tail = []
bad_line (suc zero) (l ∷ ls) tail = l
bad_line (suc (suc k)) (l ∷ ls) tail = bad_line (suc k) ls tail

-- its place in the sheet, and its length
unfoldable pub bad_at : ℕ → List (List ℕ) → ℕ
bad_at zero ls = 0
bad_at (suc zero) ls = 0
bad_at (suc (suc k)) [] = 0
bad_at (suc (suc k)) (l ∷ ls) = length l + 1 + bad_at (suc k) ls

unfoldable pub bad_length : ℕ → List (List ℕ) → List ℕ → ℕ
bad_length k ls tail = length (bad_line k ls tail)
