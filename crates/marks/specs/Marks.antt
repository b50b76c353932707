-- The marked cases (a) to (l), each a test that computes.
use Rattle.std.specs.Prelude.{Bool, false, ◌&&◌, List, [], ◌∷◌, ℕ, ◌+◌, ◌*◌, eqb, ℤ, pos, negsuc}
use Rattle.std.specs.Bool.{beq}
use Rattle.calendar.specs.Below.{every_below}
use Rattle.calendar.specs.Calendar.{weekday_of_day}
use Rattle.calendar.specs.Window.{day_minutes}
use Rattle.compile.specs.Compiled.{compiled_frames}
use Rattle.framed.specs.Framed.{last_of}
use Rattle.evandrusk.specs.Answers.{day_of_date_answer, iso_of_day_answer}
use Rattle.plan.specs.Plan.{plan_held}
use Rattle.sheet.specs.Cases.{minute, thirds, workdays, case_h, case_i, case_j, case_k, case_l}
use Rattle.sheet.specs.Form.{Form, rule}
use Rattle.sheet.specs.Meaning.{sheet_held}
use Rattle.sheet.specs.Parts.{given_of}
use Rattle.sheet.specs.Range.{minute_of}

unfoldable pub same_int : ℤ → ℤ → Bool
same_int (pos a) (pos b) = eqb a b
same_int (pos a) (negsuc b) = false
same_int (negsuc a) (pos b) = false
same_int (negsuc a) (negsuc b) = eqb a b

-- a date is a day, as C is answered
unfoldable pub is_day : ℕ → ℕ → ℕ → ℤ → Bool
unfolding same_int
is_day y m d z =
    let r = day_of_date_answer (pos y) (pos m) (pos d) in
    eqb r.number 0 && same_int r.day z

unfoldable pub is_iso : ℤ → ℕ → ℕ → ℕ → Bool
unfolding same_int
is_iso z y w d =
    let r = iso_of_day_answer z in
    eqb r.number 0 && (same_int r.year (pos y) && (same_int r.week (pos w) && same_int r.weekday (pos d)))

-- the *last* of a sheet's second line, and both meanings alike at the k local minutes from m on, every day's
unfoldable pub last_of_rule : List Form → ℕ
last_of_rule [] = 0
last_of_rule (z ∷ []) = 0
last_of_rule (z ∷ f ∷ fs) = elim f [
  | Form.rule t ps ↦ last_of (given_of ps) (minute_of t)
  | Form.zone s ↦ 0
  | Form.change t s ↦ 0
  | Form.cron mi h d mo w ↦ 0
  | Form.extra t ↦ 0
  | Form.except t ↦ 0
]

unfoldable pub alike : List Form → ℕ → ℕ → Bool
alike fs k m =
    let frames = compiled_frames fs in
    every_below (λ d. beq (sheet_held fs (m + day_minutes * d)) (plan_held frames (m + day_minutes * d))) k

-- (a) "1970-01-01 is 0"
unfoldable pub mark_a : Bool
unfolding is_day
mark_a = is_day 1970 1 1 (pos 0)

-- (b) "1969-12-31 is −1"
unfoldable pub mark_b : Bool
unfolding is_day
mark_b = is_day 1969 12 31 (negsuc 0)

-- (c) "0001-01-01 is −719,162, a Monday"
unfoldable pub mark_c : Bool
unfolding is_day
mark_c = is_day 1 1 1 (negsuc 719161) && eqb (weekday_of_day (negsuc 719161)) 1

-- (d) "9999-12-31 is 2,932,896"
unfoldable pub mark_d : Bool
unfolding is_day
mark_d = is_day 9999 12 31 (pos 2932896)

-- (e) "2000-02-29 is 11,016"
unfoldable pub mark_e : Bool
unfolding is_day
mark_e = is_day 2000 2 29 (pos 11016)

-- (f) "1900-02-29 refused, 5"
unfoldable pub mark_f : Bool
mark_f = eqb (day_of_date_answer (pos 1900) (pos 2) (pos 29)).number 5

-- (g) "2027-01-01 is 2026-W53-5"
unfoldable pub mark_g : Bool
unfolding is_day is_iso
mark_g = is_day 2027 1 1 (pos 20819) && is_iso (pos 20819) 2026 53 5

-- (j) "31 January, March, May, last 13,892,040", and the compiled plan holds the same days of 2026 and 2027
unfoldable pub mark_j : Bool
unfolding last_of_rule alike
mark_j = case_j && (eqb (last_of_rule thirds) 13892040 && alike thirds 730 (minute 2026 1 1 6 0))

-- (k) "goes on to 27 February and 31 March", and the compiled plan holds the same of the 90 days from 1 January on
unfoldable pub mark_k : Bool
unfolding alike
mark_k = case_k && alike workdays 90 (minute 2026 1 1 6 0)

-- the table; (l) for every day of the window, twenty years at a time
unfoldable pub marks : List Bool
marks =
    mark_a
    ∷ mark_b
    ∷ mark_c
    ∷ mark_d
    ∷ mark_e
    ∷ mark_f
    ∷ mark_g
    ∷ case_h
    ∷ case_i
    ∷ mark_j
    ∷ mark_k
    ∷ case_l 7305 0
    ∷ case_l 7305 7305
    ∷ case_l 7305 14610
    ∷ case_l 7305 21915
    ∷ case_l 7305 29220
    ∷ []
