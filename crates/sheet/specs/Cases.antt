-- Sheets of document 01's bench list, of its "Errors we have seen" and of the requests, and what they hold, as tests that compute.
use Rattle.std.specs.Prelude.{Bool, not, ◌&&◌, ◌||◌, List, [], ℕ, ◌+◌, ◌*◌, eqb}
use Rattle.std.specs.Bool.{beq}
use Prim.Native.String.{String}
use Rattle.calendar.specs.Below.{every_below, count_from}
use Rattle.calendar.specs.Window.{local_date, local_weekday, day_minutes}
use Rattle.lines.specs.Bytes.{bytes}
use Rattle.zone.specs.Zone.{bias, instant_of}
use Rattle.sheet.specs.Form.{Form}
use Rattle.sheet.specs.Meaning.{sheet_held, sheet_zone}
use Rattle.sheet.specs.Range.{minute_of}
use Rattle.sheet.specs.Place.{zoned}
use Rattle.sheet.specs.Refusals.{Sheet, taken, refused, first, read_sheet, line_refusal}

-- the forms of a taken sheet's lines; a refused sheet has none
abbrev pub forms_of : Sheet → List Form
forms_of (taken fs) = fs
forms_of (refused n k) = []

abbrev pub sheet : String → List Form
sheet text = forms_of (read_sheet (bytes text))

-- the local minute of a date and a time
abbrev pub minute : ℕ → ℕ → ℕ → ℕ → ℕ → ℕ
minute y mo d h mi = minute_of (record { year = y; month = mo; day = d; hour = h; minute = mi; second = 0 })

-- a sheet holds a local minute, and it becomes this instant
abbrev pub is_instant : List Form → ℕ → ℕ → Bool
is_instant fs m i = sheet_held fs m && eqb (instant_of (sheet_zone fs) m) (i + bias)

-- how many of the k local minutes from m on, a day apart, are held
abbrev pub held_days : List Form → ℕ → ℕ → ℕ
held_days fs k m = count_from (λ d. sheet_held fs (m + day_minutes * d)) k 0

-- "Whole example"
abbrev pub example_text : String
example_text = "Z +0100\nT 20260329T0100 +0200\nT 20261025T0100 +0100\nC 30 2 * * *\n"

unfoldable pub example : List Form
example = sheet example_text

unfoldable pub thirds : List Form
thirds = sheet "Z +0000\nR 20260131T0600 FREQ=MONTHLY;COUNT=3\n"

unfoldable pub workdays : List Form
workdays = sheet "Z +0000\nR 20260130T0600 FREQ=MONTHLY;BYDAY=MO,TU,WE,TH,FR;BYSETPOS=-1\n"

unfoldable pub fridays : List Form
fridays = sheet "Z +0000\nC 0 0 13 * 5\n"

-- (h) "in the example, 2026-03-29 02:30 is instant 13,801,050"
unfoldable pub case_h : Bool
unfolding example
case_h = is_instant example (minute 2026 3 29 2 30) 13801050

-- (i) "2026-10-25 02:30 is 14,103,390, once": of the day's minutes no other is held
unfoldable pub case_i : Bool
unfolding example
case_i =
    is_instant example (minute 2026 10 25 2 30) 14103390
    && eqb (count_from (sheet_held example) day_minutes (minute 2026 10 25 0 0)) 1

-- (j) "31 January, March, May": those of the days of 2026 and 2027 and no other
unfoldable pub case_j : Bool
unfolding thirds
case_j =
    sheet_held thirds (minute 2026 1 31 6 0)
    && (sheet_held thirds (minute 2026 3 31 6 0)
    && (sheet_held thirds (minute 2026 5 31 6 0) && eqb (held_days thirds 730 (minute 2026 1 1 6 0)) 3))

-- (k) "goes on to 27 February and 31 March": those and 30 January of the 90 days from 1 January on
unfoldable pub case_k : Bool
unfolding workdays
case_k =
    sheet_held workdays (minute 2026 1 30 6 0)
    && (sheet_held workdays (minute 2026 2 27 6 0)
    && (sheet_held workdays (minute 2026 3 31 6 0) && eqb (held_days workdays 90 (minute 2026 1 1 6 0)) 3))

-- (l) "`0 0 13 * 5` holds every 13th and every Friday": of k days from a local day on, at midnight
unfoldable pub case_l : ℕ → ℕ → Bool
unfolding fridays
case_l k from =
    every_below
    (λ e.
    let d = from + e in
    beq (sheet_held fridays (day_minutes * d)) (eqb (local_date d).day 13 || eqb (local_weekday d) 5))
    k

-- "`1-31` is restricted": with Fridays it holds every day of a year
unfoldable pub case_range : Bool
case_range = eqb (held_days (sheet "Z +0000\nC 0 0 1-31 * 5\n") 365 (minute 2026 1 1 0 0)) 365

-- "days before the start included": Monday 5 January 2026 is that month's third workday
unfoldable pub case_place : Bool
case_place = sheet_held (sheet "Z +0000\nR 20260105T0600 FREQ=MONTHLY;BYDAY=MO,TU,WE,TH,FR;BYSETPOS=3\n") (minute 2026 1 5 6 0)

-- "X does not give a COUNT back": 31 January and May are left
unfoldable pub case_except : Bool
case_except =
    eqb (held_days (sheet "Z +0000\nR 20260131T0600 FREQ=MONTHLY;COUNT=3\nX 20260331T0600\n") 365 (minute 2026 1 1 6 0)) 2

-- T-04: "`0 0 * 6 1` is every day of June and every Monday, not the Mondays of June": of 2026 30 days and 47 Mondays beside them;
-- `0 0 13 6 5` is 13 June, a Saturday, and 52 Fridays; `1-12` is restricted, so with a day of week every day is held; else all must match
unfoldable pub case_june : Bool
case_june =
    let days : String → ℕ = λ text. held_days (sheet text) 365 (minute 2026 1 1 0 0) in
    eqb (days "Z +0000\nC 0 0 * 6 1\n") 77
    && (eqb (days "Z +0000\nC 0 0 13 6 5\n") 53
    && (eqb (days "Z +0000\nC 0 0 * 1-12 1\n") 365
    && (eqb (days "Z +0000\nC 0 0 * * 5\n") 52
    && (eqb (days "Z +0000\nC 0 0 * 6 *\n") 30
    && (eqb (days "Z +0000\nC 0 0 13 6 *\n") 1 && sheet_held (sheet "Z +0000\nC 0 0 13 6 *\n") (minute 2026 6 13 0 0))))))

-- T-01: "29 February comes in leap years only": of the days of 2001 to 2004, on one
unfoldable pub case_leap : Bool
case_leap =
    let fs = sheet "Z +0000\nR 20000229T0600 FREQ=YEARLY\n" in
    sheet_held fs (minute 2004 2 29 6 0) && eqb (held_days fs 1461 (minute 2001 1 1 6 0)) 1

-- T-01: "For the other frequencies BYMONTH only limits": of the week of 29 June 2026 Monday and Tuesday are dropped, and July has 13 such days
unfoldable pub case_months : Bool
case_months =
    let fs = sheet "Z +0000\nR 20250701T0600 FREQ=WEEKLY;BYDAY=MO,TU,WE;BYMONTH=7\n" in
    eqb (held_days fs 3 (minute 2026 6 29 6 0)) 1
    && (sheet_held fs (minute 2026 7 1 6 0) && eqb (held_days fs 365 (minute 2026 1 1 6 0)) 13)

-- T-01: "it picks from the year's set": the 9th and the last Monday, of 2026 two days and no other; eight of its Mondays are before the start
unfoldable pub case_year_places : Bool
case_year_places =
    let fs = sheet "Z +0000\nR 20260302T0600 FREQ=YEARLY;BYDAY=MO;BYSETPOS=9,-1\n" in
    sheet_held fs (minute 2026 3 2 6 0)
    && (sheet_held fs (minute 2026 12 28 6 0)
    && (sheet_held fs (minute 2027 3 1 6 0) && eqb (held_days fs 365 (minute 2026 1 1 6 0)) 2))

-- T-01: "ordinals are allowed, count within a month": the last Sundays of March and October
unfoldable pub case_year_ordinals : Bool
case_year_ordinals =
    let fs = sheet "Z +0000\nR 20260329T0600 FREQ=YEARLY;BYMONTH=3,10;BYDAY=-1SU\n" in
    sheet_held fs (minute 2026 3 29 6 0)
    && (sheet_held fs (minute 2026 10 25 6 0) && eqb (held_days fs 365 (minute 2026 1 1 6 0)) 2)

-- T-01: "both must allow a day, if both are given", RFC 5545's election days: the Tuesday after a Monday in November of every fourth year
unfoldable pub case_elections : Bool
case_elections =
    let fs = sheet "Z +0000\nR 20001107T0900 FREQ=YEARLY;INTERVAL=4;BYMONTH=11;BYDAY=TU;BYMONTHDAY=2,3,4,5,6,7,8\n" in
    sheet_held fs (minute 2004 11 2 9 0)
    && (eqb (held_days fs 366 (minute 2004 1 1 9 0)) 1 && eqb (held_days fs 30 (minute 2005 11 1 9 0)) 0)

-- T-01: "with neither, the start's day in the BYMONTH months", RFC 5545's June and July for ten occurrences: five years
unfoldable pub case_year_days : Bool
case_year_days =
    let fs = sheet "Z +0000\nR 20030610T0900 FREQ=YEARLY;COUNT=10;BYMONTH=6,7\n" in
    sheet_held fs (minute 2007 7 10 9 0)
    && (eqb (held_days fs 365 (minute 2003 1 1 9 0)) 2 && not (sheet_held fs (minute 2008 6 10 9 0)))

-- T-02: "four or six digits may follow the `T`", "wherever a sheet line has a time": every line kind with seconds here and there, and without any
unfoldable pub with_seconds : List Form
with_seconds =
    sheet
    "Z +0100\nT 20260329T010000 +0200\nT 20261025T0100 +0100\nR 20260131T060000 FREQ=MONTHLY;UNTIL=20260731T0600\nR 20260201T0600 UNTIL=20260203T060000;FREQ=DAILY\nD 20260101T060000\nD 20260102T0600\nX 20260331T060000\n"

unfoldable pub without_seconds : List Form
without_seconds =
    sheet
    "Z +0100\nT 20260329T0100 +0200\nT 20261025T0100 +0100\nR 20260131T0600 FREQ=MONTHLY;UNTIL=20260731T0600\nR 20260201T0600 UNTIL=20260203T0600;FREQ=DAILY\nD 20260101T0600\nD 20260102T0600\nX 20260331T0600\n"

-- 31 January, May and July, three days of February, two of January
unfoldable pub case_seconds : Bool
unfolding with_seconds
case_seconds =
    sheet_held with_seconds (minute 2026 2 3 6 0)
    && (is_instant with_seconds (minute 2026 5 31 6 0) 13891920 && eqb (held_days with_seconds 365 (minute 2026 1 1 6 0)) 8)

-- "in it the lowest of 2 to 8 that applies": a line as the first of its sheet, or after the example's first two
alone : String → ℕ
alone line = line_refusal first (bytes line)

later : String → ℕ
later line = line_refusal (record { before = zoned 1; low = 13805340; offset = 1560 }) (bytes line)

unfoldable pub case_ranks : Bool
unfolding alone later
case_ranks =
    eqb (alone "C 60 * * *") 3
    && (eqb (alone "C 60 * * * *") 4
    && (eqb (alone "D 20260101T2400") 4
    && (eqb (later "T 20260329T0159 +1401") 5
    && (eqb (later "R 20260101T0600 COUNT=0") 5
    && (eqb (later "R 20260101T0600 FREQ=DAILY;COUNT=2;UNTIL=20250101T0000") 6
    && (eqb (later "T 20260329T0159 +0200") 7
    && (eqb (later "R 20260101T0600 FREQ=DAILY;BYDAY=FR") 8 && eqb (later "R 20260101T0600 FREQ=DAILY;BYDAY=TH") 0)))))))

-- T-01: "`BYMONTH=` 1 to 12, a comma list"; "need BYMONTH, else refusal 6"; "given BYDAY or BYMONTHDAY"
unfoldable pub case_year_ranks : Bool
unfolding later
case_year_ranks =
    eqb (later "R 20260329T0600 FREQ=YEARLY;BYMONTH=+3") 3
    && (eqb (later "R 20260329T0600 FREQ=YEARLY;BYMONTH=3,13") 5
    && (eqb (later "R 20260329T0600 FREQ=YEARLY;BYMONTH=3;BYMONTH=3") 6
    && (eqb (later "R 20260329T0600 FREQ=YEARLY;BYDAY=-1SU") 6
    && (eqb (later "R 20260329T0600 FREQ=YEARLY;BYMONTH=3;BYSETPOS=1") 6
    && (eqb (later "R 20260329T0600 FREQ=YEARLY;BYMONTH=4") 8 && eqb (later "R 20260329T0600 FREQ=YEARLY;BYMONTH=03,4") 0)))))

-- T-02: "Seconds other than 00 are refusal 5": not where the line is malformed, 3, or out of place, 4; any other number of digits is 3
unfoldable pub case_second_ranks : Bool
unfolding alone later
case_second_ranks =
    eqb (later "T 20260329T015901 0200") 3
    && (eqb (alone "D 20260101T060001") 4
    && (eqb (later "D 20260101T060001") 5
    && (eqb (later "X 20260101T060060") 5
    && (eqb (later "T 20260329T015999 +0200") 5
    && (eqb (later "R 20260101T060030 FREQ=DAILY;BYDAY=FR") 5
    && (eqb (later "R 20260101T0600 FREQ=DAILY;COUNT=2;UNTIL=20250101T000059") 5
    && (eqb (later "R 20260101T0600 FREQ=DAILY;COUNT=2;UNTIL=20250101T000000") 6
    && (eqb (later "T 20260329T015900 +0200") 7
    && (eqb (later "R 20260101T060000 FREQ=DAILY;UNTIL=20250101T000000") 8
    && eqb (later "R 20260101T060000 FREQ=DAILY;UNTIL=20260101T060000") 0)))))))))

unfoldable pub case_second_digits : Bool
unfolding later
case_second_digits =
    eqb (later "D 20260101T060") 3
    && (eqb (later "D 20260101T0600") 0
    && (eqb (later "D 20260101T06000") 3
    && (eqb (later "D 20260101T060000") 0
    && (eqb (later "D 20260101T0600000") 3 && (eqb (later "D 20260101T06000000") 3 && eqb (later "D 20260101T060000Z") 3)))))
