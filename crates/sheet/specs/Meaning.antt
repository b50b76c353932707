-- "Sheet meaning", from the lines' text, counting included.
use Rattle.std.specs.Prelude.{Bool, true, false, cond, not, ◌&&◌, ◌||◌, List, [], ◌∷◌, ◌≡◌, ℕ, ◌+◌, ◌-◌, ◌*◌, ◌/◌, ◌%◌, leb, eqb, Option, None, Some, unwrap_or}
use Rattle.calendar.specs.Below.{within, any_of, count_from}
use Rattle.calendar.specs.Window.{month_first, local_date, local_weekday, local_week, from_end, day_minutes}
use Rattle.zone.specs.Zone.{Offsets, instant_of, in_window}
use Rattle.zone.specs.declared.Transition.{Transition}
use Rattle.sheet.specs.Form.{Time, Element, one, range, Field, star, list, Entry, plain, ordinal, Frequency, daily, weekly, monthly, yearly, Form, zone, change, cron, rule, extra, except}
use Rattle.sheet.specs.Parts.{Given, given_of}
use Rattle.sheet.specs.Range.{minute_of, instant_of_time, offset_of_shift}
use Rattle.sheet.specs.Words.{Signed}

-- "An element is a number or two numbers with `-`, both ends counted."
unfoldable pub element_has : ℕ → Element → Bool
element_has n (one a) = eqb n a
element_has n (range a b) = within a b n

unfoldable pub field_has : Field → ℕ → Bool
field_has star n = true
field_has (list es) n = any_of (element_has n) es

-- "A field is *restricted* if it is not `*`."
abbrev pub restricted : Field → Bool
restricted star = false
restricted (list es) = true

-- the number of a day's month, January 1
abbrev pub month_number : ℕ → ℕ
month_number d = (local_date d).month % 12 + 1

-- "A local minute is held if minute, hour .. match and the day does"; T-04: "if month or day of month is restricted and day of week is too,
-- a day is held if it matches month and day of month together, or the day of week alone. Otherwise all three must match."
unfoldable pub cron_holds : Field → Field → Field → Field → Field → ℕ → Bool
cron_holds minute hour day month weekday m =
    let d = m / day_minutes in
    let t = m % day_minutes in
    let month_day_ok = field_has month (month_number d) && field_has day (local_date d).day in
    let weekday_ok = field_has weekday (local_weekday d) in
    field_has minute (t % 60)
    && (field_has hour (t / 60)
    && cond (restricted weekday && (restricted day || restricted month)) (month_day_ok || weekday_ok) (month_day_ok && weekday_ok))

-- the first month of the period that holds month k, and the first after it; T-01: "For YEARLY the period is the calendar year"
-- Nothing is counted within a period that is shorter than a month.
abbrev pub first_month : Frequency → ℕ → ℕ
first_month daily k = k
first_month weekly k = k
first_month monthly k = k
first_month yearly k = 12 * (k / 12)

abbrev pub past_month : Frequency → ℕ → ℕ
past_month daily k = k + 1
past_month weekly k = k + 1
past_month monthly k = k + 1
past_month yearly k = 12 * (k / 12) + 12

-- the place of day d among the days of its period that pass a test: from the period's first day on, or from its end
abbrev pub place_in : Frequency → Bool → (ℕ → Bool) → ℕ → ℕ
place_in f minus test d =
    let first = month_first (first_month f (local_date d).month) in
    let past = month_first (past_month f (local_date d).month) in
    cond minus (count_from test (past - d) d) (count_from test (d + 1 - first) first)

-- "An ordinal weekday is counted within the month, from its end if negative."
unfoldable pub entry_has : ℕ → Entry → Bool
entry_has d (plain w) = eqb (local_weekday d) w
entry_has d (ordinal n w) =
    let is_day : ℕ → Bool = λ e. eqb (local_weekday e) w in
    is_day d && eqb n.number (place_in monthly n.minus is_day d)

-- "`-1` as month day is the last day."
unfoldable pub month_day_has : ℕ → Signed → Bool
month_day_has d n = eqb n.number (cond n.minus (from_end d) (local_date d).day)

-- T-01: "`BYMONTH=` 1 to 12"
unfoldable pub month_has : ℕ → ℕ → Bool
month_has d n = eqb (month_number d) n

-- "A weekday list matches if any entry does."
abbrev pub allows : {A : Type 0} → (A → Bool) → Option (List A) → Bool
allows test None = true
allows test (Some xs) = any_of test xs

both_allow : Given → ℕ → Bool
both_allow g d = allows (entry_has d) g.days && allows (month_day_has d) g.month_days

weekday_or : Option (List Entry) → ℕ → ℕ → Bool
weekday_or None first d = eqb (local_weekday d) (local_weekday first)
weekday_or (Some es) first d = any_of (entry_has d) es

month_day_or : Option (List Entry) → Option (List Signed) → ℕ → ℕ → Bool
month_day_or None None first d = eqb (local_date d).day (local_date first).day
month_day_or None (Some ns) first d = any_of (month_day_has d) ns
month_day_or (Some es) None first d = any_of (entry_has d) es
month_day_or (Some es) (Some ns) first d = any_of (entry_has d) es && any_of (month_day_has d) ns

unfoldable pub month_or : Option (List Entry) → Option (List Signed) → Option (List ℕ) → ℕ → ℕ → Bool
month_or None None None first d = month_has d (month_number first)
month_or None None (Some ms) first d = any_of (month_has d) ms
month_or None (Some ns) ms first d = allows (month_has d) ms
month_or (Some es) ns ms first d = allows (month_has d) ms

-- "DAILY: the day, if BYDAY and BYMONTHDAY, where given, both allow it. WEEKLY: the days of BYDAY, by default the start's weekday.
-- MONTHLY: days that satisfy each of BYDAY and BYMONTHDAY that is given; with neither, the start's day of month."
-- T-01: "For the other frequencies BYMONTH only limits. For YEARLY .. BYMONTHDAY and BYDAY (both must allow a day, if both are given) pick days
-- in the months of BYMONTH, or in all months without it; with neither, the start's day in the BYMONTH months, or in the start's month."
unfoldable pub day_set : Frequency → Given → ℕ → ℕ → Bool
unfolding both_allow weekday_or month_day_or month_or
day_set daily g first d = allows (month_has d) g.months && both_allow g d
day_set weekly g first d = allows (month_has d) g.months && weekday_or g.days first d
day_set monthly g first d = allows (month_has d) g.months && month_day_or g.days g.month_days first d
day_set yearly g first d = month_or g.days g.month_days g.months first d && month_day_or g.days g.month_days first d

-- "BYSETPOS picks from the period's whole rising day set, days before the start included; a place that does not exist picks nothing."
-- It goes with MONTHLY, and by T-01 with YEARLY: "it picks from the year's set".
unfoldable pub position_has : Frequency → Given → ℕ → ℕ → Signed → Bool
position_has f g first d n = eqb n.number (place_in f n.minus (day_set f g first) d)

-- "Periods are days, Monday weeks or months", and calendar years.
abbrev pub period_of : Frequency → ℕ → ℕ
period_of daily d = d
period_of weekly d = local_week d
period_of monthly d = (local_date d).month
period_of yearly d = (local_date d).month / 12

-- an occurrence's day: "Period 0 holds the start; every INTERVAL-th from there counts", and "drop what is before the start"
unfoldable pub occurs_on : Frequency → Given → ℕ → ℕ → Bool
occurs_on f g first d =
    leb first d
    && (eqb ((period_of f d - period_of f first) % unwrap_or g.interval 1) 0
    && (day_set f g first d && allows (position_has f g first d) g.positions))

-- COUNT and UNTIL left out; "the time of day is the start's"
unfoldable pub occurs_at : Given → ℕ → ℕ → Bool
occurs_at g start m = occurs_on (unwrap_or g.frequency daily) g (start / day_minutes) (m / day_minutes) && eqb (m % day_minutes) (start % day_minutes)

abbrev pub within_count : Option ℕ → (ℕ → Bool) → Bool
within_count None test = true
within_count (Some c) test = test c

abbrev pub within_until : Option Time → ℕ → Bool
within_until None m = true
within_until (Some t) m = leb m (minute_of t)

-- "Then COUNT keeps the first so many; UNTIL keeps those not later than it."
unfoldable pub rule_holds : Given → ℕ → ℕ → Bool
rule_holds g start m =
    let f = unwrap_or g.frequency daily in
    let first = start / day_minutes in
    elim (occurs_at g start m) [
      | true ↦ within_until g.until m && within_count g.count (λ c. leb (count_from (occurs_on f g first) (m / day_minutes + 1 - first) first) c)
      | false ↦ false
    ]

-- the local minutes of a line, and those that it excepts
unfoldable pub line_holds : ℕ → Form → Bool
line_holds m (zone s) = false
line_holds m (change t s) = false
line_holds m (cron mi h d mo w) = cron_holds mi h d mo w m
line_holds m (rule t ps) = rule_holds (given_of ps) (minute_of t) m
line_holds m (extra t) = eqb (minute_of t) m
line_holds m (except t) = false

unfoldable pub line_excepts : ℕ → Form → Bool
line_excepts m (zone s) = false
line_excepts m (change t s) = false
line_excepts m (cron mi h d mo w) = false
line_excepts m (rule t ps) = false
line_excepts m (extra t) = false
line_excepts m (except t) = eqb (minute_of t) m

-- "All local minutes of C, R and D lines, less those of X lines (wherever they stand). X does not give a COUNT back."
unfoldable pub sheet_held : List Form → ℕ → Bool
sheet_held fs m = in_window m && (any_of (line_holds m) fs && not (any_of (line_excepts m) fs))

-- the zone that the lines Z and T write
unfoldable pub offset_of_lines : List Form → ℕ
offset_of_lines [] = 0
offset_of_lines (zone s ∷ fs) = offset_of_shift s
offset_of_lines (change t s ∷ fs) = offset_of_lines fs
offset_of_lines (cron mi h d mo w ∷ fs) = offset_of_lines fs
offset_of_lines (rule t ps ∷ fs) = offset_of_lines fs
offset_of_lines (extra t ∷ fs) = offset_of_lines fs
offset_of_lines (except t ∷ fs) = offset_of_lines fs

unfoldable pub changes_of_lines : List Form → List Transition
changes_of_lines [] = []
changes_of_lines (zone s ∷ fs) = changes_of_lines fs
changes_of_lines (change t s ∷ fs) = record { at = instant_of_time t; offset = offset_of_shift s } ∷ changes_of_lines fs
changes_of_lines (cron mi h d mo w ∷ fs) = changes_of_lines fs
changes_of_lines (rule t ps ∷ fs) = changes_of_lines fs
changes_of_lines (extra t ∷ fs) = changes_of_lines fs
changes_of_lines (except t ∷ fs) = changes_of_lines fs

unfoldable pub sheet_zone : List Form → Offsets
sheet_zone fs = record { first = offset_of_lines fs; changes = changes_of_lines fs }

-- "Then each local minute becomes one instant; equal instants are one": i is an instant of the sheet where a local minute that it holds becomes i
pub record SheetInstant (fs : List Form) (i : ℕ) : Type 0 where
  pub minute : ℕ
  pub held : sheet_held fs minute ≡ true
  pub becomes : instant_of (sheet_zone fs) minute ≡ i
