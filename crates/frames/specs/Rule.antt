-- "Rules", read from the fields of a frame; nothing is counted but places within a month or a year.
use Rattle.std.specs.Prelude.{Bool, true, false, cond, ◌&&◌, ◌||◌, ℕ, ◌+◌, ◌-◌, ◌*◌, ◌/◌, ◌%◌, ◌^◌, leb, eqb}
use Rattle.calendar.specs.Below.{count_from}
use Rattle.calendar.specs.Window.{month_first, local_date, local_weekday, local_week, from_end, day_minutes}
use Rattle.masks.specs.Masks.{bit}
use Rattle.frames.specs.Kinds.{is_daily, is_weekly, is_yearly}
use Rattle.frames.specs.declared.Ends.{Ends}
use Rattle.frames.specs.declared.Rule.{Rule}

-- "A zero month-day pair, weekday group or position pair means no such limit."
abbrev pub no_limit : Ends → Bool
no_limit e = eqb e.front 0 && eqb e.back 0

-- a day of the month, from the front and from the end: "`-1` as month day is the last day"
unfoldable pub month_day_allowed : Rule → ℕ → ℕ → Bool
month_day_allowed f day back = no_limit f.days || (bit f.days.front day || bit f.days.back back)

-- the how-manieth of its weekday a day is that has this place in its month
abbrev pub ordinal_of : ℕ → ℕ
ordinal_of place = (place - 1) / 7 + 1

-- the weekday mask of ordinal n
abbrev pub ordinal_mask : ℕ → ℕ → ℕ
ordinal_mask group n = group / 256 ^ (5 - n) % 256

-- "An ordinal weekday is counted within the month, from its end if negative."
abbrev pub ordinal_allowed : Ends → ℕ → ℕ → ℕ → Bool
ordinal_allowed e day back weekday =
    bit (ordinal_mask e.front (ordinal_of day)) weekday || bit (ordinal_mask e.back (ordinal_of back)) weekday

-- "A weekday list matches if any entry does."
unfoldable pub weekday_allowed : Rule → ℕ → ℕ → ℕ → Bool
weekday_allowed f day back weekday =
    eqb f.weekdays 0 && no_limit f.ordinals
    || (bit f.weekdays weekday || ordinal_allowed f.ordinals day back weekday)

-- T-01: "a month mask of 2 bytes at its end, zero for no limit"; January 1
abbrev pub month_allowed : ℕ → ℕ → Bool
month_allowed months month = eqb months 0 || bit months month

-- the period's day set: days that satisfy each limit that is given
unfoldable pub in_set : Rule → ℕ → Bool
in_set f d =
    month_allowed f.months ((local_date d).month % 12 + 1)
    && (month_day_allowed f (local_date d).day (from_end d) && weekday_allowed f (local_date d).day (from_end d) (local_weekday d))

-- the first day of the period that holds month k, and the first after it, where a rule has positions: its month, or T-01's "calendar year"
abbrev pub set_first : Rule → ℕ → ℕ
set_first f k = month_first (cond (is_yearly f) (12 * (k / 12)) k)

abbrev pub set_past : Rule → ℕ → ℕ
set_past f k = month_first (cond (is_yearly f) (12 * (k / 12) + 12) (k + 1))

-- "BYSETPOS picks from the period's whole rising day set, days before the start included; a place that does not exist picks nothing."
-- Only monthly and yearly frames have positions.
unfoldable pub placed : Rule → ℕ → Bool
placed f d =
    let first = set_first f (local_date d).month in
    let past = set_past f (local_date d).month in
    elim (no_limit f.positions) [
      | true ↦ true
      | false ↦ bit f.positions.front (count_from (in_set f) (d + 1 - first) first)
          || bit f.positions.back (count_from (in_set f) (past - d) d)
    ]

-- "Periods are days, Monday weeks or months"; T-01: "For YEARLY the period is the calendar year".
unfoldable pub period : Rule → ℕ → ℕ
period f d =
    cond (is_daily f) d (cond (is_weekly f) (local_week d) (cond (is_yearly f) ((local_date d).month / 12) (local_date d).month))

-- "Period 0 holds the start; every INTERVAL-th from there counts."
unfoldable pub counts : Rule → ℕ → Bool
counts f d = eqb ((period f d - period f (f.start / day_minutes)) % f.interval) 0

-- "Drop what is before the start."
unfoldable pub rule_day : Rule → ℕ → Bool
rule_day f d = leb (f.start / day_minutes) d && (counts f d && (in_set f d && placed f d))

-- "The time of day is the start's."
unfoldable pub rule_occurs : Rule → ℕ → Bool
rule_occurs f m = rule_day f (m / day_minutes) && eqb (m % day_minutes) (f.start % day_minutes)

-- and no later than *last*
unfoldable pub rule_held : Rule → ℕ → Bool
rule_held f m = rule_occurs f m && leb m f.last
