-- The ranges of a line's numbers and dates, and what times and offsets are as numbers.
use Rattle.std.specs.Prelude.{Bool, true, cond, ◌&&◌, ℕ, ◌+◌, ◌-◌, ◌*◌, leb, eqb}
use Rattle.calendar.specs.Below.{within, all_of}
use Rattle.calendar.specs.Calendar.{leap_year, month_length, day_of}
use Rattle.calendar.specs.Window.{day_minutes, window_first}
use Rattle.zone.specs.Zone.{bias}
use Rattle.sheet.specs.Form.{Time, Shift, Element, one, range, Field, star, list, Entry, plain, ordinal, Part, freq, interval, count, until, by_day, by_month_day, by_set_pos, by_month, Form, zone, change, cron, rule, extra, except}
use Rattle.sheet.specs.Words.{Signed}

-- "year 2000 to 2099", and a date and a time of day that exist; T-02: "Seconds other than 00 are refusal 5."
unfoldable pub time_in_range : Time → Bool
time_in_range t =
    within 2000 2099 t.year
    && (within 1 (month_length (leap_year t.year) t.month) t.day && (leb t.hour 23 && (leb t.minute 59 && eqb t.second 0)))

-- "Local minutes count from 2000-01-01 00:00"
unfoldable pub minute_of : Time → ℕ
minute_of t = day_minutes * (day_of t.year t.month t.day - window_first) + (60 * t.hour + t.minute)

-- an instant is moved up by a day
unfoldable pub instant_of_time : Time → ℕ
instant_of_time t = minute_of t + bias

unfoldable pub shift_minutes : Shift → ℕ
shift_minutes s = 60 * s.hours + s.minutes

-- "minutes at most 59, from −720 minutes to +840 minutes in all; `-0000` is out of range"
unfoldable pub shift_in_range : Shift → Bool
shift_in_range s =
    leb s.minutes 59
    && cond s.minus (within 1 720 (shift_minutes s)) (leb (shift_minutes s) 840)

-- and so is an offset
unfoldable pub offset_of_shift : Shift → ℕ
offset_of_shift s = cond s.minus (bias - shift_minutes s) (bias + shift_minutes s)

-- "both ends counted, the first not above the second"
unfoldable pub element_in_range : ℕ → ℕ → Element → Bool
element_in_range low high (one n) = within low high n
element_in_range low high (range a b) = within low high a && (within low high b && leb a b)

-- "Each of the five cron fields has a lowest and a highest number."
unfoldable pub field_in_range : ℕ → ℕ → Field → Bool
field_in_range low high star = true
field_in_range low high (list es) = all_of (element_in_range low high) es

-- "signed ordinal −5 to 5 without 0"; "−31 to 31 without 0"; T-01: "`BYMONTH=` 1 to 12"
unfoldable pub entry_in_range : Entry → Bool
entry_in_range (plain w) = true
entry_in_range (ordinal n w) = within 1 5 n.number

abbrev pub day_number_in_range : Signed → Bool
day_number_in_range n = within 1 31 n.number

abbrev pub month_in_range : ℕ → Bool
month_in_range n = within 1 12 n

unfoldable pub part_in_range : Part → Bool
part_in_range (freq f) = true
part_in_range (interval n) = within 1 999 n
part_in_range (count n) = within 1 9999 n
part_in_range (until t) = time_in_range t
part_in_range (by_day es) = all_of entry_in_range es
part_in_range (by_month_day ns) = all_of day_number_in_range ns
part_in_range (by_set_pos ns) = all_of day_number_in_range ns
part_in_range (by_month ns) = all_of month_in_range ns

-- "minute 0 to 59, hour 0 to 23, day of month 1 to 31, month 1 to 12, day of week 0 to 6"
unfoldable pub in_range : Form → Bool
in_range (zone s) = shift_in_range s
in_range (change t s) = time_in_range t && shift_in_range s
in_range (cron m h d mo w) =
    field_in_range 0 59 m && (field_in_range 0 23 h && (field_in_range 1 31 d && (field_in_range 1 12 mo && field_in_range 0 6 w)))
in_range (rule t ps) = time_in_range t && all_of part_in_range ps
in_range (extra t) = time_in_range t
in_range (except t) = time_in_range t
