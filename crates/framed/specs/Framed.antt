-- The frame of a sheet line: "one frame for each sheet line".
use Rattle.std.specs.Prelude.{Bool, true, false, cond, not, ◌&&◌, List, ℕ, ◌+◌, ◌-◌, ◌*◌, ◌/◌, ◌%◌, ◌^◌, ltb, eqb, Option, None, Some, unwrap_or}
use Rattle.calendar.specs.Below.{any_of}
use Rattle.calendar.specs.Window.{local_date, local_weekday, day_minutes, window_days, window_last}
use Rattle.days.specs.Search.{nth_from}
use Rattle.frames.specs.declared.Cron.{Cron}
use Rattle.frames.specs.declared.Ends.{Ends}
use Rattle.frames.specs.declared.Rule.{Rule}
use Rattle.masks.specs.Masks.{mask_from}
use Rattle.plan.specs.declared.Frame.{Frame}
use Rattle.sheet.specs.Form.{Time, Field, Entry, plain, ordinal, Frequency, daily, weekly, monthly, yearly, Form, zone, change, cron, rule, extra, except}
use Rattle.sheet.specs.Meaning.{field_has, restricted, month_number, occurs_on}
use Rattle.sheet.specs.Parts.{Given, given_of}
use Rattle.sheet.specs.Range.{minute_of, instant_of_time, offset_of_shift}
use Rattle.sheet.specs.Words.{Signed}

-- "flags 1 (bit 0 day of month restricted, bit 1 day of week restricted)"; T-04: "Flag bit 2 of frame 03 says that the month is restricted"
unfoldable pub cron_frame : Field → Field → Field → Field → Field → Cron
cron_frame m h d mo w =
    record {
      minutes = mask_from (field_has m) 60 0;
      hours = mask_from (field_has h) 24 0;
      days = mask_from (field_has d) 31 1;
      months = mask_from (field_has mo) 12 1;
      weekdays = mask_from (field_has w) 7 0;
      flags = cond (restricted d) 1 0 + cond (restricted w) 2 0 + cond (restricted mo) 4 0;
    }

-- numbers of a signed list, "bit n from the end for −n"
unfoldable pub ends_of : List Signed → Ends
ends_of ns =
    record {
      front = mask_from (λ n. any_of (λ s. not s.minus && eqb s.number n) ns) 31 1;
      back = mask_from (λ n. any_of (λ s. s.minus && eqb s.number n) ns) 31 1;
    }

abbrev pub is_plain : ℕ → Entry → Bool
is_plain w (plain v) = eqb v w
is_plain w (ordinal n v) = false

abbrev pub is_ordinal : Bool → ℕ → ℕ → Entry → Bool
is_ordinal minus k w (plain v) = false
is_ordinal minus k w (ordinal n v) = eqb v w && (eqb n.number k && cond minus n.minus (not n.minus))

-- "ordinals 1..5 one weekday mask each"
unfoldable pub ordinals_of : Bool → List Entry → ℕ
ordinals_of minus es =
    let mask : ℕ → ℕ = λ k. mask_from (λ w. any_of (is_ordinal minus k w) es) 7 0 in
    256 ^ 4 * mask 1 + (256 ^ 3 * mask 2 + (256 ^ 2 * mask 3 + (256 * mask 4 + mask 5)))

abbrev pub nothing : Ends
nothing = record { front = 0; back = 0 }

-- T-01: "a month mask of 2 bytes at its end, zero for no limit .., bits 1 to 12 only"
unfoldable pub month_mask : List ℕ → ℕ
month_mask ms = mask_from (λ n. any_of (eqb n) ms) 12 1

-- "Defaults of rule 2 are filled in": the start's weekday of a weekly rule, the start's day of month of a monthly one;
-- T-01: "The defaults of YEARLY are filled in": the start's day of month, and without BYMONTH the start's month
unfoldable pub weekdays_of : Frequency → Option (List Entry) → ℕ → ℕ
weekdays_of f (Some es) first = mask_from (λ w. any_of (is_plain w) es) 7 0
weekdays_of daily None first = 0
weekdays_of weekly None first = 2 ^ local_weekday first
weekdays_of monthly None first = 0
weekdays_of yearly None first = 0

abbrev pub days_or : Option (List Entry) → Option (List Signed) → ℕ → Ends
days_or es (Some ns) first = ends_of ns
days_or (Some es) None first = nothing
days_or None None first = record { front = 2 ^ (local_date first).day; back = 0 }

unfoldable pub days_of : Frequency → Option (List Entry) → Option (List Signed) → ℕ → Ends
days_of daily es None first = nothing
days_of daily es (Some ns) first = ends_of ns
days_of weekly es ns first = nothing
days_of monthly es ns first = days_or es ns first
days_of yearly es ns first = days_or es ns first

abbrev pub month_limit : Option (List ℕ) → ℕ
month_limit None = 0
month_limit (Some ms) = month_mask ms

unfoldable pub months_of : Frequency → Option (List Entry) → Option (List Signed) → Option (List ℕ) → ℕ → ℕ
months_of daily es ns ms first = month_limit ms
months_of weekly es ns ms first = month_limit ms
months_of monthly es ns ms first = month_limit ms
months_of yearly None None None first = 2 ^ month_number first
months_of yearly None None (Some ms) first = month_mask ms
months_of yearly None (Some ns) ms first = month_limit ms
months_of yearly (Some es) ns ms first = month_limit ms

-- "the COUNT-th occurrence's local minute, or 52,595,999 if .. fewer occurrences exist": day d at the start's time, and the COUNT-th of the days that pass a test
abbrev pub minute_on : ℕ → ℕ → ℕ
minute_on start d = cond (ltb d window_days) (day_minutes * d + start % day_minutes) window_last

abbrev pub nth_last : (ℕ → Bool) → ℕ → ℕ → ℕ
nth_last test start c = let first = start / day_minutes in minute_on start (nth_from test c (window_days - first) first)

-- "*Last* is UNTIL, or the COUNT-th occurrence's local minute, or 52,595,999 if there is neither or fewer occurrences exist."
abbrev pub last_by : (ℕ → ℕ) → Option Time → Option ℕ → ℕ
last_by nth (Some t) count = minute_of t
last_by nth None (Some c) = nth c
last_by nth None None = window_last

unfoldable pub last_of : Given → ℕ → ℕ
last_of g start = last_by (nth_last (occurs_on (unwrap_or g.frequency daily) g (start / day_minutes)) start) g.until g.count

abbrev pub frequency_number : Frequency → ℕ
frequency_number daily = 1
frequency_number weekly = 2
frequency_number monthly = 3
frequency_number yearly = 4

unfoldable pub rule_frame : Given → ℕ → Rule
rule_frame g start =
    let f = unwrap_or g.frequency daily in
    let first = start / day_minutes in
    record {
      frequency = frequency_number f;
      interval = unwrap_or g.interval 1;
      start = start;
      last = last_of g start;
      weekdays = weekdays_of f g.days first;
      days = days_of f g.days g.month_days first;
      ordinals = elim g.days [ None ↦ nothing | Some es ↦ record { front = ordinals_of false es; back = ordinals_of true es } ];
      positions = elim g.positions [ None ↦ nothing | Some ns ↦ ends_of ns ];
      months = months_of f g.days g.month_days g.months first;
    }

unfoldable pub frame_of : Form → Frame
frame_of (zone s) = Frame.Offset (offset_of_shift s)
frame_of (change t s) = Frame.Change (record { at = instant_of_time t; offset = offset_of_shift s })
frame_of (cron m h d mo w) = Frame.Cron (cron_frame m h d mo w)
frame_of (rule t ps) = Frame.Rule (rule_frame (given_of ps) (minute_of t))
frame_of (extra t) = Frame.Extra (minute_of t)
frame_of (except t) = Frame.Excepted (minute_of t)
