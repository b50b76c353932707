-- The frame of a rule, or why it has none, from its parts in numbers and the local minute of its start.
use Rattle.std.specs.Prelude.{Bool, true, false, cond, not, ◌&&◌, ◌||◌, ℕ, ◌/◌, ◌^◌, leb, eqb, Option, Some, None, Result, Ok, Err}
use Rattle.std.specs.Option.{is_some}
use Rattle.calendar.specs.Window.{local_date, local_weekday, day_minutes, window_last}
use Rattle.framed.specs.Framed.{nth_last}
use Rattle.entries.specs.declared.numbers.Numbers.{Numbers}
use Rattle.frames.specs.Kinds.{daily_number, weekly_number, monthly_number, yearly_number}
use Rattle.frames.specs.Rule.{rule_day, rule_occurs}
use Rattle.frames.specs.declared.Ends.{Ends}
use Rattle.frames.specs.declared.Rule.{Rule}
use Rattle.parts.specs.declared.given.Parts.{Parts}
use Rattle.sheet.specs.Meaning.{month_number}
use Rattle.zone.specs.Zone.{in_window}
use Rattle.rules.specs.declared.Unruled.{Unruled}

-- "with neither BYDAY nor BYMONTHDAY"
abbrev pub neither_in : Parts → Bool
neither_in p = not (is_some p.weekdays) && not (is_some p.days)

abbrev pub placed_in : Parts → Bool
placed_in p = not (is_some p.positions && neither_in p)

-- some entry of BYDAY has an ordinal
abbrev pub ordinal_in : Parts → Bool
ordinal_in p = elim p.weekdays [ None ↦ false | Some w ↦ w.ordinal ]

-- "ordinal outside MONTHLY, BYMONTHDAY with WEEKLY, BYSETPOS outside MONTHLY or with neither BYDAY nor BYMONTHDAY"; another number is no frequency.
-- T-01: "In YEARLY, ordinals .. need BYMONTH, else refusal 6. BYSETPOS is allowed with YEARLY too, given BYDAY or BYMONTHDAY"
unfoldable pub by_frequency_in : Parts → Bool
by_frequency_in p =
    cond (eqb p.frequency daily_number) (not (ordinal_in p) && not (is_some p.positions))
    (cond (eqb p.frequency weekly_number) (not (ordinal_in p) && (not (is_some p.positions) && not (is_some p.days)))
    (cond (eqb p.frequency monthly_number) (placed_in p)
    (eqb p.frequency yearly_number && (not (ordinal_in p && not (is_some p.months)) && placed_in p))))

-- 6: "parts that don't go together: FREQ missing, a part twice, COUNT with UNTIL"
unfoldable pub together_in : Parts → Bool
together_in p = not p.twice && (not (is_some p.count && is_some p.until) && by_frequency_in p)

-- "Defaults of rule 2 are filled in": "WEEKLY: the days of BYDAY, by default the start's weekday"
unfoldable pub weekdays_in : Parts → ℕ → ℕ
weekdays_in p first =
    elim p.weekdays [ None ↦ cond (eqb p.frequency weekly_number) (2 ^ local_weekday first) 0 | Some w ↦ w.plain ]

-- "MONTHLY: days that satisfy each of BYDAY and BYMONTHDAY that is given; with neither, the start's day of month", and so YEARLY
abbrev pub own_day_in : Parts → Bool
own_day_in p = (eqb p.frequency monthly_number || eqb p.frequency yearly_number) && neither_in p

abbrev pub ends_in : Option Numbers → Ends
ends_in None = record { front = 0; back = 0 }
ends_in (Some n) = record { front = n.front; back = n.back }

abbrev pub ordinals_in : Parts → Ends
ordinals_in p = elim p.weekdays [ None ↦ record { front = 0; back = 0 } | Some w ↦ record { front = w.front; back = w.back } ]

unfoldable pub days_in : Parts → ℕ → Ends
days_in p first = cond (own_day_in p) (record { front = 2 ^ (local_date first).day; back = 0 }) (ends_in p.days)

-- T-01: "with neither, the start's day in the BYMONTH months, or in the start's month"
unfoldable pub months_in : Parts → ℕ → ℕ
months_in p first =
    elim p.months [ None ↦ cond (eqb p.frequency yearly_number && neither_in p) (2 ^ month_number first) 0 | Some ms ↦ ms.front ]

-- the frame with COUNT and UNTIL left out
unfoldable pub endless : Parts → ℕ → Rule
endless p start =
    record {
      frequency = p.frequency;
      interval = p.interval;
      start = start;
      last = window_last;
      weekdays = weekdays_in p (start / day_minutes);
      days = days_in p (start / day_minutes);
      ordinals = ordinals_in p;
      positions = ends_in p.positions;
      months = months_in p (start / day_minutes);
    }

-- 8: "start not an occurrence of its rule (COUNT and UNTIL left out), or UNTIL before start"; one outside the window is no occurrence
unfoldable pub start_held_in : Parts → Rule → Bool
start_held_in p f = (in_window f.start && rule_occurs f f.start) && elim p.until [ None ↦ true | Some u ↦ leb f.start u ]

-- "the COUNT-th occurrence's local minute, or 52,595,999 if .. fewer occurrences exist"
unfoldable pub count_last : Rule → ℕ → ℕ
count_last f c = nth_last (rule_day f) f.start c

-- "*Last* is UNTIL, or the COUNT-th occurrence's local minute, or 52,595,999 if there is neither"
unfoldable pub last_in : Parts → Rule → ℕ
last_in p f = elim p.until [ None ↦ elim p.count [ None ↦ window_last | Some c ↦ count_last f c ] | Some u ↦ u ]

abbrev pub ending_at : ℕ → Rule → Rule
ending_at last f = record f { last = last }

-- "in it the lowest of 2 to 8 that applies": 6, then 8
unfoldable pub ruled_from : Parts → ℕ → Result Rule Unruled
ruled_from p start =
    let f = endless p start in
    cond (not (together_in p)) (Err Unruled.Apart) (cond (not (start_held_in p f)) (Err Unruled.NoStart) (Ok (ending_at (last_in p f) f)))
