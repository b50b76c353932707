-- A part of a rule at a place: its name, then its value by the name.
use Rattle.std.specs.Prelude.{cond, List, [], ◌∷◌, ℕ, eqb, Option, None, Some}
use Rattle.entries.specs.Gathered.{ended}
use Rattle.entries.specs.Lists.{days_read, numbers_read, months_read, weekdays_given, numbers_given, months_given}
use Rattle.framed.specs.Framed.{frequency_number}
use Rattle.lines.specs.Bytes.{bytes}
use Rattle.sheet.specs.Form.{Frequency, daily, weekly, monthly, yearly, frequency_words, Part, freq, interval, count, until, by_day, by_month_day, by_set_pos, by_month}
use Rattle.words.specs.Answers.{made_read, number_read, time_read, one_at}
use Rattle.words.specs.Reads.{number_at, time_at}
use Rattle.words.specs.Times.{minute_as}
use Rattle.words.specs.declared.cursor.Cursor.{Cursor}
use Rattle.parts.specs.declared.part.Part.{Part as ReadPart}

-- "`FREQ=` `INTERVAL=` `COUNT=` `UNTIL=` `BYDAY=` `BYMONTHDAY=` `BYSETPOS=`", and T-01's "`BYMONTH=`"
unfoldable pub part_heads : List (List ℕ)
part_heads = bytes "FREQ=" ∷ bytes "INTERVAL=" ∷ bytes "COUNT=" ∷ bytes "UNTIL=" ∷ bytes "BYDAY=" ∷ bytes "BYMONTHDAY=" ∷ bytes "BYSETPOS=" ∷ bytes "BYMONTH=" ∷ []

abbrev pub frequency_of : ℕ → Frequency
frequency_of k = cond (eqb k 0) daily (cond (eqb k 1) weekly (cond (eqb k 2) monthly yearly))

-- the value of a part by the place of its name
unfoldable pub value_read : ℕ → List ℕ → ℕ → Option (Part × ℕ)
value_read k s at =
    cond (eqb k 0) (made_read (λ (f : ℕ). freq (frequency_of f)) (one_at frequency_words s at))
    (cond (eqb k 1) (made_read interval (number_read (number_at s at)))
    (cond (eqb k 2) (made_read count (number_read (number_at s at)))
    (cond (eqb k 3) (made_read until (time_read (time_at s at)))
    (cond (eqb k 4) (made_read by_day (days_read s at))
    (cond (eqb k 5) (made_read by_month_day (numbers_read s at)) (cond (eqb k 6) (made_read by_set_pos (numbers_read s at)) (made_read by_month (months_read s at))))))))

value_of : List ℕ → Option (ℕ × ℕ) → Option (Part × ℕ)
value_of s None = None
value_of s (Some r) = value_read r.0 s r.1

unfoldable pub part_read : List ℕ → ℕ → Option (Part × ℕ)
unfolding value_of
part_read s at = value_of s (one_at part_heads s at)

-- a part in numbers
unfoldable pub part_as : Part → ReadPart
part_as (freq f) = ReadPart.Frequency (frequency_number f)
part_as (interval n) = ReadPart.Interval n
part_as (count n) = ReadPart.Count n
part_as (until t) = ReadPart.Until (minute_as t)
part_as (by_day es) = ReadPart.Days (weekdays_given es)
part_as (by_month_day ns) = ReadPart.MonthDays (numbers_given ns)
part_as (by_set_pos ns) = ReadPart.Positions (numbers_given ns)
part_as (by_month ms) = ReadPart.Months (months_given ms)

abbrev pub parted_as : Option (Part × ℕ) → Option (ReadPart × Cursor)
parted_as o = ended (made_read part_as o)
