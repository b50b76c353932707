-- The parts of a rule together, in numbers.
use Rattle.std.specs.Prelude.{Bool, true, cond, ◌&&◌, List, ℕ, ◌+◌, eqb, length, Option, None, Some, unwrap_or}
use Rattle.std.specs.Option.{is_some, option_map}
use Rattle.calendar.specs.Below.{within, any_of, all_of}
use Rattle.entries.specs.Lists.{weekdays_given, numbers_given, months_given}
use Rattle.framed.specs.Framed.{frequency_number}
use Rattle.lines.specs.Bytes.{byte}
use Rattle.masks.specs.Masks.{bit, mask_from, with_bit}
use Rattle.sheet.specs.Form.{Time, Entry, Frequency, Part}
use Rattle.sheet.specs.Parts.{given_of, name_of, given_twice}
use Rattle.sheet.specs.Range.{part_in_range}
use Rattle.sheet.specs.Words.{Signed}
use Rattle.words.specs.Answers.{made_read}
use Rattle.words.specs.Lists.{list_at}
use Rattle.words.specs.Times.{minute_as}
use Rattle.words.specs.declared.cursor.Cursor.{Cursor}
use Rattle.entries.specs.Gathered.{ended}
use Rattle.parts.specs.Values.{part_as, part_read}
use Rattle.entries.specs.declared.weekdays.Weekdays.{Weekdays}
use Rattle.parts.specs.declared.given.Parts.{Parts}
use Rattle.entries.specs.declared.numbers.Numbers.{Numbers}
use Rattle.parts.specs.declared.part.Part.{Part as ReadPart}

abbrev pub name_in : ReadPart → ℕ
name_in (ReadPart.Frequency n) = 0
name_in (ReadPart.Interval n) = 1
name_in (ReadPart.Count n) = 2
name_in (ReadPart.Until m) = 3
name_in (ReadPart.Days d) = 4
name_in (ReadPart.MonthDays d) = 5
name_in (ReadPart.Positions d) = 6
name_in (ReadPart.Months d) = 7

abbrev pub good_in : ReadPart → Bool
good_in (ReadPart.Frequency n) = true
good_in (ReadPart.Interval n) = within 1 999 n
good_in (ReadPart.Count n) = within 1 9999 n
good_in (ReadPart.Until m) = is_some m
good_in (ReadPart.Days d) = d.good
good_in (ReadPart.MonthDays d) = d.good
good_in (ReadPart.Positions d) = d.good
good_in (ReadPart.Months d) = d.good

-- the value of a part in its place
unfoldable pub with_value : Parts → ReadPart → Parts
with_value m (ReadPart.Frequency n) = record m { frequency = n }
with_value m (ReadPart.Interval n) = record m { interval = n }
with_value m (ReadPart.Count n) = record m { count = Some n }
with_value m (ReadPart.Until n) = record m { until = Some (unwrap_or n 0) }
with_value m (ReadPart.Days d) = record m { weekdays = Some d }
with_value m (ReadPart.MonthDays d) = record m { days = Some d }
with_value m (ReadPart.Positions d) = record m { positions = Some d }
with_value m (ReadPart.Months d) = record m { months = Some d }

-- with one part more: "a part twice"; of one given twice the first counts
unfoldable pub taken : Parts → ReadPart → Parts
taken m x =
    let good = m.good && good_in x in
    cond (bit m.names (name_in x)) (record m { twice = true; good = good })
    (with_value (record m { names = with_bit m.names (name_in x); good = good }) x)

-- the sheet's part
abbrev pub take_part : Parts → Part → Parts
take_part m p = taken m (part_as p)

-- each part in numbers, where it is given
abbrev pub frequency_from : Option Frequency → ℕ
frequency_from None = 0
frequency_from (Some f) = frequency_number f

abbrev pub until_from : Option Time → Option ℕ
until_from None = None
until_from (Some t) = Some (unwrap_or (minute_as t) 0)

abbrev pub days_from : Option (List Entry) → Option Weekdays
days_from = option_map weekdays_given

abbrev pub numbers_from : Option (List Signed) → Option Numbers
numbers_from = option_map numbers_given

abbrev pub months_from : Option (List ℕ) → Option Numbers
months_from = option_map months_given

-- all parts of a rule in numbers
unfoldable pub parts_given : List Part → Parts
parts_given ps =
    let g = given_of ps in
    record {
      names = mask_from (λ k. any_of (λ p. eqb (name_of p) k) ps) 8 0;
      twice = given_twice ps;
      good = all_of part_in_range ps;
      frequency = frequency_from g.frequency;
      interval = unwrap_or g.interval 1;
      count = g.count;
      until = until_from g.until;
      weekdays = days_from g.days;
      days = numbers_from g.month_days;
      positions = numbers_from g.positions;
      months = months_from g.months;
    }

-- "rule parts separated by `;`"
unfoldable pub parts_read : List ℕ → ℕ → Option (List Part × ℕ)
parts_read s at = list_at (part_read s) (byte ";") s (length s + 1) at

abbrev pub parts_as : Option (List Part × ℕ) → Option (Parts × Cursor)
parts_as o = ended (made_read parts_given o)
