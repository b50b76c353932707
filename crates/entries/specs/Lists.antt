-- The lists of a rule at a place: entries with their weekdays, signed numbers, and months.
use Rattle.std.specs.Prelude.{true, false, List, ℕ, ◌+◌, length, Option, None, Some}
use Rattle.calendar.specs.Below.{any_of, all_of}
use Rattle.framed.specs.Framed.{ends_of, is_plain, ordinals_of, month_mask}
use Rattle.lines.specs.Bytes.{byte}
use Rattle.masks.specs.Masks.{mask_from}
use Rattle.sheet.specs.Form.{Entry, plain, ordinal, weekday_words}
use Rattle.sheet.specs.Parts.{is_ordinal as has_ordinal}
use Rattle.sheet.specs.Range.{entry_in_range, day_number_in_range, month_in_range}
use Rattle.sheet.specs.Words.{Signed}
use Rattle.words.specs.Answers.{made_read, number_read, signed_read, one_at}
use Rattle.words.specs.Lists.{list_at}
use Rattle.words.specs.Reads.{cursor, number_at, signed_at}
use Rattle.words.specs.declared.cursor.Cursor.{Cursor}
use Rattle.entries.specs.declared.entry.Entry.{Entry as ReadEntry}
use Rattle.entries.specs.Gathered.{ended}
use Rattle.entries.specs.declared.numbers.Numbers.{Numbers}
use Rattle.entries.specs.declared.weekdays.Weekdays.{Weekdays}

-- a weekday, "each with an optional signed ordinal"
ordinal_read : List ℕ → Option (Signed × ℕ) → Option (Entry × ℕ)
ordinal_read s None = None
ordinal_read s (Some r) = made_read (ordinal r.0) (one_at weekday_words s r.1)

plain_or : Option (Entry × ℕ) → Option (ℕ × ℕ) → Option (Entry × ℕ)
plain_or other None = other
plain_or other (Some r) = Some (plain r.0, r.1)

unfoldable pub entry_read : List ℕ → ℕ → Option (Entry × ℕ)
unfolding ordinal_read plain_or
entry_read s at = plain_or (ordinal_read s (signed_read (signed_at s at))) (one_at weekday_words s at)

abbrev pub entry_as : Option (Entry × ℕ) → Option (ReadEntry × Cursor)
entry_as None = None
entry_as (Some (plain w, e)) = Some (ReadEntry.Plain w, cursor e)
entry_as (Some (ordinal n w, e)) = Some (ReadEntry.Ordinal (record { minus = n.minus; number = n.number }) w, cursor e)

-- "a comma list"
unfoldable pub days_read : List ℕ → ℕ → Option (List Entry × ℕ)
days_read s at = list_at (entry_read s) (byte ",") s (length s + 1) at

unfoldable pub numbers_read : List ℕ → ℕ → Option (List Signed × ℕ)
numbers_read s at = list_at (λ (e : ℕ). signed_read (signed_at s e)) (byte ",") s (length s + 1) at

unfoldable pub months_read : List ℕ → ℕ → Option (List ℕ × ℕ)
months_read s at = list_at (λ (e : ℕ). number_read (number_at s e)) (byte ",") s (length s + 1) at

-- the entries of BYDAY, and the numbers of BYMONTHDAY, BYSETPOS or BYMONTH, as masks; no month is from the end
unfoldable pub weekdays_given : List Entry → Weekdays
weekdays_given es =
    record {
      good = all_of entry_in_range es;
      ordinal = any_of has_ordinal es;
      plain = mask_from (λ w. any_of (is_plain w) es) 7 0;
      front = ordinals_of false es;
      back = ordinals_of true es;
    }

unfoldable pub numbers_given : List Signed → Numbers
numbers_given ns = record { good = all_of day_number_in_range ns; front = (ends_of ns).front; back = (ends_of ns).back }

unfoldable pub months_given : List ℕ → Numbers
months_given ms = record { good = all_of month_in_range ms; front = month_mask ms; back = 0 }

abbrev pub days_as : Option (List Entry × ℕ) → Option (Weekdays × Cursor)
days_as o = ended (made_read weekdays_given o)

abbrev pub numbers_as : Option (List Signed × ℕ) → Option (Numbers × Cursor)
numbers_as o = ended (made_read numbers_given o)

abbrev pub months_as : Option (List ℕ × ℕ) → Option (Numbers × Cursor)
months_as o = ended (made_read months_given o)
