-- What one more entry or number does to the masks of those before it.
use Rattle.std.specs.Prelude.{Bool, true, false, cond, ℕ, ◌+◌, ◌-◌, ◌*◌, ◌%◌}
use Rattle.calendar.specs.Below.{within}
use Rattle.masks.specs.Masks.{with_bit}
use Rattle.sheet.specs.Form.{Entry as SheetEntry, plain, ordinal}
use Rattle.sheet.specs.Words.{Signed}
use Rattle.entries.specs.declared.weekdays.Weekdays.{Weekdays}
use Rattle.entries.specs.declared.entry.Entry.{Entry}
use Rattle.entries.specs.declared.numbers.Numbers.{Numbers}

unfoldable pub with_plain : Weekdays → ℕ → Weekdays
with_plain m w = record m { plain = with_bit m.plain w }

-- the bit of a weekday in the five bytes of ordinals, the first ordinal's the highest
abbrev pub ordinal_bit : ℕ → ℕ → ℕ
ordinal_bit n w = 8 * (5 - n) + w % 8

unfoldable pub with_ordinal : Weekdays → Bool → ℕ → ℕ → Weekdays
with_ordinal m minus n w =
    cond (within 1 5 n)
    (cond minus (record m { ordinal = true; back = with_bit m.back (ordinal_bit n w) })
    (record m { ordinal = true; front = with_bit m.front (ordinal_bit n w) }))
    (record m { good = false; ordinal = true })

abbrev pub with_entry : Weekdays → Entry → Weekdays
with_entry m (Entry.Plain w) = with_plain m w
with_entry m (Entry.Ordinal n w) = with_ordinal m n.minus n.number w

-- the sheet's entry
abbrev pub take_entry : Weekdays → SheetEntry → Weekdays
take_entry m (plain w) = with_plain m w
take_entry m (ordinal n w) = with_ordinal m n.minus n.number w

unfoldable pub with_number : ℕ → Numbers → Bool → ℕ → Numbers
with_number most m minus n =
    cond (within 1 most n) (cond minus (record m { back = with_bit m.back n }) (record m { front = with_bit m.front n })) (record m { good = false })

-- the sheet's number, and its month, which has no sign
abbrev pub take_number : ℕ → Numbers → Signed → Numbers
take_number most m n = with_number most m n.minus n.number

abbrev pub take_month : Numbers → ℕ → Numbers
take_month m n = with_number 12 m false n
