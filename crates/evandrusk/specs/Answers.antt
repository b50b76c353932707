-- "Refusal numbers": 0 is taken; 5 is a date, a day or an ISO date out of range, with zeros for every other number.
use Rattle.std.specs.Prelude.{ℕ, ℤ, pos, Option, Some, None}
use Rattle.calendar.specs.Calendar.{day_of_date, date_of_day}
use Rattle.calendar.specs.Iso.{day_of_iso, iso_of_day}
use Rattle.calendar.specs.declared.date.Date.{Date}
use Rattle.calendar.specs.declared.iso.IsoDate.{IsoDate}
use Rattle.signed.specs.Bias.{natural_of, whole_of, bias_day, unbias_day}
use Rattle.evandrusk.specs.declared.answers.EvkDate.{EvkDate}
use Rattle.evandrusk.specs.declared.answers.EvkDay.{EvkDay}
use Rattle.evandrusk.specs.declared.answers.EvkIso.{EvkIso}

abbrev pub day_answer : Option ℕ → EvkDay
day_answer (Some n) = record { number = 0; day = unbias_day n }
day_answer None = record { number = 5; day = pos 0 }

abbrev pub date_answer : Option Date → EvkDate
date_answer (Some d) = record { number = 0; year = whole_of d.year; month = whole_of d.month; day = whole_of d.day }
date_answer None = record { number = 5; year = pos 0; month = pos 0; day = pos 0 }

abbrev pub iso_answer : Option IsoDate → EvkIso
iso_answer (Some d) = record { number = 0; year = whole_of d.year; week = whole_of d.week; weekday = whole_of d.weekday }
iso_answer None = record { number = 5; year = pos 0; week = pos 0; weekday = pos 0 }

-- the four functions, for any three numbers or any one
abbrev pub day_of_date_answer : ℤ → ℤ → ℤ → EvkDay
day_of_date_answer y m d = day_answer (day_of_date (natural_of y) (natural_of m) (natural_of d))

abbrev pub date_of_day_answer : ℤ → EvkDate
date_of_day_answer z = date_answer (date_of_day (bias_day z))

abbrev pub iso_of_day_answer : ℤ → EvkIso
iso_of_day_answer z = iso_answer (iso_of_day (bias_day z))

abbrev pub day_of_iso_answer : ℤ → ℤ → ℤ → EvkDay
day_of_iso_answer y w d = day_answer (day_of_iso (natural_of y) (natural_of w) (natural_of d))
