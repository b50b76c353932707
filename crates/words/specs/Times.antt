-- A time and an offset that were read, as numbers.
use Rattle.std.specs.Prelude.{cond, ℕ, Option, Some, None}
use Rattle.sheet.specs.Form.{Time, Shift}
use Rattle.sheet.specs.Range.{time_in_range, minute_of, shift_in_range, offset_of_shift}
use Rattle.words.specs.Answers.{time_as, shift_as}
use Rattle.words.specs.declared.cursor.Shift.{Shift as ReadShift}
use Rattle.words.specs.declared.cursor.Time.{Time as ReadTime}

abbrev pub minute_as : Time → Option ℕ
minute_as t = cond (time_in_range t) (Some (minute_of t)) None

-- the local minute of a time, or that it is out of range
unfoldable pub local_minute : ReadTime → Option ℕ
local_minute t = minute_as (time_as t)

abbrev pub offset_as : Shift → Option ℕ
offset_as s = cond (shift_in_range s) (Some (offset_of_shift s)) None

-- an offset moved up by a day, or that it is out of range
unfoldable pub offset_from : ReadShift → Option ℕ
offset_from s = offset_as (shift_as s)
