-- What was read: the sheet's value and the place after it, or nothing.
use Rattle.std.specs.Prelude.{cond, List, [], ◌∷◌, ℕ, suc, ◌+◌, eqb, length, get_or, drop, Option, None, Some}
use Rattle.sheet.specs.Form.{Shift, Time}
use Rattle.sheet.specs.Words.{Signed}
use Rattle.words.specs.Reads.{starts_with, cursor}
use Rattle.words.specs.declared.cursor.Cursor.{Cursor}
use Rattle.words.specs.declared.cursor.Shift.{Shift as ReadShift}
use Rattle.words.specs.declared.cursor.Signed.{Signed as Read}
use Rattle.words.specs.declared.cursor.Time.{Time as ReadTime}

-- a value made of one that was read
abbrev pub made_read : {A B : Type 0} → (A → B) → Option (A × ℕ) → Option (B × ℕ)
made_read f None = None
made_read f (Some r) = Some (f r.0, r.1)

abbrev pub number_read : Option (ℕ × Cursor) → Option (ℕ × ℕ)
number_read (Some r) = Some (r.0, r.1.at)
number_read None = None

abbrev pub signed_read : Option (Read × Cursor) → Option (Signed × ℕ)
signed_read (Some r) = Some (record { minus = r.0.minus; number = r.0.number }, r.1.at)
signed_read None = None

abbrev pub shift_as : ReadShift → Shift
shift_as s = record { minus = s.minus; hours = s.hours; minutes = s.minutes }

abbrev pub shift_read : Option (ReadShift × Cursor) → Option (Shift × ℕ)
shift_read (Some r) = Some (shift_as r.0, r.1.at)
shift_read None = None

abbrev pub time_as : ReadTime → Time
time_as t = record { year = t.year; month = t.month; day = t.day; hour = t.hour; minute = t.minute; second = t.second }

abbrev pub time_read : Option (ReadTime × Cursor) → Option (Time × ℕ)
time_read (Some r) = Some (time_as r.0, r.1.at)
time_read None = None

-- the first of some words that stands there, by its place among them
unfoldable pub one_at : List (List ℕ) → List ℕ → ℕ → Option (ℕ × ℕ)
one_at [] s at = None
one_at (w ∷ ws) s at = cond (starts_with w (drop at s)) (Some (0, at + length w)) (made_read suc (one_at ws s at))

abbrev pub named_as : Option (ℕ × ℕ) → Option (ℕ × Cursor)
named_as None = None
named_as (Some r) = Some (r.0, cursor r.1)

-- what was found before, else a word with its place
abbrev pub or_word : Option (ℕ × Cursor) → List ℕ → ℕ → List ℕ → ℕ → Option (ℕ × Cursor)
or_word (Some found) w place s at = Some found
or_word None w place s at = named_as (cond (starts_with w (drop at s)) (Some (place, at + length w)) None)

-- a value, a separator, and what is read after it
abbrev pub then_at : {A B : Type 0} → ℕ → List ℕ → (A → ℕ → Option (B × ℕ)) → Option (A × ℕ) → Option (B × ℕ)
then_at separator s more None = None
then_at separator s more (Some r) = cond (eqb (get_or s r.1 0) separator) (more r.0 (r.1 + 1)) None
