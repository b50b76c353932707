-- The five fields of a cron line at a place: their form, then whether all numbers are in range, then the frame.
use Rattle.std.specs.Prelude.{cond, List, ℕ, ◌+◌, eqb, get_or, Option, None, Some}
use Rattle.framed.specs.Framed.{cron_frame}
use Rattle.frames.specs.declared.Cron.{Cron}
use Rattle.lines.specs.Bytes.{byte}
use Rattle.sheet.specs.Form.{Field as Form, Form as Line, zone, change, cron, rule, extra, except}
use Rattle.sheet.specs.Range.{in_range}
use Rattle.words.specs.Answers.{made_read, then_at}
use Rattle.words.specs.Reads.{cursor}
use Rattle.words.specs.declared.cursor.Cursor.{Cursor}
use Rattle.fields.specs.Fields.{field_read}
use Rattle.fields.specs.declared.field.Field.{Field}

-- a field and the space after it
abbrev pub space_after : List ℕ → Option (Option Field × Cursor) → Option (Option Field × Cursor)
space_after s (Some r) = cond (eqb (get_or s r.1.at 0) (byte " ")) (Some (r.0, cursor (r.1.at + 1))) None
space_after s None = None

-- the frame of five fields, if all are in range
abbrev pub frame_as : Option Field → Option Field → Option Field → Option Field → Option Field → Option Cron
frame_as (Some m) (Some h) (Some d) (Some mo) (Some w) =
    Some (
    record {
      minutes = m.mask;
      hours = h.mask;
      days = d.mask;
      months = mo.mask;
      weekdays = w.mask;
      flags = cond d.restricted 1 0 + cond w.restricted 2 0 + cond mo.restricted 4 0;
    }
    )
frame_as m h d mo w = None

-- "five cron fields, one space between"
unfoldable pub cron_read : List ℕ → ℕ → Option (Line × ℕ)
cron_read s at =
    let after : (Form → ℕ → Option (Line × ℕ)) → ℕ → Option (Line × ℕ) = λ more e. then_at (byte " ") s more (field_read s e) in
    after (λ m. after (λ h. after (λ d. after (λ mo e. made_read (cron m h d mo) (field_read s e))))) at

-- the frame, or, once all five are of the form, that a number is out of range
unfoldable pub five_as : Option (Line × ℕ) → Option (Option Cron × Cursor)
five_as None = None
five_as (Some (zone s, e)) = None
five_as (Some (change t s, e)) = None
five_as (Some (cron m h d mo w, e)) = Some (cond (in_range (cron m h d mo w)) (Some (cron_frame m h d mo w)) None, cursor e)
five_as (Some (rule t ps, e)) = None
five_as (Some (extra t, e)) = None
five_as (Some (except t, e)) = None
