-- A cron field at a place: its form, then whether its numbers are in range, then its numbers as a mask.
use Rattle.std.specs.Prelude.{cond, List, ℕ, ◌+◌, ◌-◌, eqb, length, get_or, Option, None, Some}
use Rattle.lines.specs.Bytes.{byte}
use Rattle.masks.specs.Masks.{mask_from}
use Rattle.sheet.specs.Form.{Element, Field as Form, star, list}
use Rattle.sheet.specs.Meaning.{field_has, restricted}
use Rattle.sheet.specs.Range.{field_in_range}
use Rattle.words.specs.Reads.{cursor}
use Rattle.words.specs.declared.cursor.Cursor.{Cursor}
use Rattle.fields.specs.Marked.{elements_at}
use Rattle.fields.specs.declared.field.Field.{Field}

abbrev pub list_of : Option (List Element × ℕ) → Option (Form × ℕ)
list_of None = None
list_of (Some r) = Some (list r.0, r.1)

-- "A field is `*` or an element list."
unfoldable pub field_read : List ℕ → ℕ → Option (Form × ℕ)
field_read s at = cond (eqb (get_or s at 0) (byte "*")) (Some (star, at + 1)) (list_of (elements_at s (length s + 1) at))

-- "Bit n of a mask stands for n"; none where a number is out of range
abbrev pub numbers_as : ℕ → ℕ → Form → Option Field
numbers_as low high f =
    cond (field_in_range low high f) (Some (record { mask = mask_from (field_has f) (high + 1 - low) low; restricted = restricted f })) None

unfoldable pub field_as : ℕ → ℕ → Option (Form × ℕ) → Option (Option Field × Cursor)
field_as low high None = None
field_as low high (Some r) = Some (numbers_as low high r.0, cursor r.1)

unfoldable pub field_at : ℕ → ℕ → List ℕ → ℕ → Option (Option Field × Cursor)
field_at low high s at = field_as low high (field_read s at)
