-- An element of a cron field at a place.
use Rattle.std.specs.Prelude.{cond, List, ℕ, ◌+◌, eqb, get_or, Option, None, Some}
use Rattle.lines.specs.Bytes.{byte}
use Rattle.sheet.specs.Form.{Element as Form, one, range}
use Rattle.words.specs.Reads.{number_at}
use Rattle.words.specs.declared.cursor.Cursor.{Cursor}
use Rattle.fields.specs.declared.element.Element.{Element}

-- "two numbers with `-`": the second
abbrev pub range_from : ℕ → Option (ℕ × Cursor) → Option (Element × Cursor)
range_from first (Some r) = Some (Element.Range first r.0, r.1)
range_from first None = None

abbrev pub element_from : List ℕ → Option (ℕ × Cursor) → Option (Element × Cursor)
element_from s (Some r) = cond (eqb (get_or s r.1.at 0) (byte "-")) (range_from r.0 (number_at s (r.1.at + 1))) (Some (Element.One r.0, r.1))
element_from s None = None

-- "An element is a number or two numbers with `-`."
unfoldable pub element_at : List ℕ → ℕ → Option (Element × Cursor)
element_at s at = element_from s (number_at s at)

-- the form of a sheet's element
abbrev pub form_of : Element → Form
form_of (Element.One n) = one n
form_of (Element.Range a b) = range a b

-- what was read, with the place after it
abbrev pub element_read : Option (Element × Cursor) → Option (Form × ℕ)
element_read (Some r) = Some (form_of r.0, r.1.at)
element_read None = None
