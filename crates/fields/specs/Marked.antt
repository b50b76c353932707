-- The numbers of a field marked in a mask, one element after the other.
use Rattle.std.specs.Prelude.{false, cond, ◌&&◌, List, ℕ, ◌+◌, ◌-◌, ◌^◌, leb, eqb, Option, None, Some}
use Rattle.std.specs.Int.Bits.{bit_or}
use Rattle.lines.specs.Bytes.{byte}
use Rattle.sheet.specs.Form.{Element as Form, one, range}
use Rattle.words.specs.Lists.{over_all, list_at}
use Rattle.words.specs.Reads.{cursor}
use Rattle.words.specs.declared.cursor.Cursor.{Cursor}
use Rattle.fields.specs.Elements.{element_at, element_read}
use Rattle.fields.specs.declared.marks.Marks.{Marks}

-- the numbers first to last, or that one is out of range
unfoldable pub marks_with : ℕ → ℕ → Marks → ℕ → ℕ → Marks
marks_with low high m first last =
    cond (leb low first && (leb last high && leb first last)) (record { mask = bit_or m.mask (2 ^ (last + 1) - 2 ^ first); good = m.good })
    (record { mask = m.mask; good = false })

unfoldable pub marks_of : ℕ → ℕ → Marks → Form → Marks
marks_of low high m (one n) = marks_with low high m n n
marks_of low high m (range a b) = marks_with low high m a b

abbrev pub marks_over : ℕ → ℕ → Marks → List Form → Marks
marks_over low high = over_all (marks_of low high)

-- the elements from a place on
unfoldable pub elements_at : List ℕ → ℕ → ℕ → Option (List Form × ℕ)
elements_at s left at = list_at (λ (e : ℕ). element_read (element_at s e)) (byte ",") s left at

abbrev pub listed_as : ℕ → ℕ → Marks → Option (List Form × ℕ) → Option (Marks × Cursor)
listed_as low high m None = None
listed_as low high m (Some r) = Some (marks_over low high m r.0, cursor r.1)

-- what was marked by the place after it, which is 0 where there is no list
abbrev pub ended_as : Marks → ℕ → Option (Marks × Cursor)
ended_as m end = cond (eqb end 0) None (Some (m, cursor end))
