-- What stands in a line at a place, and the place after it. Each reader takes as much as it can.
use Rattle.std.specs.Prelude.{Bool, true, false, cond, ◌&&◌, ◌||◌, List, [], ◌∷◌, ℕ, suc, ◌+◌, ◌-◌, eqb, length, get_or, take, drop, Option, Some, None}
use Rattle.calendar.specs.Below.{within}
use Rattle.lines.specs.Bytes.{byte}
use Rattle.sheet.specs.Form.{clock_digits}
use Rattle.sheet.specs.Words.{is_digit, decimal}
use Rattle.words.specs.declared.cursor.Cursor.{Cursor}
use Rattle.words.specs.declared.cursor.Shift.{Shift}
use Rattle.words.specs.declared.cursor.Signed.{Signed}
use Rattle.words.specs.declared.cursor.Time.{Time}

-- how many digits a text begins with
unfoldable pub digits_in : List ℕ → ℕ
digits_in [] = 0
digits_in (c ∷ cs) = elim (is_digit c) [ true ↦ suc (digits_in cs) | false ↦ 0 ]

-- the number that n bytes from a place on write
unfoldable pub decimal_at : List ℕ → ℕ → ℕ → ℕ
decimal_at s at n = decimal 0 (take n (drop at s))

abbrev pub cursor : ℕ → Cursor
cursor at = record { at = at }

-- "Numbers have 1 to 4 decimal digits; leading zeros are allowed."
unfoldable pub number_at : List ℕ → ℕ → Option (ℕ × Cursor)
number_at s at =
    let n = digits_in (drop at s) in
    cond (within 1 4 n) (Some (decimal_at s at n, cursor (at + n))) None

-- "`+` or `-` or absent"
unfoldable pub sign_at : List ℕ → ℕ → Bool × Cursor
sign_at s at =
    cond (eqb (get_or s at 0) (byte "-")) (true, cursor (at + 1))
    (false, cursor (cond (eqb (get_or s at 0) (byte "+")) (at + 1) at))

abbrev pub with_sign : Bool → Option (ℕ × Cursor) → Option (Signed × Cursor)
with_sign minus (Some r) = Some (record { minus = minus; number = r.0 }, r.1)
with_sign minus None = None

unfoldable pub signed_at : List ℕ → ℕ → Option (Signed × Cursor)
signed_at s at = with_sign (sign_at s at).0 (number_at s (sign_at s at).1.at)

-- how many bytes the time that stands there uses, 13 or 15
unfoldable pub time_bytes : List ℕ → ℕ → Option ℕ
time_bytes s at =
    let n = digits_in (drop (at + 9) s) in
    cond (eqb (digits_in (drop at s)) 8 && (eqb (get_or s (at + 8) 0) (byte "T") && clock_digits n)) (Some (9 + n)) None

abbrev pub time_of : List ℕ → ℕ → Option ℕ → Option (Time × Cursor)
time_of s at None = None
time_of s at (Some used) =
    Some (
      record {
        year = decimal_at s at 4;
        month = decimal_at s (at + 4) 2;
        day = decimal_at s (at + 6) 2;
        hour = decimal_at s (at + 9) 2;
        minute = decimal_at s (at + 11) 2;
        second = decimal_at s (at + 13) (used - 13);
      },
      cursor (at + used),
    )

-- "A *time* is `YYYYMMDDTHHMM`", T-02: or "`YYYYMMDDTHHMMSS`"
unfoldable pub time_at : List ℕ → ℕ → Option (Time × Cursor)
time_at s at = time_of s at (time_bytes s at)

-- "An *offset* is a sign and `HHMM`."
unfoldable pub shift_at : List ℕ → ℕ → Option (Shift × Cursor)
shift_at s at =
    cond ((eqb (get_or s at 0) (byte "+") || eqb (get_or s at 0) (byte "-")) && eqb (digits_in (drop (at + 1) s)) 4)
    (Some
    (record { minus = eqb (get_or s at 0) (byte "-"); hours = decimal_at s (at + 1) 2; minutes = decimal_at s (at + 3) 2 }, cursor (at + 5)))
    None

-- whether a text begins with a word
unfoldable pub starts_with : List ℕ → List ℕ → Bool
starts_with [] s = true
starts_with (x ∷ w) [] = false
starts_with (x ∷ w) (y ∷ s) = eqb x y && starts_with w s

-- "compared byte for byte"
unfoldable pub word_at : List ℕ → List ℕ → ℕ → Option Cursor
word_at w s at = cond (starts_with w (drop at s)) (Some (cursor (at + length w))) None
