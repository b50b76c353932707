-- "Upper-case hex digits .. Big-endian": numbers and bytes as digits, and digits as bytes and numbers.
use Rattle.std.specs.Prelude.{Bool, true, false, cond, ◌&&◌, List, [], ◌∷◌, ◌++◌, ℕ, zero, suc, ◌+◌, ◌-◌, ◌*◌, ◌/◌, ◌%◌, ◌^◌, leb, ltb, eqb, length, take, drop, Option, None, Some}
use Rattle.calendar.specs.Below.{within, all_of}
use Rattle.lines.specs.Bytes.{byte}

-- "Upper-case hex digits."
unfoldable pub hex_digit : ℕ → ℕ
hex_digit n = cond (ltb n 10) (byte "0" + n) (byte "A" + (n - 10))

-- a number of k bytes, "big-endian"
unfoldable pub hex_of : ℕ → ℕ → List ℕ
hex_of zero v = []
hex_of (suc k) v = hex_of k (v / 256) ++ (hex_digit (v / 16 % 16) ∷ hex_digit (v % 16) ∷ [])

-- the value of a hex digit; 16 for any other byte
unfoldable pub digit_value : ℕ → ℕ
digit_value c = cond (within (byte "0") (byte "9") c) (c - byte "0") (cond (within (byte "A") (byte "F") c) (c - byte "A" + 10) 16)

abbrev pub is_digit : ℕ → Bool
is_digit c = ltb (digit_value c) 16

-- the value of a hex digit, if it is one
abbrev pub digit_of : ℕ → Option ℕ
digit_of c = cond (is_digit c) (Some (digit_value c)) None

-- the bytes that a line's digits spell, two digits each
unfoldable pub line_bytes : List ℕ → Option (List ℕ)
line_bytes [] = Some []
line_bytes (a ∷ []) = None
line_bytes (a ∷ b ∷ cs) =
    elim (is_digit a && is_digit b) [
      | true ↦ elim (line_bytes cs) [ None ↦ None | Some bytes ↦ Some ((16 * digit_value a + digit_value b) ∷ bytes) ]
      | false ↦ None
    ]

-- whether a line spells bytes: an even number of digits and nothing else
unfoldable pub spells : List ℕ → Bool
spells line = eqb (length line % 2) 0 && all_of is_digit line

-- the number that bytes spell, "big-endian"
unfoldable pub bytes_number : ℕ → List ℕ → ℕ
bytes_number so_far [] = so_far
bytes_number so_far (b ∷ bs) = bytes_number (256 * so_far + b) bs

-- the k bytes from a place on, as a number
abbrev pub field : List ℕ → ℕ → ℕ → ℕ
field bytes at k = bytes_number 0 (take k (drop at bytes))

-- a digit's value by its bits: the low four, and nine more for a letter; some value below 16 for any other byte
unfoldable pub digit_bits : ℕ → ℕ
digit_bits c = (c % 16 + 9 * (c / 64)) % 16

unfoldable pub digits_number : ℕ → List ℕ → ℕ
digits_number so_far [] = so_far
digits_number so_far (c ∷ cs) = digits_number (16 * so_far + digit_bits c) cs

-- the same number as `field`, read from the line's digits; 0 for more than eight bytes and past the line's end
unfoldable pub number_at : List ℕ → ℕ → ℕ → ℕ
number_at line at k =
    cond (leb k 8 && leb (at + k) (length line / 2)) (digits_number 0 (take (2 * k) (drop (2 * at) line))) 0

-- a field: its bytes, and its number, which may fit them
abbrev pub Field : Type 0
Field = ℕ × ℕ

abbrev pub fits : Field → Bool
fits f = ltb f.1 (256 ^ f.0)

-- bytes put into a buffer from a place on, every other byte as it was; nothing where they do not fit
unfoldable pub put_at : List ℕ → ℕ → List ℕ → List ℕ
put_at buf at s = cond (leb (at + length s) (length buf)) (take at buf ++ (s ++ drop (at + length s) buf)) buf

-- the place after bytes that are put; the same place where they do not fit
abbrev pub past_put : List ℕ → ℕ → List ℕ → ℕ
past_put buf at s = cond (leb (at + length s) (length buf)) (at + length s) at
