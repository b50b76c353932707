-- Bytes of a line: digits, numbers, words, and pieces between separators.
use Rattle.std.specs.Prelude.{Bool, true, false, cond, ◌&&◌, List, [], ◌∷◌, ℕ, suc, ◌+◌, ◌-◌, ◌*◌, eqb, length, Option, None, Some}
use Rattle.calendar.specs.Below.{within, all_of}
use Rattle.lines.specs.Bytes.{byte}

-- "compared byte for byte"
unfoldable pub same_bytes : List ℕ → List ℕ → Bool
same_bytes [] [] = true
same_bytes [] (y ∷ ys) = false
same_bytes (x ∷ xs) [] = false
same_bytes (x ∷ xs) (y ∷ ys) = eqb x y && same_bytes xs ys

-- the place of a word in a list of words; past its end where it is none of them
unfoldable pub word_in : List (List ℕ) → List ℕ → ℕ
word_in [] s = 0
word_in (w ∷ ws) s = cond (same_bytes w s) 0 (suc (word_in ws s))

abbrev pub is_digit : ℕ → Bool
is_digit c = within (byte "0") (byte "9") c

-- the number that decimal digits write
unfoldable pub decimal : ℕ → List ℕ → ℕ
decimal so_far [] = so_far
decimal so_far (c ∷ cs) = decimal (10 * so_far + (c - byte "0")) cs

-- "Numbers have 1 to 4 decimal digits; leading zeros are allowed."
unfoldable pub number_of : List ℕ → Option ℕ
number_of s = cond (within 1 4 (length s) && all_of is_digit s) (Some (decimal 0 s)) None

-- a number with a sign or none
pub record Signed : Type 0 where
  pub minus : Bool
  pub number : ℕ

signed_by : Bool → Option ℕ → Option Signed
signed_by m None = None
signed_by m (Some n) = Some (record { minus = m; number = n })

-- "A sign before an ordinal, month day or position is `+` or `-` or absent."
unfoldable pub signed_of : List ℕ → Option Signed
unfolding signed_by
signed_of [] = None
signed_of (c ∷ cs) =
    cond (eqb c (byte "+")) (signed_by false (number_of cs)) (cond (eqb c (byte "-")) (signed_by true (number_of cs)) (signed_by false (number_of (c ∷ cs))))

-- the pieces of a text between separators: one more than there are separators
joined : ℕ → List (List ℕ) → List (List ℕ)
joined c [] = (c ∷ []) ∷ []
joined c (piece ∷ more) = (c ∷ piece) ∷ more

unfoldable pub pieces : ℕ → List ℕ → List (List ℕ)
unfolding joined
pieces separator [] = [] ∷ []
pieces separator (c ∷ cs) = elim (eqb c separator) [ true ↦ [] ∷ pieces separator cs | false ↦ joined c (pieces separator cs) ]

-- every piece is of the form, or the whole is of none
unfoldable pub cons_of : {A : Type 0} → Option A → Option (List A) → Option (List A)
cons_of None xs = None
cons_of (Some x) None = None
cons_of (Some x) (Some xs) = Some (x ∷ xs)

unfoldable pub each_of : {A : Type 0} → (List ℕ → Option A) → List (List ℕ) → Option (List A)
unfolding cons_of
each_of form [] = Some []
each_of form (s ∷ ss) = cons_of (form s) (each_of form ss)
