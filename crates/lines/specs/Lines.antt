-- "Each line .. and then LF (0A)."
use Rattle.std.specs.Prelude.{true, false, cond, List, [], ◌∷◌, ℕ, ◌+◌, ◌-◌, eqb, length, get_or}
use Rattle.calendar.specs.Below.{least_from}

-- the lines of a text, each without its LF, and what stands after the last LF
pub record Lines : Type 0 where
  pub whole : List (List ℕ)
  pub tail : List ℕ

-- a byte before the first line
abbrev pub before : ℕ → List (List ℕ) → List ℕ → Lines
before c [] tail = record { whole = []; tail = c ∷ tail }
before c (line ∷ more) tail = record { whole = (c ∷ line) ∷ more; tail = tail }

unfoldable pub lines_of : List ℕ → Lines
lines_of [] = record { whole = []; tail = [] }
lines_of (c ∷ cs) =
    let rest = lines_of cs in
    elim (eqb c 10) [ true ↦ record { whole = [] ∷ rest.whole; tail = rest.tail } | false ↦ before c rest.whole rest.tail ]

-- the place of the first LF from a place on, or the text's end
unfoldable pub line_end : List ℕ → ℕ → ℕ
line_end text at = least_from (λ i. eqb (get_or text i 0) 10) (length text - at) at

-- whether a line has begun and not ended after a byte
abbrev pub begun_by : ℕ → ℕ
begun_by c = cond (eqb c 10) 0 1

-- "(a tail without LF is a line)"
unfoldable pub lines_in : List ℕ → ℕ
lines_in text = let r = lines_of text in length r.whole + cond (eqb (length r.tail) 0) 0 1
