-- What a count of bytes that came says; where a read failed there is none.
use Rattle.std.specs.Prelude.{ℕ, ◌<◌, ◌≤◌, Option, None, Some}

abbrev pub Within : Option ℕ → ℕ → Type 0
Within (Some n) most = n ≤ most
Within None most = Unit {0}

-- a byte comes past a sheet only where the sheet is full
abbrev pub Past : Option ℕ → ℕ → Type 0
Past (Some k) n = 0 < k → 16448 ≤ n
Past None n = Unit {0}
