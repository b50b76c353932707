-- The parts of a rule together, and which don't go together.
use Rattle.std.specs.Prelude.{Bool, true, false, not, ◌&&◌, ◌||◌, List, [], ◌∷◌, ℕ, eqb, Option, None, Some}
use Rattle.calendar.specs.Below.{any_of}
use Rattle.sheet.specs.Form.{Time, Entry, plain, ordinal, Frequency, daily, weekly, monthly, yearly, Part, freq, interval, count, until, by_day, by_month_day, by_set_pos, by_month}
use Rattle.sheet.specs.Words.{Signed}

-- each part where it is given
pub record Given : Type 0 where
  pub frequency : Option Frequency
  pub interval : Option ℕ
  pub count : Option ℕ
  pub until : Option Time
  pub days : Option (List Entry)
  pub month_days : Option (List Signed)
  pub positions : Option (List Signed)
  pub months : Option (List ℕ)

with_part : Part → Given → Given
with_part (freq f) g = record { frequency = Some f; interval = g.interval; count = g.count; until = g.until; days = g.days; month_days = g.month_days; positions = g.positions; months = g.months }
with_part (interval n) g = record { frequency = g.frequency; interval = Some n; count = g.count; until = g.until; days = g.days; month_days = g.month_days; positions = g.positions; months = g.months }
with_part (count n) g = record { frequency = g.frequency; interval = g.interval; count = Some n; until = g.until; days = g.days; month_days = g.month_days; positions = g.positions; months = g.months }
with_part (until t) g = record { frequency = g.frequency; interval = g.interval; count = g.count; until = Some t; days = g.days; month_days = g.month_days; positions = g.positions; months = g.months }
with_part (by_day es) g = record { frequency = g.frequency; interval = g.interval; count = g.count; until = g.until; days = Some es; month_days = g.month_days; positions = g.positions; months = g.months }
with_part (by_month_day ns) g = record { frequency = g.frequency; interval = g.interval; count = g.count; until = g.until; days = g.days; month_days = Some ns; positions = g.positions; months = g.months }
with_part (by_set_pos ns) g = record { frequency = g.frequency; interval = g.interval; count = g.count; until = g.until; days = g.days; month_days = g.month_days; positions = Some ns; months = g.months }
with_part (by_month ns) g = record { frequency = g.frequency; interval = g.interval; count = g.count; until = g.until; days = g.days; month_days = g.month_days; positions = g.positions; months = Some ns }

unfoldable pub given_of : List Part → Given
unfolding with_part
given_of [] = record { frequency = None; interval = None; count = None; until = None; days = None; month_days = None; positions = None; months = None }
given_of (p ∷ ps) = with_part p (given_of ps)

abbrev pub is_given : {A : Type 0} → Option A → Bool
is_given None = false
is_given (Some a) = true

-- the place of a part's name in the document's list
abbrev pub name_of : Part → ℕ
name_of (freq f) = 0
name_of (interval n) = 1
name_of (count n) = 2
name_of (until t) = 3
name_of (by_day es) = 4
name_of (by_month_day ns) = 5
name_of (by_set_pos ns) = 6
name_of (by_month ns) = 7

-- "a part twice"
unfoldable pub given_twice : List Part → Bool
given_twice [] = false
given_twice (p ∷ ps) = any_of (λ q. eqb (name_of p) (name_of q)) ps || given_twice ps

abbrev pub is_ordinal : Entry → Bool
is_ordinal (plain w) = false
is_ordinal (ordinal n w) = true

abbrev pub ordinals : Option (List Entry) → Bool
ordinals None = false
ordinals (Some es) = any_of is_ordinal es

placeless : Given → Bool
placeless g = is_given g.positions && not (is_given g.days || is_given g.month_days)

-- "ordinal outside MONTHLY, BYMONTHDAY with WEEKLY, BYSETPOS outside MONTHLY or with neither BYDAY nor BYMONTHDAY";
-- T-01: "In YEARLY, ordinals are allowed, count within a month and need BYMONTH, else refusal 6. BYSETPOS is allowed with YEARLY too, given BYDAY or BYMONTHDAY"
unfoldable pub clashing : Frequency → Given → Bool
unfolding placeless
clashing daily g = ordinals g.days || is_given g.positions
clashing weekly g = ordinals g.days || (is_given g.positions || is_given g.month_days)
clashing monthly g = placeless g
clashing yearly g = ordinals g.days && not (is_given g.months) || placeless g

unfoldable pub by_frequency : Option Frequency → Given → Bool
by_frequency None g = false
by_frequency (Some f) g = not (clashing f g)

-- "FREQ missing, a part twice, COUNT with UNTIL"
unfoldable pub parts_together : List Part → Bool
parts_together ps =
    let g = given_of ps in
    not (given_twice ps) && (not (is_given g.count && is_given g.until) && by_frequency g.frequency g)
