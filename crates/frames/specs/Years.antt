-- The day set of a yearly rule's year, counted month by month: twelve counts in one number, five bits each, January's the lowest.
use Rattle.std.specs.Prelude.{Bool, true, cond, not, ◌&&◌, ◌||◌, List, ◌≡◌, ℕ, zero, suc, ◌+◌, ◌-◌, ◌*◌, ◌/◌, ◌%◌, ◌^◌, ◌≤◌, leb, ltb, eqb, set}
use Rattle.calendar.specs.Below.{count_from}
use Rattle.calendar.specs.Window.{month_first, month_days}
use Rattle.frames.specs.Kinds.{rule_kind, daily_number, is_kind, is_daily, is_yearly}
use Rattle.frames.specs.Numbers.{rule_of}
use Rattle.frames.specs.Rule.{no_limit, in_set}
use Rattle.frames.specs.declared.Ends.{Ends}
use Rattle.frames.specs.declared.years.Reached.{Reached}
use Rattle.frames.specs.declared.Rule.{Rule}

-- the days of month k in a rule's day set
unfoldable pub day_count : Rule → ℕ → ℕ
day_count f k = count_from (in_set f) (month_days k) (month_first k)

-- the n numbers from the i-th on, five bits each
unfoldable pub packed : (ℕ → ℕ) → ℕ → ℕ → ℕ
packed g zero i = 0
packed g (suc n) i = g i + 32 * packed g n (suc i)

-- the sum of the n lowest
unfoldable pub packed_sum : ℕ → ℕ → ℕ
packed_sum zero counts = 0
packed_sum (suc n) counts = counts % 32 + packed_sum n (counts / 32)

-- a yearly rule
abbrev pub yearly : List ℕ → Bool
yearly l = is_kind rule_kind l && is_yearly (rule_of l)

-- how many of the n months from i on a mask of places can reach, where month i has g i days; and from the end, of those from `first` on
unfoldable pub reach : (ℕ → ℕ) → ℕ → ℕ → ℕ → ℕ
reach g mask zero i = 0
reach g mask (suc n) i = cond (ltb mask 2) 0 (suc (reach g (mask / 2 ^ g i) n (suc i)))

unfoldable pub reach_back : (ℕ → ℕ) → ℕ → ℕ → ℕ → ℕ
reach_back g mask zero first = 0
reach_back g mask (suc n) first = cond (ltb mask 2) 0 (suc (reach_back g (mask / 2 ^ g (first + n)) n first))

-- the first a and the last b of the twelve months from `first` on
abbrev pub outer : (ℕ → ℕ) → ℕ → ℕ → ℕ → ℕ → ℕ
outer g first a b i = cond (ltb i (first + a) || leb (first + 12) (i + b)) (g i) 0

-- the counts of a year, as far as positions can reach: others are 0
unfoldable pub reached : Rule → ℕ → ℕ
reached f y =
    let g = day_count f in
    let first = 12 * y in
    packed (outer g first (reach g f.positions.front 12 first) (reach_back g f.positions.back 12 first)) 12 first

-- a frame whose positions count over a year, and the counts of year 2000 + y; of any other frame none is wanted
unfoldable pub year_placed : List ℕ → Bool
year_placed l = yearly l && not (no_limit (rule_of l).positions)

unfoldable pub year_counts : List ℕ → ℕ → ℕ
year_counts l y = cond (year_placed l) (reached (rule_of l) y) 0

-- of the positions those that are left for a month of c days, with so many in the other months before it, or after it
abbrev pub left_of : ℕ → ℕ → ℕ → ℕ
left_of mask others c = mask / 2 ^ others % 2 ^ (c + 1)

-- the counts of a yearly rule have no day of month k
unfoldable pub none_counted : Rule → ℕ → ℕ → Bool
none_counted f counts k = is_yearly f && eqb (counts / 32 ^ (k % 12) % 32) 0

-- the positions for month k by these counts: of a yearly rule its places in the year, less the days of the months before it, or after it
unfoldable pub positions_in : Rule → ℕ → ℕ → Ends
positions_in f counts k =
    let m = k % 12 in
    let here = counts / 32 ^ m % 32 in
    cond (is_yearly f)
    (record {
      front = left_of f.positions.front (packed_sum m counts) here;
      back = left_of f.positions.back (packed_sum (11 - m) (counts / 32 ^ (m + 1))) here;
    })
    f.positions

-- a frame's whole day set in every month: that of a daily rule without positions
pub record Bare (l : List ℕ) : Type 0 where
  pub kind : is_kind rule_kind l ≡ true
  pub daily : is_daily (rule_of l) ≡ true
  pub free : no_limit (rule_of l).positions ≡ true

unfoldable pub bared : List ℕ → List ℕ
bared l = set (set (set l 1 daily_number) 10 0) 11 0

-- the months that were counted from January on, and their counts
pub record FromFront (g : ℕ → ℕ) (mask first : ℕ) (r : Reached) : Type 0 where
  pub months : r.months ≡ reach g mask 12 first
  pub most : r.months ≤ 12
  pub counts : r.counts ≡ packed (outer g first r.months 0) 12 first
