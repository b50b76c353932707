-- What a frame says of a whole month: all of its day test but a rule's start and a daily or weekly interval.
use Rattle.std.specs.Prelude.{Bool, true, false, cond, not, ◌&&◌, ◌||◌, List, ℕ, ◌+◌, ◌-◌, ◌/◌, ◌%◌, ◌<◌, ◌≤◌, ltb, eqb}
use Rattle.calendar.specs.Window.{month_first, month_days, window_months}
use Rattle.masks.specs.Masks.{bit, mask_from, bits_from, bits_below}
use Rattle.frames.specs.Kinds.{cron_kind, rule_kind, is_kind, is_daily, is_weekly, is_yearly}
use Rattle.frames.specs.Cron.{joined, cron_day}
use Rattle.frames.specs.Numbers.{cron_of, rule_of, months_in, flags_in, rule_months_in}
use Rattle.frames.specs.Rule.{no_limit, month_allowed, ordinal_mask, in_set}
use Rattle.frames.specs.Years.{positions_in}
use Rattle.frames.specs.declared.Ends.{Ends}
use Rattle.frames.specs.declared.Rule.{Rule}

-- the interval of a rule that is neither daily nor weekly goes by the month, or by the month's year
unfoldable pub month_counts : Rule → ℕ → ℕ → Bool
month_counts f start k =
    cond (is_daily f || is_weekly f) true
    (eqb (cond (is_yearly f) (k / 12 - start / 12) (k - start) % f.interval) 0)

-- day n of month k
abbrev pub day_of : ℕ → ℕ → ℕ
day_of k n = month_first k + (n - 1)

-- the day set of a rule's month k
abbrev pub days_in : Rule → ℕ → ℕ
days_in f k = mask_from (λ n. in_set f (day_of k n)) (month_days k) 1

-- day n of a day set, where one of the positions is its place
abbrev pub place_wanted : Ends → ℕ → ℕ → Bool
place_wanted positions set n = bit set n && (bit positions.front (bits_below set (n + 1)) || bit positions.back (bits_from set n))

-- a rule with positions, of which month k has none: places count from 1
unfoldable pub none_placed : Rule → ℕ → ℕ → Bool
none_placed f counts k =
    let left = positions_in f counts k in
    not (no_limit f.positions) && (ltb left.front 2 && ltb left.back 2)

-- day n of a rule's month k; `counts` are those of the month's year
unfoldable pub rule_part : Rule → ℕ → ℕ → ℕ → ℕ → Bool
rule_part f start counts k n =
    month_counts f start k
    && cond (no_limit f.positions) (in_set f (day_of k n)) (place_wanted (positions_in f counts k) (days_in f k) n)

unfoldable pub month_part : List ℕ → ℕ → ℕ → ℕ → ℕ → Bool
month_part l start counts k n =
    cond (is_kind cron_kind l) (cron_day (cron_of l) (day_of k n)) (cond (is_kind rule_kind l) (rule_part (rule_of l) start counts k n) false)

pub record InMonth (k n : ℕ) : Type 0 where
  pub month : k < window_months
  pub low : 1 ≤ n
  pub high : n ≤ month_days k

-- the days of month k that pass, as a mask; `start` is the month of the start
unfoldable pub month_set : List ℕ → ℕ → ℕ → ℕ → ℕ
month_set l start counts k = mask_from (month_part l start counts k) (month_days k) 1

-- a month that is not in a cron frame's mask, where no day of week alone suffices, or that a rule's leaves out
unfoldable pub month_out : List ℕ → ℕ → Bool
month_out l k =
    cond (is_kind cron_kind l) (not (bit (months_in l) (k % 12 + 1) || joined (flags_in l)))
    (is_kind rule_kind l && not (month_allowed (rule_months_in l) (k % 12 + 1)))

-- of a month of `len` days that begins on weekday `first`: day d is the (n + 1)-th of its weekday, from the front or from the end, and that ordinal has it
abbrev pub ordinal_at : Ends → ℕ → ℕ → ℕ → ℕ → Bool
ordinal_at e first len n d =
    let weekday = (first + (d - 1)) % 7 in
    eqb ((d - 1) / 7) n && bit (ordinal_mask e.front (n + 1)) weekday || eqb ((len - d) / 7) n && bit (ordinal_mask e.back (n + 1)) weekday
