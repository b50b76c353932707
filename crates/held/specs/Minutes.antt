-- The local minutes that a cron, rule or extra frame holds.
use Rattle.std.specs.Prelude.{Bool, false, cond, ◌&&◌, List, ◌≡◌, ℕ, ◌-◌, ◌/◌, ◌%◌, ◌<◌, ◌≤◌, min, eqb}
use Rattle.calendar.specs.Below.{least_from, last_from}
use Rattle.frames.specs.Cron.{cron_time, cron_held}
use Rattle.frames.specs.Numbers.{cron_of, rule_of, day_held, minute_in, start_in}
use Rattle.frames.specs.Rule.{rule_held}
use Rattle.calendar.specs.Window.{window_minutes, day_minutes}
use Rattle.frames.specs.Kinds.{cron_kind, rule_kind, extra_kind, is_kind}

-- a cron line, a rule and an extra minute; no other kind holds a minute
unfoldable pub frame_held : List ℕ → ℕ → Bool
frame_held l m =
    cond (is_kind cron_kind l) (cron_held (cron_of l) m)
    (cond (is_kind rule_kind l) (rule_held (rule_of l) m)
    (cond (is_kind extra_kind l) (eqb m (minute_in l)) false))

-- the least held minute from low up to high, or where that range ends, of an empty range low; minutes count to the end of 2099
unfoldable pub least_minute : List ℕ → ℕ → ℕ → ℕ
least_minute l low high = least_from (frame_held l) (min high window_minutes - low) low

-- one more than the greatest held minute from low up to high, or low
unfoldable pub last_minute : List ℕ → ℕ → ℕ → ℕ
last_minute l low high = last_from (frame_held l) (min high window_minutes - low) low

-- a minute by its day and its time of day
abbrev pub day_and_time : (ℕ → Bool) → (ℕ → Bool) → ℕ → Bool
day_and_time day time m = day (m / day_minutes) && time (m % day_minutes)

-- the time of day of a cron or rule frame
unfoldable pub time_part : List ℕ → ℕ → Bool
time_part l t = cond (is_kind cron_kind l) (cron_time (cron_of l) t) (cond (is_kind rule_kind l) (eqb t (start_in l % day_minutes)) false)

-- what the frame says of a minute but for *last*
abbrev pub minute_part : List ℕ → ℕ → Bool
minute_part l = day_and_time (day_held l) (time_part l)

-- up to r a test is the same as its part, and from there to the end it fails: what a rule's *last* does
pub record Cut (part held : ℕ → Bool) (end r : ℕ) : Type 0 where
  pub to : r ≤ end
  pub same : (m : ℕ) → m < r → part m ≡ held m
  pub none : (m : ℕ) → r ≤ m → m < end → held m ≡ false
