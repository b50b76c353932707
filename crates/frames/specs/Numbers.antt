-- A cron or rule frame as the search holds it: a row of numbers, the first the frame's kind.
use Rattle.std.specs.Prelude.{Bool, false, cond, List, ℕ, ◌/◌, get_or}
use Rattle.calendar.specs.Window.{local_date, day_minutes}
use Rattle.frames.specs.Kinds.{cron_kind, rule_kind, is_kind}
use Rattle.frames.specs.Cron.{cron_day}
use Rattle.frames.specs.Rule.{rule_day}
use Rattle.frames.specs.declared.Cron.{Cron}
use Rattle.frames.specs.declared.Rule.{Rule}

abbrev pub cron_of : List ℕ → Cron
cron_of l =
    record {
      minutes = get_or l 1 0;
      hours = get_or l 2 0;
      days = get_or l 3 0;
      months = get_or l 4 0;
      weekdays = get_or l 5 0;
      flags = get_or l 6 0;
    }

abbrev pub rule_of : List ℕ → Rule
rule_of l =
    record {
      frequency = get_or l 1 0;
      interval = get_or l 2 0;
      start = get_or l 3 0;
      last = get_or l 4 0;
      weekdays = get_or l 5 0;
      days = record { front = get_or l 6 0; back = get_or l 7 0 };
      ordinals = record { front = get_or l 8 0; back = get_or l 9 0 };
      positions = record { front = get_or l 10 0; back = get_or l 11 0 };
      months = get_or l 12 0;
    }

-- a cron frame's months and flags, a rule's months and its start, the local minute of an extra or excepted one, by their place in the row
abbrev pub months_in : List ℕ → ℕ
months_in l = get_or l 4 0

abbrev pub flags_in : List ℕ → ℕ
flags_in l = get_or l 6 0

abbrev pub rule_months_in : List ℕ → ℕ
rule_months_in l = get_or l 12 0

abbrev pub start_in : List ℕ → ℕ
start_in l = get_or l 3 0

abbrev pub minute_in : List ℕ → ℕ
minute_in l = get_or l 1 0

-- the day test of the frame
unfoldable pub day_held : List ℕ → ℕ → Bool
day_held l d = cond (is_kind cron_kind l) (cron_day (cron_of l) d) (cond (is_kind rule_kind l) (rule_day (rule_of l) d) false)

-- the month that holds a rule's start
unfoldable pub start_month : List ℕ → ℕ
start_month l = (local_date (start_in l / day_minutes)).month
