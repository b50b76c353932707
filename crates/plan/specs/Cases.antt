-- Plans of document 01's bench list, and what they hold, as tests that compute.
use Rattle.std.specs.Prelude.{Bool, ◌&&◌, ◌||◌, List, [], ◌∷◌, ℕ, ◌+◌, ◌*◌, ◌^◌, eqb}
use Rattle.std.specs.Bool.{beq}
use Rattle.calendar.specs.Below.{every_below, count_from}
use Rattle.calendar.specs.Window.{local_date, local_weekday, day_minutes, window_last}
use Rattle.lines.specs.Bytes.{bytes}
use Rattle.zone.specs.Zone.{bias, instant_of}
use Rattle.plan.specs.Plan.{plan_held, plan_zone}
use Rattle.plan.specs.Taken.{Loaded, taken, refused, load}
use Rattle.plan.specs.declared.Frame.{Frame}

abbrev pub frames_of : Loaded → List Frame
frames_of (taken fs) = fs
frames_of (refused k) = []

-- the whole example
unfoldable pub example : List Frame
example = frames_of (load (bytes "01003C\n0200D2963C0078\n0200D7337C003C\n03000000004000000000000004FFFFFFFE1FFE7F00\nFF04\n"))

-- local day 9,497 is 2026-01-01
abbrev pub minute : ℕ → ℕ → ℕ → ℕ
minute dayOf2026 hour m = day_minutes * (9497 + dayOf2026) + (60 * hour + m)

abbrev pub held_days : List Frame → ℕ → ℕ → ℕ
held_days fs k m = count_from (λ d. plan_held fs (m + day_minutes * d)) k 0

-- (h), (i): 29 March is day 87 of 2026 counted from 0, 25 October day 297
unfoldable pub case_example : Bool
unfolding example
case_example =
    plan_held example (minute 87 2 30)
    && (eqb (instant_of (plan_zone example) (minute 87 2 30)) (13801050 + bias)
    && (plan_held example (minute 297 2 30)
    && (eqb (instant_of (plan_zone example) (minute 297 2 30)) (14103390 + bias)
    && eqb (count_from (plan_held example) day_minutes (minute 297 0 0)) 1)))

-- (j): the 31st of a month at 06:00 until 31 May, of the days of 2026 and 2027
unfoldable pub thirds : List Frame
thirds =
    Frame.Rule
    (record {
      frequency = 3;
      interval = 1;
      start = 13719240;
      last = 13892040;
      weekdays = 0;
      days = record { front = 2 ^ 31; back = 0 };
      ordinals = record { front = 0; back = 0 };
      positions = record { front = 0; back = 0 };
      months = 0;
    })
    ∷ []

unfoldable pub case_thirds : Bool
unfolding thirds
case_thirds =
    plan_held thirds (minute 30 6 0)
    && (plan_held thirds (minute 89 6 0) && (plan_held thirds (minute 150 6 0) && eqb (held_days thirds 730 (minute 0 6 0)) 3))

-- (k): the last workday of a month at 06:00
unfoldable pub workdays : List Frame
workdays =
    Frame.Rule
    (record {
      frequency = 3;
      interval = 1;
      start = 13717800;
      last = window_last;
      weekdays = 62;
      days = record { front = 0; back = 0 };
      ordinals = record { front = 0; back = 0 };
      positions = record { front = 0; back = 2 };
      months = 0;
    })
    ∷ []

unfoldable pub case_workdays : Bool
unfolding workdays
case_workdays =
    plan_held workdays (minute 29 6 0)
    && (plan_held workdays (minute 57 6 0) && (plan_held workdays (minute 89 6 0) && eqb (held_days workdays 90 (minute 0 6 0)) 3))

-- (l): `0 0 13 * 5`, of the days of 2026
unfoldable pub fridays : List Frame
fridays = Frame.Cron (record { minutes = 1; hours = 1; days = 2 ^ 13; months = 8190; weekdays = 32; flags = 3 }) ∷ []

unfoldable pub case_fridays : Bool
unfolding fridays
case_fridays =
    every_below
    (λ k.
    let d = 9497 + k in
    beq (plan_held fridays (day_minutes * d)) (eqb (local_date d).day 13 || eqb (local_weekday d) 5))
    365
