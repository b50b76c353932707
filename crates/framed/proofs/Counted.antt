-- An ordinal weekday: its days within the month, counted from either end up to one of them, are one for every seven places.
use mathlib.Core.Bool.{Bool, true, false, cond}
use mathlib.Core.Path.{◌≡◌, refl, ap, ◌∙◌}
use Prim.Native.Nat.{ℕ, zero, suc, ◌+◌, ◌-◌, ◌/◌, ◌%◌, ◌<◌, ◌≤◌}
use native.Mathlib.Omega.{arith}
use borrow.Author.Tests.{eqb-true, eqb-false}
use lib.Dec.{eqb}
use Rattle.calendar.proofs.Windows.{local_date_holds, month_days_range, month_first_next}
use Rattle.calendar.specs.Below.{count_from}
use Rattle.calendar.specs.Calendar.{weekday_of}
use Rattle.calendar.specs.Window.{month_first, local_date, local_weekday, from_end, window_days}
use Rattle.frames.proofs.MonthDays.{first_at_most}
use Rattle.frames.specs.Rule.{ordinal_of}
use Rattle.masks.proofs.Counts.{count_same}
use Rattle.sheet.specs.Form.{Frequency, monthly}
use Rattle.sheet.specs.Meaning.{first_month, past_month, place_in}
use Rattle.zone.proofs.Good.{by_order}

abbrev pub is_weekday : ℕ → ℕ → Bool
is_weekday w e = eqb (local_weekday e) w

-- how many days of a weekday are before day n, and some more that are the same for every n
abbrev before : ℕ → ℕ → ℕ
before w n = (730126 + n - w) / 7

next_before : (w n : ℕ) (b : Bool) → is_weekday w n ≡ b → w < 7 → cond b 1 0 + before w n ≡ before w (suc n)
unfolding local_weekday weekday_of
next_before w n true e h = omega (arith, eqb-true ((730119 + n + 1) % 7) w e)
next_before w n false e h = omega (arith, eqb-false ((730119 + n + 1) % 7) w e)

weekdays_counted : (w k n : ℕ) → w < 7 → count_from (is_weekday w) k n + before w n ≡ before w (n + k)
weekdays_counted w zero n h = omega arith
weekdays_counted w (suc k) n h =
    let e : suc n + k ≡ n + suc k = omega arith in
    omega (arith, next_before w n (is_weekday w n) refl h, weekdays_counted w k (suc n) h, ap (before w) e)

-- of k days that start or end with the weekday
starting : (w k n : ℕ) → 1 ≤ k → local_weekday n ≡ w → count_from (is_weekday w) k n ≡ ordinal_of k
unfolding local_weekday weekday_of
starting w k n l e = omega (arith, weekdays_counted w k n (omega arith))

ending : (w k n : ℕ) → 1 ≤ k → local_weekday (n + (k - 1)) ≡ w → count_from (is_weekday w) k n ≡ ordinal_of k
unfolding local_weekday weekday_of
ending w k n l e = omega (arith, weekdays_counted w k n (omega arith))

-- a day's place in its month, from the front or from the end
abbrev pub place_of : Bool → ℕ → ℕ
place_of minus d = cond minus (from_end d) (local_date d).day

pub place_low : (minus : Bool) (d : ℕ) → d < window_days → 1 ≤ place_of minus d
unfolding from_end
place_low true d h = let a = local_date_holds d h in omega (arith, a.high)
place_low false d h = (local_date_holds d h).low

pub place_high : (minus : Bool) (d : ℕ) → d < window_days → place_of minus d ≤ 31
unfolding from_end
place_high true d h = let a = local_date_holds d h in omega (arith, a.low, (month_days_range (local_date d).month a.last).1)
place_high false d h = let a = local_date_holds d h in omega (arith, a.high, (month_days_range (local_date d).month a.last).1)

-- the days of d's month up to d, and from d on
days_up : (d : ℕ) → d < window_days → d + 1 - month_first (local_date d).month ≡ (local_date d).day
days_up d h = let a = local_date_holds d h in omega (arith, a.whole, a.low)

days_on : (d : ℕ) → d < window_days → month_first ((local_date d).month + 1) - d ≡ from_end d
unfolding from_end
days_on d h = let a = local_date_holds d h in omega (arith, a.whole, a.low, a.high, month_first_next (local_date d).month a.last)

pub ordinal_counted : (minus : Bool) (d w : ℕ) → d < window_days → local_weekday d ≡ w
    → place_in monthly minus (is_weekday w) d ≡ ordinal_of (place_of minus d)
ordinal_counted true d w h e = rw (days_on d h) (starting w (from_end d) d (place_low true d h) e)
ordinal_counted false d w h e =
    let a = local_date_holds d h in
    rw (days_up d h) (ending w (local_date d).day (month_first (local_date d).month) a.low (ap local_weekday a.whole ∙ e))

-- where d passes it, it is one of them
pub one_counted : (test : ℕ → Bool) (k n d : ℕ) → n ≤ d → d < n + k → test d ≡ true → 1 ≤ count_from test k n
one_counted test zero n d l h t = absurd (omega arith)
one_counted test (suc k) n d l h t =
    by_order n d (λ b. omega (arith, one_counted test k (suc n) d (omega arith) (omega arith) t))
    (λ b. let e : test n ≡ true = ap test (omega arith) ∙ t in rw e (omega arith))

-- tests that agree on the window's days
pub place_same : (f : Frequency) (minus : Bool) (test other : ℕ → Bool) (d : ℕ) → d < window_days
    → ((j : ℕ) → j < window_days → test j ≡ other j)
    → place_in f minus test d ≡ place_in f minus other d
place_same f true test other d h e =
    let past : ℕ = month_first (past_month f (local_date d).month) in
    count_same test other (past - d) d (λ j l b. e j (omega (arith, first_at_most (past_month f (local_date d).month))))
place_same f false test other d h e =
    let first : ℕ = month_first (first_month f (local_date d).month) in
    count_same test other (d + 1 - first) first (λ j l b. e j (omega arith))
