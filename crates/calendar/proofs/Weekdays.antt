-- Weekdays: they advance by one, and are those of the signed day number and of the ISO week.
use mathlib.Core.Bool.{false}
use mathlib.Core.Path.{◌≡◌, refl, sym, ap, ◌∙◌}
use Prim.Native.Nat.{ℕ, suc, ◌+◌, ◌-◌, ◌*◌, ◌/◌, ◌%◌, ◌<◌}
use native.Mathlib.Nat.{add-mul-mod_self_left}
use native.Mathlib.Omega.{arith}
use borrow.Author.Tests.{ltb-false}
use lib.IntN.{ℤ, pos, negsuc}
use lib.Signed.{lt_z}
use Rattle.signed.specs.Bias.{lift, bias_day}
use Rattle.calendar.specs.Calendar.{weekday_of, weekday_of_day}
use Rattle.calendar.specs.Iso.{monday_of, iso_year, iso_of}
use Rattle.calendar.specs.Window.{local_week, local_weekday}
use Rattle.calendar.proofs.Isos.{iso_start_near, iso_year_holds}

-- weekdays advance by one
pub weekday_next : (n : ℕ) → weekday_of (n + 1) ≡ (weekday_of n + 1) % 7
unfolding weekday_of
weekday_next n = omega arith

lifted : (z : ℤ) → lt_z z (negsuc 719161) ≡ false → weekday_of (lift 719162 z) ≡ weekday_of_day z
unfolding weekday_of weekday_of_day
lifted (pos n) l = omega arith
lifted (negsuc n) l =
    let a : ℕ = 719162 - suc n + 1 in
    let b : ℕ = 7 * suc n + 4 - suc n in
    let e : a + 7 * suc n ≡ b + 7 * 102737 = omega (arith, ltb-false 719161 n l) in
    sym (add-mul-mod_self_left a 7 (suc n)) ∙ ap (λ (m : ℕ). m % 7) e ∙ add-mul-mod_self_left b 7 102737

-- the weekday of a day of the range is the remainder, never negative, of its signed number + 4 by 7
pub weekday_of_signed : (z : ℤ) → lt_z z (negsuc 719161) ≡ false → lt_z (pos 2932896) z ≡ false → weekday_of (bias_day z) ≡ weekday_of_day z
unfolding bias_day
weekday_of_signed z l h = simp (l, h) (lifted z l)

-- the weekday of an ISO date: Monday is 1, Sunday 7
pub iso_weekday : (n : ℕ) → n < 3652059 → (iso_of n).weekday ≡ (weekday_of n + 6) % 7 + 1
unfolding iso_of weekday_of
iso_weekday n h = omega (arith, (iso_start_near (iso_year n)).monday, (iso_year_holds n h).from)

pub weekday_below : (n : ℕ) → weekday_of n < 7
unfolding weekday_of
weekday_below n = omega arith

-- the weeks of the window: whole sevens of the days since 0001-01-01, a Monday
pub local_week_lem : (n : ℕ) → local_week n ≡ (730119 + n) / 7
unfolding local_week monday_of weekday_of
local_week_lem n = omega arith

pub local_weekday_lem : (n : ℕ) → local_weekday n ≡ weekday_of (730119 + n)
unfolding local_weekday
local_weekday_lem n = refl
