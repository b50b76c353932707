-- Years: their lengths, where they start, and the year of a day.
use mathlib.Core.Bool.{Bool, true, false, cond, not, ◌&&◌}
use mathlib.Core.Logic.{dite}
use mathlib.Core.Path.{◌≡◌, refl, ap}
use Prim.Native.Nat.{ℕ, zero, suc, ◌+◌, ◌-◌, ◌*◌, ◌/◌, ◌%◌, ◌<◌, ◌≤◌}
use native.Mathlib.Decide.{dec_lt}
use native.Mathlib.Omega.{arith}
use borrow.Author.Tests.{eqb-true, eqb-false, lt-ltb, le-ltb}
use lib.Dec.{eqb}
use Rattle.calendar.specs.Calendar.{divides, leap_year, year_length, years_before, year_start, year_from, year_day}
use Rattle.calendar.specs.declared.year.YearDay.{YearDay}
use Rattle.calendar.proofs.Months.{whole_year}

pub year_length_lem : (y : ℕ) → year_length y ≡ cond (leap_year y) 366 365
unfolding year_length
year_length_lem y = whole_year (leap_year y)

-- a leap year has a day more
pub leap_day : (b : Bool) → cond b 366 365 ≡ 365 + cond b 1 0
leap_day true = refl
leap_day false = refl

pub small : (b : Bool) → cond b 1 0 ≤ 1
small true = omega arith
small false = omega arith

-- one more year than k: the groups of 4, 100 and 400 years that end with it
leaps : (a b c : Bool) (n : ℕ) → eqb (suc n % 4) 0 ≡ a → eqb (suc n % 100) 0 ≡ b → eqb (suc n % 400) 0 ≡ c
    → suc n / 4 + suc n / 400 + n / 100 ≡ n / 4 + n / 400 + suc n / 100 + cond (a && not (b && not c)) 1 0
leaps true true true n p q r = omega (arith, eqb-true (suc n % 4) 0 p, eqb-true (suc n % 100) 0 q, eqb-true (suc n % 400) 0 r)
leaps true true false n p q r = omega (arith, eqb-true (suc n % 4) 0 p, eqb-true (suc n % 100) 0 q, eqb-false (suc n % 400) 0 r)
leaps true false true n p q r = omega (arith, eqb-true (suc n % 4) 0 p, eqb-false (suc n % 100) 0 q, eqb-true (suc n % 400) 0 r)
leaps true false false n p q r = omega (arith, eqb-true (suc n % 4) 0 p, eqb-false (suc n % 100) 0 q, eqb-false (suc n % 400) 0 r)
leaps false true true n p q r = omega (arith, eqb-false (suc n % 4) 0 p, eqb-true (suc n % 100) 0 q, eqb-true (suc n % 400) 0 r)
leaps false true false n p q r = omega (arith, eqb-false (suc n % 4) 0 p, eqb-true (suc n % 100) 0 q, eqb-false (suc n % 400) 0 r)
leaps false false true n p q r = omega (arith, eqb-false (suc n % 4) 0 p, eqb-false (suc n % 100) 0 q, eqb-true (suc n % 400) 0 r)
leaps false false false n p q r = omega (arith, eqb-false (suc n % 4) 0 p, eqb-false (suc n % 100) 0 q, eqb-false (suc n % 400) 0 r)

-- "A year is leap if 4 divides it, except where 100 does and 400 does not", counted
pub years_before_lem : (k : ℕ) → years_before k + k / 100 ≡ 365 * k + k / 4 + k / 400
unfolding years_before leap_year
years_before_lem zero = refl
years_before_lem (suc k) =
    omega (
      arith,
      years_before_lem k,
      year_length_lem (suc k),
      leap_day (leap_year (suc k)),
      leaps (divides 4 (suc k)) (divides 100 (suc k)) (divides 400 (suc k)) k refl refl refl,
    )

pub year_length_range : (y : ℕ) → (365 ≤ year_length y) × (year_length y ≤ 366)
year_length_range y = omega (arith, year_length_lem y, leap_day (leap_year y), small (leap_year y))

pub year_start_next : (y : ℕ) → 1 ≤ y → year_start (y + 1) ≡ year_start y + year_length y
unfolding year_start years_before
year_start_next zero h = absurd (omega arith)
year_start_next (suc k) h =
    let e : suc k + 1 - 1 ≡ suc k = omega arith in
    let d : suc k - 1 ≡ k = omega arith in
    rw (e, d)

pub year_start_closed : (y : ℕ) → year_start y + (y - 1) / 100 ≡ 365 * (y - 1) + (y - 1) / 4 + (y - 1) / 400
unfolding year_start
year_start_closed y = years_before_lem (y - 1)

pub year_start_first : year_start 1 ≡ 0
unfolding year_start years_before
year_start_first = refl

-- 9999-12-31 is day 3,652,058
pub year_start_end : year_start 10000 ≡ 3652059
year_start_end = omega (arith, year_start_closed 10000)

years_mono : (j k : ℕ) → j ≤ k → years_before j ≤ years_before k
unfolding years_before
years_mono j zero h = let e : j ≡ 0 = omega arith in rw e (omega arith)
years_mono j (suc k) h =
    dite (dec_lt k j) (λ (l : k < j). let e : j ≡ suc k = omega arith in rw e (omega arith))
    (λ (g : k < j → ⊥). omega (arith, years_mono j k (omega arith)))

pub year_start_mono : (y z : ℕ) → y ≤ z → year_start y ≤ year_start z
unfolding year_start
year_start_mono y z h = years_mono (y - 1) (z - 1) (omega arith)

pub year_start_top : (y : ℕ) → y ≤ 10000 → year_start y ≤ 3652059
year_start_top y h = omega (arith, year_start_mono y 10000 h, year_start_end)

-- what the year and the day of year of a day are
pub record InYear (n : ℕ) (p : YearDay) : Type 0 where
  pub first : 1 ≤ p.year
  pub last : p.year ≤ 9999
  pub whole : year_start p.year + p.day ≡ n
  pub short : p.day < year_length p.year

pub trichotomy : (a b : ℕ) → (a < b → ⊥) → (b < a → ⊥) → a ≡ b
trichotomy a b l g = omega arith

same : {p q : YearDay} → p.year ≡ q.year → p.day ≡ q.day → p ≡ q
same e d = λ i. record { year = e i; day = d i }

later : (n : ℕ) (p q : YearDay) → InYear n p → InYear n q → p.year < q.year → ⊥
later n p q a b h =
    omega (
      arith,
      a.first,
      a.whole,
      a.short,
      b.whole,
      year_start_next p.year a.first,
      year_start_mono (p.year + 1) q.year (omega arith),
    )

-- a day has one year and one day of year
pub in_year_unique : (n : ℕ) {p q : YearDay} → InYear n p → InYear n q → p ≡ q
in_year_unique n {p} {q} a b =
    let l = later n p q a b in
    let g = later n q p b a in
    let e : p.year ≡ q.year = trichotomy p.year q.year l g in
    same e (omega (arith, a.whole, b.whole, ap year_start e))

-- where the walk through the years ends
walked : (k y r n : ℕ) → 1 ≤ y → y + k ≡ 9999 → year_start y + r ≡ n → n < 3652059 → InYear n (year_from k y r)
unfolding year_from
walked zero y r n h e w l =
    let z : y ≡ 9999 = omega arith in
    record {
      first = h;
      last = omega arith;
      whole = w;
      short = omega (arith, year_start_end, year_start_next y h, ap (λ (x : ℕ). year_start (x + 1)) z);
    }
walked (suc k) y r n h e w l =
    dite (dec_lt r (year_length y))
    (λ (s : r < year_length y). rw (lt-ltb r (year_length y) s, year_from) (record { first = h; last = omega arith; whole = w; short = s }))
    (λ (g : r < year_length y → ⊥).
    rw (le-ltb r (year_length y) (omega arith), year_from)
    (walked k (y + 1) (r - year_length y) n (omega arith) (omega arith) (omega (arith, year_start_next y h)) l))

pub year_day_holds : (n : ℕ) → n < 3652059 → InYear n (year_day n)
unfolding year_day
year_day_holds n h = walked 9998 1 n n (omega arith) refl (omega (arith, year_start_first)) h

pub year_day_is : (n : ℕ) {p : YearDay} → n < 3652059 → InYear n p → p ≡ year_day n
year_day_is n h a = in_year_unique n a (year_day_holds n h)

pub year_day_range : (n : ℕ) → n < 3652059 → (1 ≤ (year_day n).year) × ((year_day n).year ≤ 9999)
year_day_range n h = ((year_day_holds n h).first, (year_day_holds n h).last)
