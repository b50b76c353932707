-- Months: rules that are computed once, for every month and every day of a leap year and of another.
use mathlib.Core.Bool.{Bool, true, false, cond, not, ◌&&◌, ◌||◌, false≢true}
use mathlib.Core.List.{List, [], ◌∷◌}
use mathlib.Core.Logic.{dite}
use mathlib.Core.Path.{◌≡◌, refl, sym, ap, ◌∙◌}
use Prim.Native.Nat.{ℕ, zero, suc, ◌+◌, ◌-◌, ◌*◌, ◌/◌, ◌<◌, ◌≤◌}
use native.Mathlib.Decide.{dec_lt}
use native.Mathlib.Omega.{arith}
use borrow.Author.Tests.{le-leb, lt-leb, lt-ltb, le-ltb}
use lib.Dec.{T, leb, ltb, eqb, eqb→eq, leb→le}
use lib.ListN.{get_or, length}
use lib.Seq.{take_all}
use Rattle.calendar.specs.Below.{every_below, within}
use Rattle.calendar.specs.Calendar.{month_lengths, month_length, month_start, sum, month_from, month_day}
use Rattle.calendar.specs.declared.year.MonthDay.{MonthDay}
use Rattle.calendar.proofs.Every.{left, right, every}

twelve : (b : Bool) → length (month_lengths b) ≡ 12
twelve b = refl

pub whole_year : (b : Bool) → sum (month_lengths b) ≡ cond b 366 365
whole_year true = refl
whole_year false = refl

-- past the twelfth month the whole year lies before, and there is no day
pub month_start_past : (b : Bool) (m : ℕ) → 12 < m → month_start b m ≡ cond b 366 365
unfolding month_start
month_start_past b m h = ap sum (take_all (m - 1) (month_lengths b) (omega arith)) ∙ whole_year b

-- the closed form is the sum of the months' lengths
abbrev closed : Bool → ℕ → ℕ
closed b m = cond (ltb m 3) (m / 2 * 31) ((367 * m - 362) / 12 - 2 + cond b 1 0)

right_at : Bool → ℕ → Bool
right_at b m = eqb (closed b m) (month_start b m)

all_right : (b : Bool) → T (every_below (right_at b) 13)
unfolding right_at month_start
all_right true = tt
all_right false = tt

closed_is : (b : Bool) (m : ℕ) → m < 13 → closed b m ≡ month_start b m
unfolding right_at
closed_is b m h = eqb→eq _ _ (every (right_at b) 13 (all_right b) m h)

pub month_start_early : (b : Bool) (m : ℕ) → m < 3 → m / 2 * 31 ≡ month_start b m
month_start_early b m h = rw (lt-ltb m 3 h) at (closed_is b m (omega arith))

pub month_start_late : (b : Bool) (m : ℕ) → 3 ≤ m → m ≤ 12 → (367 * m - 362) / 12 - 2 + cond b 1 0 ≡ month_start b m
month_start_late b m l h = rw (le-ltb m 3 l) at (closed_is b m (omega arith))

past : (n : ℕ) (l : List ℕ) → length l ≤ n → get_or l n 0 ≡ 0
past n [] h = refl
past zero (x ∷ l) h = absurd (omega arith)
past (suc n) (x ∷ l) h = past n l (omega arith)

pub month_length_past : (b : Bool) (m : ℕ) → 12 < m → month_length b m ≡ 0
unfolding month_length
month_length_past b m h = past m (0 ∷ month_lengths b) (omega arith)

-- a month ends where the next starts
steps : Bool → ℕ → Bool
steps b m = eqb (month_start b (m + 1)) (month_start b m + month_length b m) && leb (month_start b (m + 1)) (cond b 366 365)

all_steps : (b : Bool) → T (every_below (steps b) 13)
unfolding steps month_start month_length
all_steps true = tt
all_steps false = tt

pub month_start_next : (b : Bool) (m : ℕ) → m ≤ 12 → month_start b (m + 1) ≡ month_start b m + month_length b m
unfolding steps
month_start_next b m h =
    eqb→eq _ _ (left (eqb (month_start b (m + 1)) (month_start b m + month_length b m)) _ (every (steps b) 13 (all_steps b) m (omega arith)))

pub month_ends : (b : Bool) (m : ℕ) → m ≤ 12 → month_start b m + month_length b m ≤ cond b 366 365
unfolding steps
month_ends b m h =
    let t = every (steps b) 13 (all_steps b) m (omega arith) in
    omega (
      arith,
      month_start_next b m h,
      leb→le (month_start b (m + 1)) (cond b 366 365) (right (eqb (month_start b (m + 1)) (month_start b m + month_length b m)) _ t),
    )

pub month_start_most : (b : Bool) (m : ℕ) → month_start b m ≤ 366
month_start_most b m =
    dite (dec_lt 12 m) (λ (g : 12 < m). omega (arith, month_start_past b m g, longest b))
    (λ (g : 12 < m → ⊥). omega (arith, month_ends b m (omega arith), longest b))
  where
    longest : (b : Bool) → cond b 366 365 ≤ 366
    longest true = omega arith
    longest false = omega arith

-- what has a day is a month
pub month_of_day : (b : Bool) (m d : ℕ) → 1 ≤ d → d ≤ month_length b m → (1 ≤ m) × (m ≤ 12)
unfolding month_length
month_of_day b zero d h l = absurd (omega arith)
month_of_day b (suc m) d h l =
    dite (dec_lt 12 (suc m)) (λ (g : 12 < suc m). absurd (omega (arith, month_length_past b (suc m) g)))
    (λ (g : 12 < suc m → ⊥). (omega arith, omega arith))

-- what the month and the day of month of a day of the year are
pub record InMonth (b : Bool) (r : ℕ) (q : MonthDay) : Type 0 where
  pub january : 1 ≤ q.month
  pub december : q.month ≤ 12
  pub first : 1 ≤ q.day
  pub last : q.day ≤ month_length b q.month
  pub whole : month_start b q.month + (q.day - 1) ≡ r

placed : Bool → ℕ → Bool
placed b r =
    let q = month_day b r in
    within 1 12 q.month && (within 1 (month_length b q.month) q.day && eqb (month_start b q.month + (q.day - 1)) r)

all_placed : (b : Bool) → T (every_below (placed b) (cond b 366 365))
unfolding placed month_day month_from month_start month_length
all_placed true = tt
all_placed false = tt

pub month_day_holds : (b : Bool) (r : ℕ) → r < cond b 366 365 → InMonth b r (month_day b r)
unfolding placed
month_day_holds b r h =
    let q = month_day b r in
    let t : T (placed b r) = every (placed b) (cond b 366 365) (all_placed b) r h in
    let m = left (within 1 12 q.month) _ t in
    let u = right (within 1 12 q.month) _ t in
    let d = left (within 1 (month_length b q.month) q.day) _ u in
    record {
      january = leb→le _ _ (left (leb 1 q.month) _ m);
      december = leb→le _ _ (right (leb 1 q.month) _ m);
      first = leb→le _ _ (left (leb 1 q.day) _ d);
      last = leb→le _ _ (right (leb 1 q.day) _ d);
      whole = eqb→eq _ _ (right (within 1 (month_length b q.month) q.day) _ u);
    }

-- from a month and a day of it to the day of the year and back
back : Bool → ℕ → ℕ → Bool
back b m d =
    let q = month_day b (month_start b m + d) in
    not (leb (d + 1) (month_length b m)) || (eqb q.month m && eqb q.day (d + 1))

all_back : (b : Bool) → T (every_below (λ m. leb (month_length b m) 31 && every_below (back b m) 31) 13)
unfolding back month_day month_from month_start month_length
all_back true = tt
all_back false = tt

short_month : (b : Bool) (m : ℕ) → m ≤ 12 → T (leb (month_length b m) 31 && every_below (back b m) 31)
short_month b m h = every (λ m. leb (month_length b m) 31 && every_below (back b m) 31) 13 (all_back b) m (omega arith)

pub month_length_most : (b : Bool) (m : ℕ) → month_length b m ≤ 31
month_length_most b m =
    dite (dec_lt 12 m) (λ (g : 12 < m). omega (arith, month_length_past b m g))
    (λ (g : 12 < m → ⊥). leb→le _ _ (left (leb (month_length b m) 31) _ (short_month b m (omega arith))))

chosen : (a b : Bool) → a ≡ true → T (not a || b) → T b
chosen true b e t = t
chosen false b e t = absurd (false≢true e)

pub month_day_same : {p q : MonthDay} → p.month ≡ q.month → p.day ≡ q.day → p ≡ q
month_day_same e d = λ i. record { month = e i; day = d i }

-- a day of the year has one month and one day of month
pub month_day_is : (b : Bool) (r : ℕ) {q : MonthDay} → InMonth b r q → q ≡ month_day b r
unfolding back
month_day_is b r {q} a =
    let s = short_month b q.month a.december in
    let l : month_length b q.month ≤ 31 = leb→le _ _ (left (leb (month_length b q.month) 31) _ s) in
    let k : q.day - 1 < 31 = omega (arith, a.last, a.first) in
    let e : q.day - 1 + 1 ≡ q.day = omega (arith, a.first) in
    let t = every (back b q.month) 31 (right (leb (month_length b q.month) 31) _ s) (q.day - 1) k in
    let p = month_day b (month_start b q.month + (q.day - 1)) in
    let u =
    chosen (leb (q.day - 1 + 1) (month_length b q.month)) _ (le-leb (q.day - 1 + 1) (month_length b q.month) (omega (arith, a.last, a.first))) t in
    month_day_same (sym (eqb→eq p.month q.month (left (eqb p.month q.month) _ u)))
    (sym (eqb→eq p.day (q.day - 1 + 1) (right (eqb p.month q.month) _ u) ∙ e))
    ∙ ap (month_day b) a.whole

-- the code's guess: the 32-day month that the day would be in, or the next
guess : Bool → ℕ → Bool
guess b r =
    let q = month_day b r in
    let m = r / 32 + 1 in
    let next = month_start b (m + 1) in
    cond (leb next r) (eqb (m + 1) q.month && eqb (r - next + 1) q.day)
    (leb (month_start b m) r && (eqb m q.month && eqb (r - month_start b m + 1) q.day))

all_guess : (b : Bool) → T (every_below (guess b) 366)
unfolding guess month_day month_from month_start month_length
all_guess true = tt
all_guess false = tt

module _ (b : Bool) (r : ℕ) (h : r < 366) where
  guessed : T (guess b r)
  guessed = every (guess b) 366 (all_guess b) r h

  pub guessed_next : month_start b (r / 32 + 1 + 1) ≤ r
      → record { month = r / 32 + 1 + 1; day = r - month_start b (r / 32 + 1 + 1) + 1 } ≡ month_day b r
  unfolding guess
  guessed_next l =
      let q = month_day b r in
      let t : T (eqb (r / 32 + 1 + 1) q.month && eqb (r - month_start b (r / 32 + 1 + 1) + 1) q.day) =
      simp (le-leb _ _ l) at guessed in
      month_day_same (eqb→eq _ _ (left (eqb (r / 32 + 1 + 1) q.month) _ t)) (eqb→eq _ _ (right (eqb (r / 32 + 1 + 1) q.month) _ t))

  module _ (l : r < month_start b (r / 32 + 1 + 1)) where
    guessed_first : T (leb (month_start b (r / 32 + 1)) r && (eqb (r / 32 + 1) (month_day b r).month && eqb (r - month_start b (r / 32 + 1) + 1) (month_day b r).day))
    unfolding guess
    guessed_first = simp (lt-leb _ _ l) at guessed

    pub guessed_within : month_start b (r / 32 + 1) ≤ r
    guessed_within = leb→le (month_start b (r / 32 + 1)) r (left (leb (month_start b (r / 32 + 1)) r) _ guessed_first)

    pub guessed_this : record { month = r / 32 + 1; day = r - month_start b (r / 32 + 1) + 1 } ≡ month_day b r
    guessed_this =
        let q = month_day b r in
        let u = right (leb (month_start b (r / 32 + 1)) r) _ guessed_first in
        month_day_same (eqb→eq _ _ (left (eqb (r / 32 + 1) q.month) _ u)) (eqb→eq _ _ (right (eqb (r / 32 + 1) q.month) _ u))
