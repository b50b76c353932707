-- The days that the interval of a daily, weekly or yearly rule leaves out.
use mathlib.Core.Bool.{Bool, false, cond, and-false}
use mathlib.Core.List.{List}
use mathlib.Core.Logic.{dite}
use mathlib.Core.Path.{◌≡◌, refl, ap, ◌∙◌}
use Prim.Native.Nat.{ℕ, ◌+◌, ◌-◌, ◌*◌, ◌/◌, ◌%◌, ◌<◌, ◌≤◌, max}
use native.Mathlib.Decide.{dec_lt}
use native.Mathlib.Nat.{mod-zero, mod-lt, mod-le, mod-eq_of_lt, mul-add-mod_self_left, div-add-mod}
use native.Mathlib.Omega.{arith}
use borrow.Author.Tests.{lt-leb, ne_eqb}
use lib.Dec.{eqb}
use lib.ListN.{get_or}
use Rattle.calendar.proofs.Windows.{year_of_day}
use Rattle.calendar.specs.Calendar.{weekday_of}
use Rattle.calendar.specs.Iso.{monday_of}
use Rattle.calendar.specs.Window.{local_date, local_week}
use Rattle.frames.specs.Numbers.{rule_of, day_held}
use Rattle.frames.specs.Rule.{period, counts, rule_day}
use Rattle.days.specs.Steps.{periods_number, period_of, begin_of, Passed}
use Rattle.days.specs.declared.counted.Periods.{Periods}

-- what is not above a remainder is its own
kept : (n i c : ℕ) → c ≤ n % i → c % i ≡ c
kept n i c h =
    dite (dec_lt 0 i) (λ (g : 0 < i). mod-eq_of_lt (omega (arith, mod-lt n g)))
    (λ (g : 0 < i → ⊥). let e : i ≡ 0 = omega arith in ap (λ (k : ℕ). c % k) e ∙ mod-zero c)

-- what has something over whole intervals is none itself
over_not : (i q c m : ℕ) → m ≡ i * q + c → 0 < c → c % i ≡ c → eqb (m % i) 0 ≡ false
over_not i q c m e p k =
    let r : m % i ≡ c = ap (λ (x : ℕ). x % i) e ∙ mul-add-mod_self_left i q c ∙ k in
    ne_eqb (m % i) 0 (λ (z : m % i ≡ 0). omega (arith, r, z))

pub week_of : (d : ℕ) → local_week d ≡ (730119 + d) / 7
unfolding local_week monday_of weekday_of
week_of d = omega arith

-- numbers of periods rise with the days, no faster than these
pub period_rises : (q : Periods) (d j : ℕ) → d ≤ j → period_of q d ≤ period_of q j
period_rises Periods.Days d j h = h
period_rises Periods.Weeks d j h = omega arith
period_rises Periods.Years d j h = omega arith

period_near : (q : Periods) (d j : ℕ) → d ≤ j → period_of q j ≤ period_of q d + (j - d)
period_near Periods.Days d j h = omega arith
period_near Periods.Weeks d j h = omega arith
period_near Periods.Years d j h = omega arith

-- the days before and from the first of a period
before_begin : (q : Periods) (p j : ℕ) → j < begin_of q p → period_of q j < p
before_begin Periods.Days p j h = h
before_begin Periods.Weeks p j h = omega arith
before_begin Periods.Years p j h = omega arith

from_begin : (q : Periods) (p j : ℕ) → begin_of q p ≤ j → p ≤ period_of q j
from_begin Periods.Days p j h = h
from_begin Periods.Weeks p j h = omega arith
from_begin Periods.Years p j h = omega arith

later_begin : (q : Periods) (p d : ℕ) → period_of q d < p → d ≤ begin_of q p
later_begin Periods.Days p d h = omega arith
later_begin Periods.Weeks p d h = omega arith
later_begin Periods.Years p d h = omega arith

begin_below : (q : Periods) (p d : ℕ) → 1 ≤ d → p ≤ period_of q (d - 1) → begin_of q p ≤ d
begin_below Periods.Days p d l h = omega arith
begin_below Periods.Weeks p d l h = omega arith
begin_below Periods.Years p d l h = omega arith

pub weeks_from : (q : Periods) (d p : ℕ) → period_of q d < p → q ≡ Periods.Weeks → 104303 ≤ p
weeks_from Periods.Days d p h e = absurd (let z : ◌≡◌ {A = ℕ} 0 1 = cc in omega arith)
weeks_from Periods.Weeks d p h e = omega arith
weeks_from Periods.Years d p h e = absurd (let z : ◌≡◌ {A = ℕ} 0 1 = cc in omega arith)

pub period_small : (q : Periods) (d : ℕ) → d ≤ 36525 → period_of q d ≤ 109521
period_small Periods.Days d h = omega arith
period_small Periods.Weeks d h = omega arith
period_small Periods.Years d h = omega arith

module _ (l : List ℕ) (kind : get_or l 0 0 ≡ 4) where
  is_rule : (j : ℕ) → day_held l j ≡ rule_day (rule_of l) j
  unfolding day_held
  is_rule j = simp kind

  -- before the start no day is held
  before_start : (j : ℕ) → j < get_or l 3 0 / 1440 → day_held l j ≡ false
  unfolding rule_day
  before_start j h = is_rule j ∙ simp (lt-leb (get_or l 3 0 / 1440) j h)

  pub from_start : (d r : ℕ) → r ≡ max d (get_or l 3 0 / 1440) → Passed (day_held l) d r
  from_start d r e = record { rises = omega (arith, e); none = λ j a b t. before_start j (omega (arith, e)) }

  pub none_before_start : (d : ℕ) → d ≤ get_or l 3 0 / 1440 → Passed (day_held l) 0 d
  none_before_start d h = record { rises = omega arith; none = λ j a b t. before_start j (omega arith) }

module _ (l : List ℕ) (q : Periods) (kind : get_or l 0 0 ≡ 4) (frequency : get_or l 1 0 ≡ periods_number q) where
  period_is : (d : ℕ) → d < 36525 → period (rule_of l) d ≡ period_of q d
  unfolding period
  period_is d h = by_frequency_lem q frequency
    where
      by_frequency_lem : (w : Periods) → get_or l 1 0 ≡ periods_number w
          → cond (eqb (get_or l 1 0) 1) d (cond (eqb (get_or l 1 0) 2) (local_week d) (cond (eqb (get_or l 1 0) 4) ((local_date d).month / 12) (local_date d).month)) ≡ period_of w d
      by_frequency_lem Periods.Days e = rw e refl
      by_frequency_lem Periods.Weeks e = rw e (week_of d)
      by_frequency_lem Periods.Years e = rw e (year_of_day d h)

  -- nor in a period that does not count
  not_counted : (j : ℕ) → j < 36525 → get_or l 3 0 / 1440 < 36525
      → eqb ((period_of q j - period_of q (get_or l 3 0 / 1440)) % get_or l 2 0) 0 ≡ false
      → day_held l j ≡ false
  unfolding rule_day counts
  not_counted j h b e =
      is_rule l kind j
      ∙ simp (
        ap (λ (a : ℕ). eqb ((a - period (rule_of l) (get_or l 3 0 / 1440)) % get_or l 2 0) 0) (period_is j h)
            ∙ ap (λ (a : ℕ). eqb ((period_of q j - a) % get_or l 2 0) 0) (period_is (get_or l 3 0 / 1440) b)
            ∙ e,
        and-false,
      )

  -- an interval of none, or one longer than the window, does not come round again
  pub never_again : (d : ℕ) → get_or l 3 0 / 1440 < d → d ≤ 36525 → 0 < (period_of q d - period_of q (get_or l 3 0 / 1440)) % get_or l 2 0
      → ((m : ℕ) → m < 36525 → m % get_or l 2 0 ≡ m) → Passed (day_held l) d 36525
  never_again d after top o short =
      record {
        rises = top;
        none = λ j a b t.
            let n : ℕ = period_of q d - period_of q (get_or l 3 0 / 1440) in
            let m : ℕ = period_of q j - period_of q (get_or l 3 0 / 1440) in
            let r = period_rises q d j a in
            let s = period_near q (get_or l 3 0 / 1440) j (omega arith) in
            let p : 0 < m = omega (arith, mod-le n (get_or l 2 0)) in
            not_counted j t (omega arith) (over_not (get_or l 2 0) 0 m m (omega arith) p (short m (omega arith)));
      }

  -- up to the next period that counts
  pub next_counted : (d : ℕ) → get_or l 3 0 / 1440 < d → 0 < (period_of q d - period_of q (get_or l 3 0 / 1440)) % get_or l 2 0
      → (period_of q d - period_of q (get_or l 3 0 / 1440)) % get_or l 2 0 < get_or l 2 0
      → Passed (day_held l) d (begin_of q (period_of q d + get_or l 2 0 - (period_of q d - period_of q (get_or l 3 0 / 1440)) % get_or l 2 0))
  next_counted d after o w =
      let i : ℕ = get_or l 2 0 in
      let n : ℕ = period_of q d - period_of q (get_or l 3 0 / 1440) in
      let z = period_rises q (get_or l 3 0 / 1440) d (omega arith) in
      record {
        rises = later_begin q _ d (omega arith);
        none = λ j a b t.
            let r = period_rises q d j a in
            let u = before_begin q _ j b in
            let c : ℕ = n % i + (period_of q j - period_of q d) in
            not_counted j t (omega arith) (over_not i (n / i) c _ (omega (arith, div-add-mod n i)) (omega arith) (mod-eq_of_lt (omega arith)));
      }

  -- down to the last one
  pub last_counted : (d : ℕ) → get_or l 3 0 / 1440 < d → d ≤ 36525 → 0 < (period_of q (d - 1) - period_of q (get_or l 3 0 / 1440)) % get_or l 2 0
      → Passed (day_held l) (begin_of q (period_of q (d - 1) - (period_of q (d - 1) - period_of q (get_or l 3 0 / 1440)) % get_or l 2 0 + 1)) d
  last_counted d after top o =
      let i : ℕ = get_or l 2 0 in
      let n : ℕ = period_of q (d - 1) - period_of q (get_or l 3 0 / 1440) in
      let z = period_rises q (get_or l 3 0 / 1440) (d - 1) (omega arith) in
      let y = mod-le n i in
      record {
        rises = begin_below q _ d (omega arith) (omega arith);
        none = λ j a b t.
            let r = period_rises q j (d - 1) (omega arith) in
            let u = from_begin q _ j a in
            let c : ℕ = n % i - (period_of q (d - 1) - period_of q j) in
            not_counted j t (omega arith) (over_not i (n / i) c _ (omega (arith, div-add-mod n i)) (omega arith) (kept n i c (omega arith)));
      }

-- remainders by none and by more than there is
pub short_none : (n i : ℕ) → i ≤ n % i → (m : ℕ) → m < 36525 → m % i ≡ m
short_none n i a m h =
    dite (dec_lt 0 i) (λ (g : 0 < i). absurd (omega (arith, mod-lt n g)))
    (λ (g : 0 < i → ⊥). let e : i ≡ 0 = omega arith in ap (λ (k : ℕ). m % k) e ∙ mod-zero m)

pub short_long : (i : ℕ) → 36525 < i → (m : ℕ) → m < 36525 → m % i ≡ m
short_long i a m h = mod-eq_of_lt (omega arith)

-- nothing is passed
pub passed_none : (held : ℕ → Bool) (d : ℕ) → Passed held d d
passed_none held d = record { rises = omega arith; none = λ j a b t. absurd (omega arith) }
