-- The c-th held day of the window, month by month: a month's held days are the bits of its set.
use mathlib.Core.List.{List}
use mathlib.Core.Path.{◌≡◌, sym, ap, ◌∙◌}
use Prim.Native.Nat.{ℕ, ◌+◌, ◌-◌, ◌<◌, ◌≤◌, max}
use native.Mathlib.Omega.{arith}
use Rattle.calendar.proofs.Windows.{month_days_range, month_first_next}
use Rattle.calendar.specs.Below.{count_from}
use Rattle.calendar.specs.Window.{month_first, month_days}
use Rattle.frames.proofs.MonthDays.{in_month}
use Rattle.frames.specs.Months.{day_of, InMonth}
use Rattle.frames.specs.Numbers.{day_held}
use Rattle.masks.proofs.Counts.{count_parts}
use Rattle.masks.specs.Masks.{bit, bits_from}
use Rattle.days.specs.Search.{nth_from, nth_day}
use Rattle.count.specs.Sets.{HeldSet}
use Rattle.days.proofs.Nths.{nth_zero, nth_past, nth_within, count_none, count_along, nth_along}
use Rattle.days.proofs.Walks.{month_end_top}

module _ (l : List ℕ) where
  pub nth_day_zero : (low : ℕ) → max 36525 low ≡ nth_day l 0 low
  unfolding nth_day
  nth_day_zero low = let e : low + (36525 - low) ≡ max 36525 low = omega arith in sym (nth_zero (day_held l) (36525 - low) low ∙ e)

  -- no day is left
  pub nth_day_past : (c low : ℕ) → 36525 ≤ low → low ≡ nth_day l c low
  unfolding nth_day nth_from
  nth_day_past c low h = let e : 36525 - low ≡ 0 = omega arith in rw e

pub day_below : (k n : ℕ) → InMonth k n → day_of k n < 36525
day_below k n i = omega (arith, i.low, i.high, month_end_top k i.month)

-- from day n of month k on
module _ (l : List ℕ) (k n : ℕ) (i : InMonth k n) (set : ℕ) (e : HeldSet l k set) where
  rest : ℕ
  rest = month_days k + 1 - n

  held_bit : (x : ℕ) → x < rest → bit set (n + x) ≡ day_held l (day_of k n + x)
  unfolding rest
  held_bit x h =
      let s : month_first k + (n + x - 1) ≡ day_of k n + x = omega (arith, i.low) in
      e.decides (n + x) (in_month k (n + x) (omega (arith, i.low)) (omega arith)) ∙ ap (day_held l) s

  bits_here : bits_from set n ≡ count_from (bit set) rest n
  unfolding bits_from rest
  bits_here =
      let d = (month_days_range k i.month).1 in
      let s : 64 - n ≡ (month_days k + 1 - n) + (63 - month_days k) = omega (arith, i.high) in
      let z : count_from (bit set) (63 - month_days k) (n + (month_days k + 1 - n)) ≡ 0 =
      count_none (bit set) (63 - month_days k) (n + (month_days k + 1 - n))
      (λ j h. e.none j (omega arith)) in
      let a = count_parts (bit set) (month_days k + 1 - n) (63 - month_days k) n in
      ap (λ (x : ℕ). count_from (bit set) x n) s ∙ omega (arith, a, z)

  held_here : bits_from set n ≡ count_from (day_held l) rest (day_of k n)
  held_here = bits_here ∙ count_along (bit set) (day_held l) rest n (day_of k n) held_bit

  -- the window's days in those of this month and those past it
  split : 36525 - day_of k n ≡ rest + (36525 - day_of (k + 1) 1)
  unfolding rest
  split = omega (arith, i.low, i.high, month_first_next k i.month, month_end_top k i.month)

  pub nth_day_here : (c : ℕ) → 1 ≤ c → c ≤ bits_from set n → month_first k + nth_from (bit set) c (64 - n) n - 1 ≡ nth_day l c (day_of k n)
  unfolding nth_day rest
  nth_day_here c p h =
      let s : 64 - n ≡ rest + (63 - month_days k) = omega (arith, i.high, (month_days_range k i.month).1) in
      let a : nth_from (bit set) c (64 - n) n ≡ nth_from (bit set) c rest n =
      ap (λ (x : ℕ). nth_from (bit set) c x n) s ∙ nth_within (bit set) c rest (63 - month_days k) n p (omega (arith, bits_here)) in
      let b : nth_from (day_held l) c (36525 - day_of k n) (day_of k n) ≡ nth_from (day_held l) c rest (day_of k n) =
      ap (λ (x : ℕ). nth_from (day_held l) c x (day_of k n)) split
      ∙ nth_within (day_held l) c rest _ (day_of k n) p (omega (arith, held_here)) in
      omega (arith, i.low, a, b, nth_along (bit set) (day_held l) c rest n (day_of k n) held_bit)

  pub nth_day_on : (c : ℕ) → bits_from set n < c → nth_day l c (day_of k n) ≡ nth_day l (c - bits_from set n) (day_of (k + 1) 1)
  unfolding nth_day rest
  nth_day_on c h =
      let s : day_of k n + rest ≡ day_of (k + 1) 1 = omega (arith, i.low, i.high, month_first_next k i.month) in
      ap (λ (x : ℕ). nth_from (day_held l) c x (day_of k n)) split
      ∙ nth_past (day_held l) c rest _ (day_of k n) (omega (arith, held_here))
      ∙ ap (λ (x : ℕ). nth_from (day_held l) (c - x) (36525 - day_of (k + 1) 1) (day_of k n + rest)) (sym held_here)
      ∙ ap (nth_from (day_held l) (c - bits_from set n) (36525 - day_of (k + 1) 1)) s
