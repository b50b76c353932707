-- The day test in its two parts: the set of a month's days, and what goes by the day.
use mathlib.Core.Bool.{Bool, true, false, ◌&&◌, and-false, and-true}
use mathlib.Core.List.{List}
use mathlib.Core.Path.{◌≡◌, refl, sym, ap, ◌∙◌}
use Prim.Native.Nat.{ℕ, ◌/◌}
use native.Mathlib.Omega.{arith}
use borrow.Author.Tests.{eqb-true}
use lib.Dec.{leb, eqb}
use lib.ListN.{get_or}
use Rattle.calendar.specs.Window.{local_date}
use Rattle.masks.proofs.Bits.{bit_of_zero}
use Rattle.masks.specs.Masks.{bit}
use Rattle.frames.proofs.MonthDays.{month_of_day}
use Rattle.frames.proofs.MonthSets.{month_bit, out_part}
use Rattle.frames.proofs.YearSets.{counts_placed, rule_part_day}
use Rattle.frames.specs.Cron.{cron_day}
use Rattle.frames.specs.Months.{month_counts, rule_part, month_part, month_set, month_out, day_of, InMonth}
use Rattle.frames.specs.Numbers.{cron_of, rule_of, day_held, start_month}
use Rattle.frames.specs.Rule.{in_set, placed, period, counts, rule_day}
use Rattle.frames.specs.Kinds.{rule_kind, is_kind}
use Rattle.frames.specs.Years.{year_counts}
use Rattle.frames.specs.declared.Rule.{Rule}
use Rattle.days.specs.Steps.{day_counts, day_part, SetOf}

-- a rule's interval: that of days or weeks with the day, that of months or years with the month
by_frequency_lem : (f : Rule) (start k n : ℕ) → start ≡ (local_date (f.start / 1440)).month → InMonth k n → (a b y : Bool)
    → eqb f.frequency 1 ≡ a
    → eqb f.frequency 2 ≡ b
    → eqb f.frequency 4 ≡ y
    → counts f (day_of k n) ≡ (day_counts f (day_of k n) && month_counts f start k)
unfolding counts day_counts month_counts period
by_frequency_lem f start k n e i true b y p q r = simp (p, and-true)
by_frequency_lem f start k n e i false true y p q r = simp (p, q, and-true)
by_frequency_lem f start k n e i false false true p q r = simp (p, q, r, month_of_day k n i, e)
by_frequency_lem f start k n e i false false false p q r = simp (p, q, r, month_of_day k n i, e)

counts_split : (f : Rule) (start k n : ℕ) → start ≡ (local_date (f.start / 1440)).month → InMonth k n
    → counts f (day_of k n) ≡ (day_counts f (day_of k n) && month_counts f start k)
counts_split f start k n e i = by_frequency_lem f start k n e i (eqb f.frequency 1) (eqb f.frequency 2) (eqb f.frequency 4) refl refl refl

rearranged : (a b c d : Bool) → (c && d && (a && b)) ≡ (a && (b && c && d))
rearranged false b c d = and-false (c && d)
rearranged true false c d = and-false (c && d)
rearranged true true c d = and-true (c && d)

module _ (l : List ℕ) (k n : ℕ) (i : InMonth k n) where
  abbrev counts_of_lem : ℕ
  counts_of_lem = year_counts l (k / 12)

  rule_split : is_kind rule_kind l ≡ true
      → (rule_part (rule_of l) (start_month l) counts_of_lem k n && (leb (get_or l 3 0 / 1440) (day_of k n) && day_counts (rule_of l) (day_of k n))) ≡ rule_day (rule_of l) (day_of k n)
  unfolding rule_day start_month
  rule_split q =
      let f : Rule = rule_of l in
      let d : ℕ = day_of k n in
      let s : ℕ = (local_date (f.start / 1440)).month in
      ap (λ (b : Bool). b && (leb (f.start / 1440) d && day_counts f d)) (rule_part_day f k n counts_of_lem i (λ y p. counts_placed l (k / 12) q y p) s)
      ∙ rearranged (leb (f.start / 1440) d) (day_counts f d) (month_counts f (local_date (f.start / 1440)).month k) (in_set f d && placed f d)
      ∙ ap (λ (b : Bool). leb (f.start / 1440) d && (b && (in_set f d && placed f d)))
      (sym (counts_split f (local_date (f.start / 1440)).month k n refl i))

  by_kind : (a b : Bool) → eqb (get_or l 0 0) 3 ≡ a → eqb (get_or l 0 0) 4 ≡ b
      → (month_part l (start_month l) counts_of_lem k n && day_part l (day_of k n)) ≡ day_held l (day_of k n)
  unfolding month_part day_part day_held
  by_kind true false p q = rw (p, q) (and-true (cron_day (cron_of l) (day_of k n)))
  by_kind true true p q = absurd (omega (arith, eqb-true (get_or l 0 0) 3 p, eqb-true (get_or l 0 0) 4 q))
  by_kind false true p q = rw (p, q) (rule_split q)
  by_kind false false p q = rw (p, q) refl

  pub held_split : (month_part l (start_month l) counts_of_lem k n && day_part l (day_of k n)) ≡ day_held l (day_of k n)
  held_split = by_kind (eqb (get_or l 0 0) 3) (eqb (get_or l 0 0) 4) refl refl

-- the set of a month's days and the days' own part make up the day test
pub month_set_of : (l : List ℕ) (k set : ℕ) → set ≡ month_set l (start_month l) (year_counts l (k / 12)) k → SetOf (day_part l) (day_held l) k set
unfolding month_set
month_set_of l k set e =
    record {
      decides = λ n i.
          ap (λ (b : Bool). b && day_part l (day_of k n))
          (ap (λ (x : ℕ). bit x n) e ∙ month_bit (month_part l (start_month l) (year_counts l (k / 12)) k) k n i)
          ∙ held_split l k n i;
    }

-- and no day of a month that is out is held
pub month_out_of : (l : List ℕ) (k : ℕ) → month_out l k ≡ true → SetOf (day_part l) (day_held l) k 0
month_out_of l k e =
    record { decides = λ n i. sym (ap (λ (b : Bool). b && day_part l (day_of k n)) (out_part l (start_month l) (year_counts l (k / 12)) k n i e ∙ sym (bit_of_zero n))) ∙ held_split l k n i }
