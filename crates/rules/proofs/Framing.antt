-- The frame of parts that go together, but for *last*, is the frame of the rule.
use Rattle.std.specs.Prelude.{Option, None, Some, unwrap_or}
use Rattle.std.specs.Option.{is_some}
use mathlib.Core.Bool.{true, false, cond, not, ◌&&◌, ◌||◌, false≢true}
use mathlib.Core.List.{List}
use mathlib.Core.Path.{◌≡◌, refl, sym, ap, ap₂, ◌∙◌}
use Prim.Native.Nat.{ℕ, ◌/◌, ◌^◌}
use borrow.Author.Tests.{not-true}
use lib.Dec.{eqb}
use Rattle.calendar.proofs.Every.{neither}
use Rattle.calendar.specs.Window.{local_date, local_weekday, day_minutes, window_last}
use Rattle.framed.proofs.Goods.{parts_together_lem}
use Rattle.framed.proofs.Sets.{ordinals_for, positions_for}
use Rattle.framed.specs.Framed.{nothing, weekdays_of, days_of, month_limit, months_of, frequency_number, rule_frame}
use Rattle.frames.specs.declared.Ends.{Ends}
use Rattle.frames.specs.declared.Rule.{Rule}
use Rattle.parts.specs.Given.{days_from, numbers_from, months_from, parts_given}
use Rattle.entries.specs.Lists.{weekdays_given, numbers_given, months_given}
use Rattle.parts.specs.declared.given.Parts.{Parts}
use Rattle.sheet.specs.Form.{Entry, Frequency, daily, weekly, monthly, yearly, Part}
use Rattle.sheet.specs.Meaning.{month_number}
use Rattle.sheet.specs.Parts.{Given, given_of, is_given, ordinals, clashing, by_frequency, parts_together}
use Rattle.sheet.specs.Words.{Signed}
use Rattle.rules.specs.Ruled.{ends_in, ordinals_in, weekdays_in, days_in, months_in, endless, ending_at}
use Rattle.rules.proofs.Going.{frequency_in_lem}

weekdays_is : (f : Frequency) (o : Option (List Entry)) (first : ℕ)
    → elim (days_from o) [ None ↦ cond (eqb (frequency_number f) 2) (2 ^ local_weekday first) 0 | Some w ↦ w.plain ] ≡ weekdays_of f o first
unfolding weekdays_of weekdays_given
weekdays_is daily None first = refl
weekdays_is daily (Some es) first = refl
weekdays_is weekly None first = refl
weekdays_is weekly (Some es) first = refl
weekdays_is monthly None first = refl
weekdays_is monthly (Some es) first = refl
weekdays_is yearly None first = refl
weekdays_is yearly (Some es) first = refl

abbrev with_numbers : Frequency → Option (List Entry) → Option (List Signed) → ℕ → Ends
with_numbers f days month_days first =
    cond ((eqb (frequency_number f) 3 || eqb (frequency_number f) 4) && (not (is_some (days_from days)) && not (is_some (numbers_from month_days)))) (record { front = 2 ^ (local_date first).day; back = 0 })
    (ends_in (numbers_from month_days))

days_are : (f : Frequency) (days : Option (List Entry)) (month_days : Option (List Signed)) (first : ℕ)
    → (eqb (frequency_number f) 2 && is_given month_days) ≡ false
    → with_numbers f days month_days first ≡ days_of f days month_days first
unfolding days_of weekdays_given numbers_given
days_are daily days None first e = refl
days_are daily days (Some ns) first e = refl
days_are weekly days None first e = refl
days_are weekly days (Some ns) first e = absurd (false≢true (sym e))
days_are monthly None None first e = refl
days_are monthly (Some es) None first e = refl
days_are monthly None (Some ns) first e = refl
days_are monthly (Some es) (Some ns) first e = refl
days_are yearly None None first e = refl
days_are yearly (Some es) None first e = refl
days_are yearly None (Some ns) first e = refl
days_are yearly (Some es) (Some ns) first e = refl

limit_is : (months : Option (List ℕ)) → elim (months_from months) [ None ↦ 0 | Some ms ↦ ms.front ] ≡ month_limit months
unfolding months_given
limit_is None = refl
limit_is (Some ms) = refl

months_are : (f : Frequency) (days : Option (List Entry)) (month_days : Option (List Signed)) (months : Option (List ℕ)) (first : ℕ)
    → elim (months_from months) [ None ↦ cond (eqb (frequency_number f) 4 && (not (is_some (days_from days)) && not (is_some (numbers_from month_days)))) (2 ^ month_number first) 0 | Some ms ↦ ms.front ]
    ≡ months_of f days month_days months first
unfolding months_of weekdays_given numbers_given months_given
months_are daily days month_days months first = limit_is months
months_are weekly days month_days months first = limit_is months
months_are monthly days month_days months first = limit_is months
months_are yearly None None None first = refl
months_are yearly None None (Some ms) first = refl
months_are yearly None (Some ns) None first = refl
months_are yearly None (Some ns) (Some ms) first = refl
months_are yearly (Some es) month_days None first = refl
months_are yearly (Some es) month_days (Some ms) first = refl

ordinals_are : (o : Option (List Entry))
    → elim (days_from o) [ None ↦ nothing | Some w ↦ record { front = w.front; back = w.back } ] ≡ ordinals_for o
unfolding weekdays_given
ordinals_are None = refl
ordinals_are (Some es) = refl

positions_are : (o : Option (List Signed)) → ends_in (numbers_from o) ≡ positions_for o
unfolding numbers_given
positions_are None = refl
positions_are (Some ns) = refl

-- "BYMONTHDAY with WEEKLY" don't go together
no_month_days : (f : Frequency) (g : Given) → clashing f g ≡ false → (eqb (frequency_number f) 2 && is_given g.month_days) ≡ false
unfolding clashing
no_month_days daily g e = refl
no_month_days weekly g e = (neither (is_given g.positions) _ (neither (ordinals g.days) _ e).1).1
no_month_days monthly g e = refl
no_month_days yearly g e = refl

module _ (ps : List Part) (start : ℕ) where
  abbrev g : Given
  g = given_of ps

  abbrev p : Parts
  p = parts_given ps

  abbrev first : ℕ
  first = start / day_minutes

  abbrev frame : ℕ → ℕ → Ends → Ends → Ends → ℕ → Rule
  frame frequency weekdays days ordinals positions months =
      record {
        frequency = frequency;
        interval = unwrap_or g.interval 1;
        start = start;
        last = window_last;
        weekdays = weekdays;
        days = days;
        ordinals = ordinals;
        positions = positions;
        months = months;
      }

  ordinals_in_lem : ordinals_in p ≡ ordinals_for g.days
  unfolding parts_given
  ordinals_in_lem = ordinals_are g.days

  positions_in_lem : ends_in p.positions ≡ positions_for g.positions
  unfolding parts_given
  positions_in_lem = positions_are g.positions

  endless_in : endless p start ≡ frame p.frequency (weekdays_in p first) (days_in p first) (ordinals_in p) (ends_in p.positions) (months_in p first)
  unfolding endless parts_given
  endless_in = refl

  module _ (f : Frequency) (e : g.frequency ≡ Some f) (c : clashing f g ≡ false) where
    weekdays_in_lem : weekdays_in p first ≡ weekdays_of f g.days first
    unfolding weekdays_in parts_given
    weekdays_in_lem = rw (frequency_in_lem ps (Some f) e) (weekdays_is f g.days first)

    days_in_lem : days_in p first ≡ days_of f g.days g.month_days first
    unfolding days_in parts_given
    days_in_lem = rw (frequency_in_lem ps (Some f) e) (days_are f g.days g.month_days first (no_month_days f g c))

    months_in_lem : months_in p first ≡ months_of f g.days g.month_days g.months first
    unfolding months_in parts_given
    months_in_lem = rw (frequency_in_lem ps (Some f) e) (months_are f g.days g.month_days g.months first)

    -- the frame by the rule's own parts
    abbrev framed : Frequency → Rule
    framed h =
        frame (frequency_number h) (weekdays_of h g.days first) (days_of h g.days g.month_days first) (ordinals_for g.days) (positions_for g.positions)
        (months_of h g.days g.month_days g.months first)

    frame_in_lem : framed f ≡ ending_at window_last (rule_frame g start)
    unfolding rule_frame
    frame_in_lem = ap (λ (o : Option Frequency). framed (unwrap_or o daily)) (sym e)

    by_fields : frame p.frequency (weekdays_in p first) (days_in p first) (ordinals_in p) (ends_in p.positions) (months_in p first) ≡ framed f
    by_fields =
        ap₂ (λ (q w : ℕ). frame q w (days_in p first) (ordinals_in p) (ends_in p.positions) (months_in p first)) (frequency_in_lem ps (Some f) e) weekdays_in_lem
        ∙ ap₂ (λ (d : Ends) (m : ℕ). frame (frequency_number f) (weekdays_of f g.days first) d (ordinals_in p) (ends_in p.positions) m) days_in_lem months_in_lem
        ∙ ap₂ (λ (o s : Ends). frame (frequency_number f) (weekdays_of f g.days first) (days_of f g.days g.month_days first) o s (months_of f g.days g.month_days g.months first))
        ordinals_in_lem positions_in_lem

  endless_by : (o : Option Frequency) → g.frequency ≡ o → by_frequency o g ≡ true
      → endless p start ≡ ending_at window_last (rule_frame g start)
  unfolding by_frequency
  endless_by None e t = absurd (false≢true t)
  endless_by (Some f) e t = let c = not-true (clashing f g) t in endless_in ∙ by_fields f e c ∙ frame_in_lem f e c

  -- parts that go together
  pub endless_is : parts_together ps ≡ true → endless p start ≡ ending_at window_last (rule_frame g start)
  endless_is t = endless_by g.frequency refl (parts_together_lem ps t).frequency
