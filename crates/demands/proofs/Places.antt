-- The masks of a rule's frame have only named bits.
use Rattle.std.specs.Prelude.{Option, None, Some}
use mathlib.Core.Bool.{Bool, true, false}
use mathlib.Core.List.{List}
use mathlib.Core.Path.{◌≡◌, refl}
use Prim.Native.Nat.{ℕ, ◌^◌, ◌<◌, ◌≤◌}
use native.Mathlib.Omega.{arith}
use borrow.Author.Tests.{lt-ltb}
use lib.Dec.{eqb}
use Rattle.calendar.proofs.Every.{both}
use Rattle.calendar.specs.Below.{any_of}
use Rattle.calendar.specs.Window.{local_date, local_weekday, window_days}
use Rattle.framed.proofs.Counted.{place_low, place_high}
use Rattle.framed.proofs.Ends.{end_of, signed_as}
use Rattle.framed.proofs.Ordinals.{ordinal_mask_lem}
use Rattle.framed.proofs.Sets.{Framed, ordinals_for, positions_for}
use Rattle.framed.specs.Framed.{is_plain, is_ordinal, ends_of, ordinals_of, month_mask, weekdays_of, days_or, days_of, month_limit, months_of}
use Rattle.frames.proofs.MonthDays.{weekday_at_most}
use Rattle.frames.specs.Rule.{ordinal_mask}
use Rattle.frames.specs.declared.Rule.{Rule}
use Rattle.masks.proofs.MaskFroms.{mask_from_below}
use Rattle.masks.specs.Masks.{mask_from}
use Rattle.plan.specs.Taken.{only_bits, pair_good, ordinals_good, places_good}
use Rattle.sheet.specs.Form.{Entry, Frequency, daily, weekly, monthly, yearly}
use Rattle.sheet.specs.Meaning.{month_number}
use Rattle.sheet.specs.Parts.{Given}
use Rattle.sheet.specs.Words.{Signed}
use Rattle.demands.proofs.MaskGoods.{mask_only, power_only}

weekdays_only : (f : Frequency) (es : Option (List Entry)) (first : ℕ) → only_bits 0 6 (weekdays_of f es first) ≡ true
unfolding weekdays_of
weekdays_only f (Some es) first = mask_only 0 6 (λ w. any_of (is_plain w) es) 7 refl
weekdays_only daily None first = refl
weekdays_only weekly None first = power_only 0 6 (local_weekday first) (omega arith) (omega (arith, weekday_at_most first))
weekdays_only monthly None first = refl
weekdays_only yearly None first = refl

-- a list of month days or positions
numbers_only : (ns : List Signed) → pair_good (ends_of ns) ≡ true
unfolding ends_of
numbers_only ns =
    both (mask_only 1 31 (λ n. any_of (signed_as false n) ns) 31 refl) (mask_only 1 31 (λ n. any_of (signed_as true n) ns) 31 refl)

positions_only : (ns : Option (List Signed)) → pair_good (positions_for ns) ≡ true
positions_only None = refl
positions_only (Some ns) = numbers_only ns

own_or_given : (es : Option (List Entry)) (ns : Option (List Signed)) (first : ℕ) → first < window_days → pair_good (days_or es ns first) ≡ true
own_or_given es (Some ns) first h = numbers_only ns
own_or_given (Some es) None first h = refl
own_or_given None None first h =
    both (power_only 1 31 (local_date first).day (place_low false first h) (place_high false first h)) refl

days_only : (f : Frequency) (es : Option (List Entry)) (ns : Option (List Signed)) (first : ℕ) → first < window_days
    → pair_good (days_of f es ns first) ≡ true
unfolding days_of
days_only daily es None first h = refl
days_only daily es (Some ns) first h = numbers_only ns
days_only weekly es ns first h = refl
days_only monthly es ns first h = own_or_given es ns first h
days_only yearly es ns first h = own_or_given es ns first h

-- months
given_months : (ms : Option (List ℕ)) → only_bits 1 12 (month_limit ms) ≡ true
unfolding month_mask
given_months None = refl
given_months (Some ms) = mask_only 1 12 (λ n. any_of (eqb n) ms) 12 refl

months_only : (f : Frequency) (es : Option (List Entry)) (ns : Option (List Signed)) (ms : Option (List ℕ)) (first : ℕ)
    → only_bits 1 12 (months_of f es ns ms first) ≡ true
unfolding months_of
months_only daily es ns ms first = given_months ms
months_only weekly es ns ms first = given_months ms
months_only monthly es ns ms first = given_months ms
months_only yearly None None None first = power_only 1 12 (month_number first) (omega arith) (omega arith)
months_only yearly None None (Some ms) first = given_months (Some ms)
months_only yearly None (Some ns) ms first = given_months ms
months_only yearly (Some es) ns ms first = given_months ms

module _ (minus : Bool) (es : List Entry) where
  ordinal_only : (k : ℕ) → 1 ≤ k → k ≤ 5 → only_bits 0 6 (ordinal_mask (ordinals_of minus es) k) ≡ true
  ordinal_only k l h = rw (ordinal_mask_lem minus es k l h) (mask_only 0 6 (λ w. any_of (is_ordinal minus k w) es) 7 refl)

  small : (k : ℕ) → mask_from (λ w. any_of (is_ordinal minus k w) es) 7 0 < 128
  small k = mask_from_below (λ w. any_of (is_ordinal minus k w) es) 7 0

  ordinals_below : ordinals_of minus es < 256 ^ 5
  unfolding ordinals_of
  ordinals_below = omega (arith, small 1, small 2, small 3, small 4, small 5)

  ordinals_only : ordinals_good (ordinals_of minus es) ≡ true
  ordinals_only =
      both (lt-ltb (ordinals_of minus es) (256 ^ 5) ordinals_below)
      (both (ordinal_only 1 (omega arith) (omega arith))
      (both (ordinal_only 2 (omega arith) (omega arith))
      (both (ordinal_only 3 (omega arith) (omega arith)) (both (ordinal_only 4 (omega arith) (omega arith)) (ordinal_only 5 (omega arith) (omega arith))))))

ordinals_end : (minus : Bool) (es : Option (List Entry)) → ordinals_good (end_of minus (ordinals_for es)) ≡ true
ordinals_end true None = refl
ordinals_end false None = refl
ordinals_end true (Some es) = ordinals_only true es
ordinals_end false (Some es) = ordinals_only false es

pub places_good_lem : (f : Frequency) (g : Given) (first : ℕ) (r : Rule) → Framed f g first r → first < window_days → places_good r ≡ true
unfolding places_good
places_good_lem f g first r a h =
    rw (a.weekdays, a.days, a.ordinals, a.positions, a.months)
    (both (weekdays_only f g.days first)
    (both (days_only f g.days g.month_days first h) (both (ordinals_end false g.days) (both (ordinals_end true g.days) (both (positions_only g.positions) (months_only f g.days g.month_days g.months first))))))
