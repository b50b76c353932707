-- A rule's frame has the limits that go with its frequency, and those that are wanted.
use Rattle.std.specs.Prelude.{Option, None, Some}
use mathlib.Core.Bool.{Bool, true, false, not, ◌&&◌, ◌||◌, and-true, or-true, or-false, false≢true}
use mathlib.Core.List.{List, [], ◌∷◌}
use mathlib.Core.Path.{◌≡◌, refl, sym, ap, ◌∙◌}
use Prim.Native.Nat.{ℕ, ◌^◌}
use native.Mathlib.Omega.{arith}
use lib.Dec.{ltb, eqb}
use Rattle.calendar.proofs.Every.{both, neither}
use Rattle.calendar.specs.Below.{any_of}
use Rattle.calendar.specs.Window.{local_date, local_weekday}
use Rattle.framed.proofs.Ends.{ends_limit, months_limit}
use Rattle.framed.proofs.Goods.{Good, given_passes}
use Rattle.framed.proofs.Listed.{listed}
use Rattle.framed.proofs.Ordinals.{ordinal_ends, entry_good, entries_limit}
use Rattle.framed.proofs.Sets.{Framed, ordinals_for, positions_for, power_limits}
use Rattle.framed.specs.Framed.{is_plain, is_ordinal as is_ordinal_of, ordinals_of, month_mask, weekdays_of, days_or, days_of, months_of}
use Rattle.frames.specs.Rule.{no_limit}
use Rattle.frames.specs.declared.Rule.{Rule}
use Rattle.masks.proofs.MaskFroms.{mask_none}
use Rattle.masks.specs.Masks.{mask_from}
use Rattle.plan.specs.Taken.{any_day, frequency_good}
use Rattle.sheet.specs.Form.{Entry, plain, ordinal, Frequency, daily, weekly, monthly, yearly}
use Rattle.sheet.specs.Parts.{Given, is_given, is_ordinal, ordinals, clashing}
use Rattle.sheet.specs.Range.{day_number_in_range, month_in_range}
use Rattle.sheet.specs.Words.{Signed}
use Rattle.demands.proofs.MaskGoods.{not_zero}

-- the limits of each frequency
module _ (f : Rule) where
  daily_good : f.frequency ≡ 1 → frequency_good f ≡ (no_limit f.ordinals && no_limit f.positions)
  unfolding frequency_good
  daily_good e = rw e (or-false (no_limit f.ordinals && no_limit f.positions))

  weekly_good : f.frequency ≡ 2
      → frequency_good f ≡ (ltb 0 f.weekdays && (no_limit f.days && (no_limit f.ordinals && no_limit f.positions)))
  unfolding frequency_good
  weekly_good e = rw e (or-false (ltb 0 f.weekdays && (no_limit f.days && (no_limit f.ordinals && no_limit f.positions))))

  monthly_good : f.frequency ≡ 3 → frequency_good f ≡ any_day f
  unfolding frequency_good
  monthly_good e = rw e (or-false (any_day f))

  yearly_good : f.frequency ≡ 4 → frequency_good f ≡ (any_day f && (no_limit f.ordinals || ltb 0 f.months))
  unfolding frequency_good
  yearly_good e = rw e

-- without an ordinal in the list there is none in the frame
module _ (minus : Bool) where
  no_entry : (k w : ℕ) (es : List Entry) → any_of is_ordinal es ≡ false → any_of (is_ordinal_of minus k w) es ≡ false
  no_entry k w [] e = refl
  no_entry k w (plain v ∷ es) e = no_entry k w es e
  no_entry k w (ordinal n v ∷ es) e = absurd (false≢true (sym e))

  module _ (es : List Entry) (e : any_of is_ordinal es ≡ false) where
    no_mask : (k : ℕ) → mask_from (λ w. any_of (is_ordinal_of minus k w) es) 7 0 ≡ 0
    no_mask k = mask_none (λ w. any_of (is_ordinal_of minus k w) es) 7 0 (λ w l h. no_entry k w es e)

    no_group : ordinals_of minus es ≡ 0
    unfolding ordinals_of
    no_group = omega (arith, no_mask 1, no_mask 2, no_mask 3, no_mask 4, no_mask 5)

no_ordinals : (es : Option (List Entry)) → ordinals es ≡ false → no_limit (ordinals_for es) ≡ true
no_ordinals None e = refl
no_ordinals (Some es) e = rw (no_group false es e, no_group true es e) refl

no_positions : (ns : Option (List Signed)) → is_given ns ≡ false → no_limit (positions_for ns) ≡ true
no_positions None e = refl
no_positions (Some ns) e = absurd (false≢true (sym e))

-- a weekly rule has a weekday
weekly_days : (es : Option (List Entry)) (first : ℕ) → given_passes (listed entry_good) es ≡ true → ordinals es ≡ false
    → ltb 0 (weekdays_of weekly es first) ≡ true
unfolding weekdays_of
weekly_days None first l e = not_zero (2 ^ local_weekday first) (power_limits (local_weekday first))
weekly_days (Some es) first l e =
    let m : ℕ = mask_from (λ w. any_of (is_plain w) es) 7 0 in
    not_zero m (sym (and-true (eqb m 0)) ∙ ap (λ (b : Bool). eqb m 0 && b) (sym (no_ordinals (Some es) e)) ∙ entries_limit es l)

-- a monthly or yearly rule has a month day or a weekday
either_limit : (a b c : Bool) → (a && c) ≡ false → (a && (b && c)) ≡ false
either_limit true true c e = e
either_limit true false c e = refl
either_limit false b c e = refl

abbrev plain_or0 : Option (List Entry) → ℕ
plain_or0 None = 0
plain_or0 (Some es) = mask_from (λ w. any_of (is_plain w) es) 7 0

some_day : (first : ℕ) (es : Option (List Entry)) (ns : Option (List Signed)) → given_passes (listed entry_good) es ≡ true
    → given_passes (listed day_number_in_range) ns ≡ true
    → (eqb (plain_or0 es) 0 && (no_limit (days_or es ns first) && no_limit (ordinals_for es))) ≡ false
some_day first (Some es) ns l d =
    either_limit (eqb (mask_from (λ w. any_of (is_plain w) es) 7 0) 0) (no_limit (days_or (Some es) ns first)) (no_limit (ordinal_ends es)) (entries_limit es l)
some_day first None (Some ns) l d = rw (ends_limit ns d) refl
some_day first None None l d = rw (power_limits (local_date first).day) refl

-- where no weekday is filled in
given_weekdays : (f : Frequency) (es : Option (List Entry)) (first : ℕ) → weekdays_of f None first ≡ 0 → weekdays_of f es first ≡ plain_or0 es
unfolding weekdays_of
given_weekdays f None first e = e
given_weekdays f (Some es) first e = refl

given_monthly : (first : ℕ) → weekdays_of monthly None first ≡ 0
unfolding weekdays_of
given_monthly first = refl

given_yearly : (first : ℕ) → weekdays_of yearly None first ≡ 0
unfolding weekdays_of
given_yearly first = refl

-- and a yearly one with an ordinal a month
months_named : (es : Option (List Entry)) (ns : Option (List Signed)) (ms : Option (List ℕ)) (first : ℕ) → given_passes (listed month_in_range) ms ≡ true
    → (ordinals es && not (is_given ms)) ≡ false
    → (no_limit (ordinals_for es) || ltb 0 (months_of yearly es ns ms first)) ≡ true
unfolding months_of
months_named None ns ms first g c = refl
months_named (Some es) ns None first g c = rw (no_ordinals (Some es) (sym (and-true (any_of is_ordinal es)) ∙ c)) refl
months_named (Some es) ns (Some ms) first g c = rw (not_zero (month_mask ms) (months_limit ms g)) (or-true (no_limit (ordinal_ends es)))

module _ (g : Given) (first : ℕ) (r : Rule) (good : Good g) where
  pub frequency_good_lem : (f : Frequency) → Framed f g first r → clashing f g ≡ false → frequency_good r ≡ true
  unfolding clashing days_of
  frequency_good_lem daily a c =
      let p = neither (ordinals g.days) (is_given g.positions) c in
      daily_good r a.frequency
      ∙ rw (a.ordinals, a.positions) (both (no_ordinals g.days p.0) (no_positions g.positions p.1))
  frequency_good_lem weekly a c =
      let p = neither (ordinals g.days) (is_given g.positions || is_given g.month_days) c in
      let q = neither (is_given g.positions) (is_given g.month_days) p.1 in
      weekly_good r a.frequency
      ∙ rw (a.weekdays, a.days, a.ordinals, a.positions)
      (both (weekly_days g.days first good.days p.0) (both (no_ordinals g.days p.0) (no_positions g.positions q.0)))
  frequency_good_lem monthly a c =
      monthly_good r a.frequency
      ∙ rw (a.weekdays, a.days, a.ordinals, given_weekdays monthly g.days first (given_monthly first))
      (ap not (some_day first g.days g.month_days good.days good.month_days))
  frequency_good_lem yearly a c =
      let p = (neither (ordinals g.days && not (is_given g.months)) _ c).0 in
      yearly_good r a.frequency
      ∙ rw (a.weekdays, a.days, a.ordinals, a.months, given_weekdays yearly g.days first (given_yearly first))
      (both (ap not (some_day first g.days g.month_days good.days good.month_days))
      (months_named g.days g.month_days g.months first good.months p))
