-- The day set of a rule's frame is that of the rule.
use Rattle.std.specs.Prelude.{Option, None, Some, unwrap_or}
use mathlib.Core.Bool.{Bool, true, false, ◌&&◌, ◌||◌, and_comm, and-true, or-false}
use mathlib.Core.List.{List}
use mathlib.Core.Path.{◌≡◌, refl, sym, ap, ap₂, ◌∙◌}
use Prim.Native.Nat.{ℕ, ◌/◌, ◌^◌, ◌<◌}
use native.Mathlib.Omega.{arith}
use borrow.Author.Tests.{eq-eqb}
use lib.Dec.{eqb}
use Rattle.calendar.specs.Below.{any_of}
use Rattle.calendar.specs.Window.{local_date, local_weekday, from_end, day_minutes, window_days}
use Rattle.frames.proofs.Allowed.{any_weekday, plain_weekday}
use Rattle.frames.specs.Rule.{no_limit, month_day_allowed, weekday_allowed, month_allowed, in_set}
use Rattle.frames.specs.declared.Ends.{Ends}
use Rattle.frames.specs.declared.Rule.{Rule}
use Rattle.masks.proofs.Bits.{bit_of_power, bit_of_zero}
use Rattle.masks.specs.Masks.{bit}
use Rattle.sheet.specs.Form.{Entry, Frequency, daily, weekly, monthly, yearly}
use Rattle.sheet.specs.Meaning.{entry_has, month_day_has, month_number, month_has, month_or, allows, day_set}
use Rattle.sheet.specs.Parts.{Given}
use Rattle.sheet.specs.Range.{day_number_in_range, month_in_range}
use Rattle.sheet.specs.Words.{Signed}
use Rattle.framed.specs.Framed.{nothing, ends_of, month_mask, weekdays_of, days_or, days_of, month_limit, months_of, frequency_number}
use Rattle.framed.proofs.Ends.{bit_not_zero, ends_hold, ends_limit, month_bit, months_limit}
use Rattle.framed.proofs.Goods.{Good, given_passes}
use Rattle.framed.proofs.Listed.{listed}
use Rattle.framed.proofs.Ordinals.{ordinal_ends, entry_good, entries_hold, entries_limit}

-- the frame of a rule but for *last*
abbrev pub ordinals_for : Option (List Entry) → Ends
ordinals_for o = elim o [ None ↦ nothing | Some es ↦ ordinal_ends es ]

abbrev pub positions_for : Option (List Signed) → Ends
positions_for o = elim o [ None ↦ nothing | Some ns ↦ ends_of ns ]

pub record Framed (f : Frequency) (g : Given) (first : ℕ) (r : Rule) : Type 0 where
  pub frequency : r.frequency ≡ frequency_number f
  pub interval : r.interval ≡ unwrap_or g.interval 1
  pub start : r.start / day_minutes ≡ first
  pub weekdays : r.weekdays ≡ weekdays_of f g.days first
  pub days : r.days ≡ days_of f g.days g.month_days first
  pub ordinals : r.ordinals ≡ ordinals_for g.days
  pub positions : r.positions ≡ positions_for g.positions
  pub months : r.months ≡ months_of f g.days g.month_days g.months first

pub power_limits : (x : ℕ) → eqb (2 ^ x) 0 ≡ false
power_limits x = bit_not_zero (λ m. m) refl (2 ^ x) x (bit_of_power x x ∙ eq-eqb x x refl)

module _ (first d : ℕ) (h : d < window_days) where
  -- ---- month days
  abbrev limit_has : Ends → Bool
  limit_has e = no_limit e || (bit e.front (local_date d).day || bit e.back (from_end d))

  numbers_have : (ns : List Signed) → listed day_number_in_range ns ≡ true → limit_has (ends_of ns) ≡ any_of (month_day_has d) ns
  unfolding month_day_has
  numbers_have ns l = rw (ends_limit ns l) (ends_hold (local_date d).day (from_end d) ns l)

  own_day_has : limit_has (record { front = 2 ^ (local_date first).day; back = 0 }) ≡ eqb (local_date d).day (local_date first).day
  own_day_has =
      let x : ℕ = (local_date first).day in
      rw (power_limits x, bit_of_power x (local_date d).day, bit_of_zero (from_end d)) (or-false (eqb (local_date d).day x))

  -- what the month days say of the day, where they are given or not
  abbrev day_or_own : Option (List Entry) → Option (List Signed) → Bool
  day_or_own es (Some ns) = any_of (month_day_has d) ns
  day_or_own (Some es) None = true
  day_or_own None None = eqb (local_date d).day (local_date first).day

  day_or_own_lem : (es : Option (List Entry)) (ns : Option (List Signed)) → given_passes (listed day_number_in_range) ns ≡ true
      → limit_has (days_or es ns first) ≡ day_or_own es ns
  day_or_own_lem es (Some ns) l = numbers_have ns l
  day_or_own_lem (Some es) None l = refl
  day_or_own_lem None None l = own_day_has

  abbrev month_days_have : Frequency → Option (List Entry) → Option (List Signed) → Bool
  month_days_have weekly es ns = true
  month_days_have daily es ns = allows (month_day_has d) ns
  month_days_have monthly es ns = day_or_own es ns
  month_days_have yearly es ns = day_or_own es ns

  month_days_have_lem : (f : Frequency) (es : Option (List Entry)) (ns : Option (List Signed)) → given_passes (listed day_number_in_range) ns ≡ true
      → limit_has (days_of f es ns first) ≡ month_days_have f es ns
  unfolding days_of
  month_days_have_lem weekly es ns l = refl
  month_days_have_lem daily es None l = refl
  month_days_have_lem daily es (Some ns) l = numbers_have ns l
  month_days_have_lem monthly es ns l = day_or_own_lem es ns l
  month_days_have_lem yearly es ns l = day_or_own_lem es ns l

  -- ---- weekdays
  abbrev entries_have : Frequency → Option (List Entry) → Bool
  entries_have f (Some es) = any_of (entry_has d) es
  entries_have daily None = true
  entries_have weekly None = eqb (local_weekday d) (local_weekday first)
  entries_have monthly None = true
  entries_have yearly None = true

  entries_have_lem : (r : Rule) (f : Frequency) (es : Option (List Entry)) → r.weekdays ≡ weekdays_of f es first → r.ordinals ≡ ordinals_for es
      → given_passes (listed entry_good) es ≡ true → weekday_allowed r (local_date d).day (from_end d) (local_weekday d) ≡ entries_have f es
  unfolding weekdays_of weekday_allowed
  entries_have_lem r f (Some es) w o l = rw (w, o, entries_limit es l) (entries_hold d h es)
  entries_have_lem r daily None w o l = any_weekday r (local_date d).day (from_end d) (local_weekday d) (rw o refl) w
  entries_have_lem r weekly None w o l =
      let x : ℕ = local_weekday first in
      plain_weekday r (local_date d).day (from_end d) (local_weekday d) (rw o refl) (rw w (power_limits x))
      ∙ rw w (bit_of_power x (local_weekday d))
  entries_have_lem r monthly None w o l = any_weekday r (local_date d).day (from_end d) (local_weekday d) (rw o refl) w
  entries_have_lem r yearly None w o l = any_weekday r (local_date d).day (from_end d) (local_weekday d) (rw o refl) w

  -- ---- months
  months_hold : (ms : List ℕ) → listed month_in_range ms ≡ true → month_allowed (month_mask ms) (month_number d) ≡ any_of (month_has d) ms
  unfolding month_has
  months_hold ms l = rw (months_limit ms l) (month_bit ms (month_number d) (omega arith) (omega arith))

  own_month_has : month_allowed (2 ^ month_number first) (month_number d) ≡ month_has d (month_number first)
  unfolding month_has
  own_month_has = rw (power_limits (month_number first)) (bit_of_power (month_number first) (month_number d))

  limit_has_lem : (ms : Option (List ℕ)) → given_passes (listed month_in_range) ms ≡ true
      → month_allowed (month_limit ms) (month_number d) ≡ allows (month_has d) ms
  limit_has_lem None l = refl
  limit_has_lem (Some ms) l = months_hold ms l

  abbrev months_have : Frequency → Option (List Entry) → Option (List Signed) → Option (List ℕ) → Bool
  months_have daily es ns ms = allows (month_has d) ms
  months_have weekly es ns ms = allows (month_has d) ms
  months_have monthly es ns ms = allows (month_has d) ms
  months_have yearly es ns ms = month_or es ns ms first d

  months_have_lem : (f : Frequency) (es : Option (List Entry)) (ns : Option (List Signed)) (ms : Option (List ℕ))
      → given_passes (listed month_in_range) ms ≡ true
      → month_allowed (months_of f es ns ms first) (month_number d) ≡ months_have f es ns ms
  unfolding months_of month_or
  months_have_lem daily es ns ms l = limit_has_lem ms l
  months_have_lem weekly es ns ms l = limit_has_lem ms l
  months_have_lem monthly es ns ms l = limit_has_lem ms l
  months_have_lem yearly None None None l = own_month_has
  months_have_lem yearly None None (Some ms) l = months_hold ms l
  months_have_lem yearly None (Some ns) ms l = limit_has_lem ms l
  months_have_lem yearly (Some es) ns ms l = limit_has_lem ms l

  -- ---- all of them
  day_set_has : (f : Frequency) (g : Given) (es : Option (List Entry)) (ns : Option (List Signed)) (ms : Option (List ℕ))
      → g.days ≡ es
      → g.month_days ≡ ns
      → g.months ≡ ms
      → day_set f g first d ≡ (months_have f es ns ms && (month_days_have f es ns && entries_have f es))
  unfolding day_set
  day_set_has daily g None ns ms e n m = rw (e, n, m, and-true) refl
  day_set_has daily g (Some es) ns ms e n m = rw (e, n, m, and_comm (any_of (entry_has d) es) (allows (month_day_has d) ns)) refl
  day_set_has weekly g None ns ms e n m = rw (e, m) refl
  day_set_has weekly g (Some es) ns ms e n m = rw (e, m) refl
  day_set_has monthly g None None ms e n m = rw (e, n, m, and-true) refl
  day_set_has monthly g None (Some ns) ms e n m = rw (e, n, m, and-true) refl
  day_set_has monthly g (Some es) None ms e n m = rw (e, n, m) refl
  day_set_has monthly g (Some es) (Some ns) ms e n m = rw (e, n, m, and_comm (any_of (entry_has d) es) (any_of (month_day_has d) ns)) refl
  day_set_has yearly g None None None e n m = rw (e, n, m, and-true) refl
  day_set_has yearly g None None (Some ms) e n m = rw (e, n, m, and-true) refl
  day_set_has yearly g None (Some ns) ms e n m = rw (e, n, m, and-true) refl
  day_set_has yearly g (Some es) None ms e n m = rw (e, n, m) refl
  day_set_has yearly g (Some es) (Some ns) ms e n m = rw (e, n, m, and_comm (any_of (entry_has d) es) (any_of (month_day_has d) ns)) refl

module _ (f : Frequency) (g : Given) (first : ℕ) (r : Rule) (a : Framed f g first r) (good : Good g) (d : ℕ) (h : d < window_days) where
  pub in_set_is : in_set r d ≡ day_set f g first d
  unfolding in_set month_day_allowed
  in_set_is =
      ap₂ ◌&&◌
      (ap (λ (months : ℕ). month_allowed months (month_number d)) a.months ∙ months_have_lem first d h f g.days g.month_days g.months good.months)
      (ap₂ ◌&&◌ (ap (limit_has first d h) a.days ∙ month_days_have_lem first d h f g.days g.month_days good.month_days)
      (entries_have_lem first d h r f g.days a.weekdays a.ordinals good.days))
      ∙ sym (day_set_has first d h f g g.days g.month_days g.months refl refl refl)
