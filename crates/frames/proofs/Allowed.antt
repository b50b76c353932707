-- The limits of a rule where one of their parts is not given.
use mathlib.Core.Bool.{true, false, ◌||◌, and-false, or-false}
use mathlib.Core.Path.{◌≡◌, refl}
use Prim.Native.Nat.{ℕ, ◌-◌, ◌^◌}
use native.Mathlib.Nat.{zero-div}
use borrow.Author.Tests.{eqb-true}
use lib.Dec.{eqb}
use Rattle.calendar.proofs.Every.{both_true}
use Rattle.masks.proofs.Bits.{bit_of_zero}
use Rattle.masks.specs.Masks.{bit}
use Rattle.frames.specs.Rule.{no_limit, month_day_allowed, ordinal_mask, ordinal_allowed, weekday_allowed}
use Rattle.frames.specs.declared.Ends.{Ends}
use Rattle.frames.specs.declared.Rule.{Rule}

module _ (f : Rule) (day back : ℕ) where
  pub any_day_lem : no_limit f.days ≡ true → month_day_allowed f day back ≡ true
  unfolding month_day_allowed
  any_day_lem l = rw l refl

  pub given_day : no_limit f.days ≡ false → month_day_allowed f day back ≡ (bit f.days.front day || bit f.days.back back)
  unfolding month_day_allowed
  given_day l = rw l refl

-- no ordinal
no_bit : (n i : ℕ) → bit (ordinal_mask 0 n) i ≡ false
no_bit n i = rw (zero-div (256 ^ (5 - n))) (bit_of_zero i)

no_ordinal : (e : Ends) (day back weekday : ℕ) → no_limit e ≡ true → ordinal_allowed e day back weekday ≡ false
no_ordinal e day back weekday l =
    let p = both_true (eqb e.front 0) (eqb e.back 0) l in
    simp (eqb-true e.front 0 p.0, eqb-true e.back 0 p.1, no_bit)

module _ (f : Rule) (day back weekday : ℕ) where
  pub any_weekday : no_limit f.ordinals ≡ true → f.weekdays ≡ 0 → weekday_allowed f day back weekday ≡ true
  unfolding weekday_allowed
  any_weekday l z = rw (l, z) refl

  pub plain_weekday : no_limit f.ordinals ≡ true → eqb f.weekdays 0 ≡ false
      → weekday_allowed f day back weekday ≡ bit f.weekdays weekday
  unfolding weekday_allowed
  plain_weekday l w = rw (w, no_ordinal f.ordinals day back weekday l) (or-false (bit f.weekdays weekday))

  pub ordinal_weekday : no_limit f.ordinals ≡ false
      → weekday_allowed f day back weekday ≡ (bit f.weekdays weekday || ordinal_allowed f.ordinals day back weekday)
  unfolding weekday_allowed
  ordinal_weekday l = rw (l, and-false (eqb f.weekdays 0)) refl
