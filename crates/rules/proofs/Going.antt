-- The parts of a rule go together, in numbers as on the sheet.
use Rattle.std.specs.Prelude.{Option, None, Some}
use Rattle.std.specs.Option.{is_some, option_map}
use mathlib.Core.Bool.{Bool, true, false, not, ◌&&◌, ◌||◌}
use mathlib.Core.List.{List}
use mathlib.Core.Path.{◌≡◌, refl, ap, ap₂, ◌∙◌}
use Prim.Native.Nat.{ℕ}
use native.Mathlib.Omega.{arith}
use borrow.Author.Tests.{ne_eqb}
use Rattle.parts.specs.Given.{frequency_from, until_from, days_from, parts_given}
use Rattle.entries.specs.Lists.{weekdays_given, numbers_given, months_given}
use Rattle.parts.specs.declared.given.Parts.{Parts}
use Rattle.sheet.specs.Form.{Time, Entry, Frequency, daily, weekly, monthly, yearly, Part}
use Rattle.sheet.specs.Parts.{Given, given_of, is_given, given_twice, ordinals, clashing, by_frequency, parts_together}
use Rattle.rules.specs.Ruled.{neither_in, placed_in, ordinal_in, by_frequency_in, together_in}

-- the parts that go with each frequency
module _ (p : Parts) where
  pub daily_in : p.frequency ≡ 1 → by_frequency_in p ≡ (not (ordinal_in p) && not (is_some p.positions))
  unfolding by_frequency_in
  daily_in e = rw e refl

  pub weekly_in : p.frequency ≡ 2 → by_frequency_in p ≡ (not (ordinal_in p) && (not (is_some p.positions) && not (is_some p.days)))
  unfolding by_frequency_in
  weekly_in e = rw e refl

  pub monthly_in : p.frequency ≡ 3 → by_frequency_in p ≡ placed_in p
  unfolding by_frequency_in
  monthly_in e = rw e refl

  pub yearly_in : p.frequency ≡ 4 → by_frequency_in p ≡ (not (ordinal_in p && not (is_some p.months)) && placed_in p)
  unfolding by_frequency_in
  yearly_in e = rw e refl

  pub none_in : (p.frequency ≡ 1 → ⊥) → (p.frequency ≡ 2 → ⊥) → (p.frequency ≡ 3 → ⊥) → (p.frequency ≡ 4 → ⊥) → by_frequency_in p ≡ false
  unfolding by_frequency_in
  none_in a b c d = rw (ne_eqb p.frequency 1 a, ne_eqb p.frequency 2 b, ne_eqb p.frequency 3 c, ne_eqb p.frequency 4 d)

-- whether a part is given
pub count_given : (o : Option ℕ) → is_some o ≡ is_given o
count_given None = refl
count_given (Some n) = refl

pub until_given : (o : Option Time) → is_some (until_from o) ≡ is_given o
until_given None = refl
until_given (Some t) = refl

list_given : {A B : Type 0} (f : A → B) (o : Option A) → is_some (option_map f o) ≡ is_given o
list_given f None = refl
list_given f (Some x) = refl

pub ordinal_given : (o : Option (List Entry)) → elim (days_from o) [ None ↦ false | Some w ↦ w.ordinal ] ≡ ordinals o
unfolding weekdays_given
ordinal_given None = refl
ordinal_given (Some es) = refl

neither : (a b : Bool) → (not a && not b) ≡ not (a || b)
neither true b = refl
neither false b = refl

none_of : (a b c : Bool) → (not a && (not b && not c)) ≡ not (a || (b || c))
none_of true b c = refl
none_of false b c = neither b c

module _ (ps : List Part) where
  abbrev g : Given
  g = given_of ps

  abbrev p : Parts
  p = parts_given ps

  pub frequency_in_lem : (o : Option Frequency) → g.frequency ≡ o → p.frequency ≡ frequency_from o
  unfolding parts_given
  frequency_in_lem o e = ap frequency_from e

  ordinal_in_lem : ordinal_in p ≡ ordinals g.days
  unfolding parts_given
  ordinal_in_lem = ordinal_given g.days

  weekdays_in_lem : is_some p.weekdays ≡ is_given g.days
  unfolding parts_given
  weekdays_in_lem = list_given weekdays_given g.days

  days_in_lem : is_some p.days ≡ is_given g.month_days
  unfolding parts_given
  days_in_lem = list_given numbers_given g.month_days

  positions_in_lem : is_some p.positions ≡ is_given g.positions
  unfolding parts_given
  positions_in_lem = list_given numbers_given g.positions

  months_in_lem : is_some p.months ≡ is_given g.months
  unfolding parts_given
  months_in_lem = list_given months_given g.months

  placeless_in : (is_some p.positions && neither_in p) ≡ (is_given g.positions && not (is_given g.days || is_given g.month_days))
  placeless_in =
      ap₂ ◌&&◌ positions_in_lem (neither (is_some p.weekdays) (is_some p.days) ∙ ap₂ (λ (a b : Bool). not (a || b)) weekdays_in_lem days_in_lem)

  ends_in : (is_some p.count && is_some p.until) ≡ (is_given g.count && is_given g.until)
  unfolding parts_given
  ends_in = ap₂ ◌&&◌ (count_given g.count) (until_given g.until)

  twice_in : p.twice ≡ given_twice ps
  unfolding parts_given
  twice_in = refl

  by_frequency_is : (o : Option Frequency) → g.frequency ≡ o → by_frequency_in p ≡ by_frequency o g
  unfolding by_frequency clashing
  by_frequency_is None e =
      let z : p.frequency ≡ 0 = frequency_in_lem None e in
      none_in p (λ a. omega arith) (λ a. omega arith) (λ a. omega arith) (λ a. omega arith)
  by_frequency_is (Some daily) e =
      daily_in p (frequency_in_lem (Some daily) e) ∙ neither (ordinal_in p) (is_some p.positions)
      ∙ ap₂ (λ (a b : Bool). not (a || b)) ordinal_in_lem positions_in_lem
  by_frequency_is (Some weekly) e =
      weekly_in p (frequency_in_lem (Some weekly) e) ∙ none_of (ordinal_in p) (is_some p.positions) (is_some p.days)
      ∙ ap₂ (λ (a b : Bool). not (a || b)) ordinal_in_lem (ap₂ ◌||◌ positions_in_lem days_in_lem)
  by_frequency_is (Some monthly) e = monthly_in p (frequency_in_lem (Some monthly) e) ∙ ap not placeless_in
  by_frequency_is (Some yearly) e =
      yearly_in p (frequency_in_lem (Some yearly) e) ∙ neither (ordinal_in p && not (is_some p.months)) (is_some p.positions && neither_in p)
      ∙ ap₂ (λ (a b : Bool). not (a || b)) (ap₂ (λ (a b : Bool). a && not b) ordinal_in_lem months_in_lem) placeless_in

  pub together_is : together_in p ≡ parts_together ps
  unfolding together_in parts_together
  together_is = ap₂ (λ (a b : Bool). not a && b) twice_in (ap₂ (λ (a b : Bool). not a && b) ends_in (by_frequency_is g.frequency refl))
