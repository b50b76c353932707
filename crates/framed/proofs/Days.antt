-- The days of a rule's frame are those of the rule, COUNT and UNTIL left out.
use Rattle.std.specs.Prelude.{Option, None, Some, unwrap_or}
use mathlib.Core.Bool.{Bool, true, false, ◌&&◌, ◌||◌}
use mathlib.Core.List.{List}
use mathlib.Core.Path.{◌≡◌, refl, ap, ap₂, ◌∙◌}
use Prim.Native.Nat.{ℕ, ◌-◌, ◌/◌, ◌%◌, ◌<◌}
use native.Mathlib.Omega.{arith}
use lib.Dec.{leb, eqb}
use Rattle.calendar.specs.Window.{day_minutes, window_days, window_minutes}
use Rattle.frames.specs.Rule.{no_limit, in_set, placed, period, counts, rule_day, rule_occurs}
use Rattle.frames.specs.declared.Ends.{Ends}
use Rattle.frames.specs.declared.Rule.{Rule}
use Rattle.masks.specs.Masks.{bit}
use Rattle.sheet.specs.Form.{Time, Part, Frequency, daily, weekly, monthly, yearly, rule}
use Rattle.sheet.specs.Meaning.{place_in, allows, day_set, position_has, period_of, occurs_on, occurs_at}
use Rattle.sheet.specs.Parts.{Given, given_of}
use Rattle.sheet.specs.Range.{day_number_in_range, minute_of, in_range}
use Rattle.sheet.specs.Words.{Signed}
use Rattle.framed.specs.Framed.{ends_of, rule_frame, frequency_number}
use Rattle.framed.proofs.Counted.{place_same}
use Rattle.framed.proofs.Ends.{ends_hold, ends_limit}
use Rattle.framed.proofs.Goods.{Good, given_passes, written, rule_good_lem}
use Rattle.framed.proofs.Listed.{listed}
use Rattle.framed.proofs.Sets.{Framed, positions_for, in_set_is}

module _ (r : Rule) (d : ℕ) where
  any_place : no_limit r.positions ≡ true → placed r d ≡ true
  unfolding placed
  any_place n = rw (n, placed) refl

  abbrev places_have : Frequency → (ℕ → Bool) → Ends → Bool
  places_have f set p = bit p.front (place_in f false set d) || bit p.back (place_in f true set d)

  given_place : (f : Frequency) → r.frequency ≡ frequency_number f → no_limit r.positions ≡ false
      → placed r d ≡ places_have f (in_set r) r.positions
  unfolding placed
  given_place daily e n = rw (n, placed, e) refl
  given_place weekly e n = rw (n, placed, e) refl
  given_place monthly e n = rw (n, placed, e) refl
  given_place yearly e n = rw (n, placed, e) refl

period_is : (f : Frequency) (r : Rule) → r.frequency ≡ frequency_number f → (d : ℕ) → period r d ≡ period_of f d
unfolding period
period_is daily r e d = rw e refl
period_is weekly r e d = rw e refl
period_is monthly r e d = rw e refl
period_is yearly r e d = rw e refl

module _ (f : Frequency) (g : Given) (first : ℕ) (r : Rule) (a : Framed f g first r) (good : Good g) where
  counts_is : (d : ℕ) → counts r d ≡ eqb ((period_of f d - period_of f first) % unwrap_or g.interval 1) 0
  unfolding counts
  counts_is d = rw (period_is f r a.frequency d, period_is f r a.frequency (r.start / day_minutes), a.start, a.interval) refl

  module _ (d : ℕ) (h : d < window_days) where
    place_is : (minus : Bool) → place_in f minus (in_set r) d ≡ place_in f minus (day_set f g first) d
    place_is minus = place_same f minus (in_set r) (day_set f g first) d h (λ j l. in_set_is f g first r a good j l)

    placed_is : (ns : Option (List Signed)) → r.positions ≡ positions_for ns → given_passes (listed day_number_in_range) ns ≡ true
        → placed r d ≡ allows (position_has f g first d) ns
    unfolding position_has
    placed_is None e l = any_place r d (ap no_limit e)
    placed_is (Some ns) e l =
        let set : ℕ → Bool = day_set f g first in
        given_place r d f a.frequency (ap no_limit e ∙ ends_limit ns l)
        ∙ ap (places_have r d f (in_set r)) e
        ∙ ap₂ (λ (x y : ℕ). bit (ends_of ns).front x || bit (ends_of ns).back y) (place_is false) (place_is true)
        ∙ ends_hold (place_in f false set d) (place_in f true set d) ns l

    set_placed : (in_set r d && placed r d) ≡ (day_set f g first d && allows (position_has f g first d) g.positions)
    set_placed = ap₂ ◌&&◌ (in_set_is f g first r a good d h) (placed_is g.positions a.positions good.positions)

    pub day_is : rule_day r d ≡ occurs_on f g first d
    unfolding rule_day occurs_on
    day_is =
        ap₂ ◌&&◌ (ap (λ (x : ℕ). leb x d) a.start) (ap₂ ◌&&◌ (counts_is d) set_placed)

pub frame_framed : (g : Given) (start : ℕ) → Framed (unwrap_or g.frequency daily) g (start / day_minutes) (rule_frame g start)
unfolding rule_frame
frame_framed g start =
    record { frequency = refl; interval = refl; start = refl; weekdays = refl; days = refl; ordinals = refl; positions = refl; months = refl }

module _ (t : Time) (ps : List Part) (inside : in_range (rule t ps) ≡ true) (w : written (rule t ps) ≡ true) where
  pub rule_day_lem : (d : ℕ) → d < window_days
      → rule_day (rule_frame (given_of ps) (minute_of t)) d ≡ occurs_on (unwrap_or (given_of ps).frequency daily) (given_of ps) (minute_of t / day_minutes) d
  rule_day_lem d h =
      let g : Given = given_of ps in
      day_is (unwrap_or g.frequency daily) g (minute_of t / day_minutes) (rule_frame g (minute_of t)) (frame_framed g (minute_of t))
      (rule_good_lem t ps w inside) d h

  pub rule_occurs_lem : (m : ℕ) → m < window_minutes → rule_occurs (rule_frame (given_of ps) (minute_of t)) m ≡ occurs_at (given_of ps) (minute_of t) m
  unfolding rule_occurs occurs_at rule_frame
  rule_occurs_lem m h = ap (λ (b : Bool). b && eqb (m % day_minutes) (minute_of t % day_minutes)) (rule_day_lem (m / day_minutes) (omega arith))
