-- What is made of the parts of a rule in numbers is what the sheet's rule is: its frame, or the refusal.
use Rattle.std.specs.Prelude.{Option, None, Some, unwrap_or, Ok, Err}
use mathlib.Core.Bool.{Bool, true, false, cond, not, ◌&&◌}
use mathlib.Core.List.{List}
use mathlib.Core.Path.{◌≡◌, refl, ap, ap₂, ◌∙◌}
use Prim.Native.Nat.{ℕ, ◌-◌, ◌/◌, ◌%◌, ◌<◌}
use native.Mathlib.Omega.{arith}
use borrow.Author.Tests.{lt-ltb}
use lib.Dec.{leb, eqb}
use Rattle.calendar.proofs.Every.{both_true, decided}
use Rattle.calendar.specs.Below.{all_of}
use Rattle.calendar.specs.Window.{day_minutes, window_days, window_minutes, window_last}
use Rattle.days.proofs.Nths.{nth_same}
use Rattle.framed.proofs.Days.{rule_day_lem}
use Rattle.framed.proofs.Goods.{given_passes, written, rule_good_lem}
use Rattle.framed.specs.Framed.{minute_on, nth_last, last_by, last_of, rule_frame}
use Rattle.frames.specs.Rule.{rule_day, rule_occurs}
use Rattle.frames.specs.declared.Rule.{Rule}
use Rattle.parts.specs.Given.{until_from, parts_given}
use Rattle.parts.specs.declared.given.Parts.{Parts}
use Rattle.sheet.proofs.Times.{minute_in_window}
use Rattle.sheet.specs.Form.{Time, daily, Part, rule}
use Rattle.sheet.specs.Meaning.{occurs_on, occurs_at, within_until}
use Rattle.sheet.specs.Parts.{Given, given_of, parts_together}
use Rattle.sheet.specs.Range.{time_in_range, minute_of, part_in_range, in_range}
use Rattle.sheet.specs.Refusals.{start_occurs}
use Rattle.rules.specs.Ruled.{endless, start_held_in, count_last, last_in, ending_at, ruled_from}
use Rattle.rules.specs.declared.Unruled.{Unruled}
use Rattle.rules.proofs.Framing.{endless_is}
use Rattle.rules.proofs.Going.{together_is}
use Rattle.rules.proofs.Lasts.{day_with_last}

-- ---- UNTIL, where it is given and in range
until_after : (o : Option Time) (m : ℕ) → given_passes time_in_range o ≡ true
    → elim (until_from o) [ None ↦ true | Some u ↦ leb m u ] ≡ within_until o m
until_after None m e = refl
until_after (Some t) m e = rw e refl

last_by_lem : (nth : ℕ → ℕ) (end : Option Time) (most : Option ℕ) → given_passes time_in_range end ≡ true
    → elim (until_from end) [ None ↦ elim most [ None ↦ window_last | Some c ↦ nth c ] | Some u ↦ u ] ≡ last_by nth end most
last_by_lem nth None None e = refl
last_by_lem nth None (Some c) e = refl
last_by_lem nth (Some t) most e = rw e refl

-- ---- the frame's days are the rule's
module _ (t : Time) (ps : List Part) (inside : in_range (rule t ps) ≡ true) (w : written (rule t ps) ≡ true) (go : parts_together ps ≡ true) where
  abbrev g : Given
  g = given_of ps

  abbrev p : Parts
  p = parts_given ps

  abbrev start : ℕ
  start = minute_of t

  abbrev first : ℕ
  first = start / day_minutes

  abbrev f : Rule
  f = endless p start

  abbrev day : ℕ → Bool
  day = occurs_on (unwrap_or g.frequency daily) g first

  in_window_lem : start < window_minutes
  unfolding in_range
  in_window_lem = minute_in_window t (both_true (time_in_range t) (all_of part_in_range ps) inside).0

  until_good : given_passes time_in_range g.until ≡ true
  until_good = (rule_good_lem t ps w inside).until

  day_in_lem : (d : ℕ) → d < window_days → rule_day f d ≡ day d
  day_in_lem d h =
      ap (λ (r : Rule). rule_day r d) (endless_is ps start go) ∙ day_with_last window_last (rule_frame g start) d ∙ rule_day_lem t ps inside w d h

  occurs_in : rule_occurs f start ≡ occurs_at g start start
  unfolding rule_occurs occurs_at endless
  occurs_in = ap (λ (b : Bool). b && eqb (start % day_minutes) (start % day_minutes)) (day_in_lem first (omega (arith, in_window_lem)))

  start_is : start_held_in p f ≡ start_occurs (rule t ps)
  unfolding start_held_in start_occurs endless parts_given
  start_is = rw (lt-ltb start window_minutes in_window_lem) (ap₂ ◌&&◌ occurs_in (until_after g.until start until_good))

  count_last_is : (c : ℕ) → count_last f c ≡ nth_last day start c
  unfolding count_last endless
  count_last_is c =
      ap (minute_on start) (nth_same (rule_day f) day c (window_days - first) first (λ j l h. day_in_lem j (omega (arith, in_window_lem))))

  counted : (o : Option ℕ) → ◌≡◌ {A = ℕ} (elim o [ None ↦ window_last | Some c ↦ count_last f c ]) (elim o [ None ↦ window_last | Some c ↦ nth_last day start c ])
  counted None = refl
  counted (Some c) = count_last_is c

  last_is : last_in p f ≡ last_of g start
  unfolding last_in last_of parts_given
  last_is =
      ap (λ (o : ℕ). elim (until_from g.until) [ None ↦ o | Some u ↦ u ]) (counted g.count)
      ∙ last_by_lem (nth_last day start) g.until g.count until_good

  frame_is : ending_at (last_in p f) f ≡ rule_frame g start
  unfolding rule_frame
  frame_is = ap₂ ending_at last_is (endless_is ps start go)

module _ (t : Time) (ps : List Part) (inside : in_range (rule t ps) ≡ true) (w : written (rule t ps) ≡ true) where
  pub ruled_is : ruled_from (parts_given ps) (minute_of t)
      ≡ cond (not (parts_together ps)) (Err Unruled.Apart) (cond (not (start_occurs (rule t ps))) (Err Unruled.NoStart) (Ok (rule_frame (given_of ps) (minute_of t))))
  unfolding ruled_from
  ruled_is =
      rw (together_is ps)
      (decided (parts_together ps)
      (λ (y : parts_together ps ≡ true).
      rw y (ap₂ (λ (b : Bool) (r : Rule). cond (not b) (Err Unruled.NoStart) (Ok r)) (start_is t ps inside w y) (frame_is t ps inside w y)))
      (λ (n : parts_together ps ≡ false). rw n refl))
