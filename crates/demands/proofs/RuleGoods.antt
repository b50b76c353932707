-- The frame of a rule that is taken passes the load check.
use Rattle.std.specs.Prelude.{Option, None, Some, unwrap_or}
use mathlib.Core.Bool.{Bool, true, false, false≢true}
use mathlib.Core.List.{List}
use mathlib.Core.Path.{◌≡◌, refl, ◌∙◌}
use Prim.Native.Nat.{ℕ, ◌-◌, ◌/◌, ◌<◌, ◌≤◌}
use native.Mathlib.Omega.{arith}
use borrow.Author.Tests.{lt-ltb, le-ltb, le-leb, leb-true, not-true}
use Rattle.calendar.proofs.Every.{both_true, both}
use Rattle.calendar.specs.Below.{within, all_of}
use Rattle.calendar.specs.Window.{day_minutes, window_days, window_minutes}
use Rattle.days.proofs.Nths.{nth_lies}
use Rattle.days.specs.Search.{nth_from}
use Rattle.framed.proofs.Days.{frame_framed, rule_occurs_lem}
use Rattle.framed.proofs.Goods.{given_passes, Good, written, rule_good_lem, parts_together_lem}
use Rattle.framed.specs.Framed.{minute_on, nth_last, last_by, last_of, rule_frame}
use Rattle.plan.specs.Taken.{rule_good}
use Rattle.sheet.proofs.Times.{minute_in_window}
use Rattle.sheet.specs.Form.{Time, Frequency, daily, Part, rule}
use Rattle.sheet.specs.Meaning.{occurs_on, occurs_at, within_until}
use Rattle.sheet.specs.Parts.{Given, given_of, clashing, by_frequency, parts_together}
use Rattle.sheet.specs.Range.{time_in_range, minute_of, part_in_range, in_range}
use Rattle.sheet.specs.Refusals.{together, start_occurs}
use Rattle.zone.proofs.Good.{by_order}
use Rattle.demands.proofs.Frequencies.{frequency_good_lem}
use Rattle.demands.proofs.Places.{places_good_lem}

-- without INTERVAL it is 1
interval_good : (o : Option ℕ) → given_passes (within 1 999) o ≡ true → within 1 999 (unwrap_or o 1) ≡ true
interval_good None e = refl
interval_good (Some n) e = e

-- ---- *last* is in the window, and not before the start
record Last (start last : ℕ) : Type 0 where
  inside : last < window_minutes
  after : start ≤ last

module _ (start : ℕ) (h : start < window_minutes) where
  -- the COUNT-th occurrence's day d, or None in the window
  count_last_lem : (d : ℕ) → start / day_minutes ≤ d → Last start (minute_on start d)
  count_last_lem d l =
      by_order d window_days (λ b. rw (lt-ltb d window_days b) (record { inside = omega arith; after = omega arith }))
      (λ b. rw (le-ltb d window_days b) (record { inside = omega arith; after = omega arith }))

  last_good : (test : ℕ → Bool) (end : Option Time) (most : Option ℕ) → given_passes time_in_range end ≡ true → within_until end start ≡ true
      → Last start (last_by (nth_last test start) end most)
  last_good test (Some t) most r k = record { inside = minute_in_window t r; after = leb-true start (minute_of t) k }
  last_good test None None r k = record { inside = omega arith; after = omega arith }
  last_good test None (Some c) r k =
      let first : ℕ = start / day_minutes in
      count_last_lem (nth_from test c (window_days - first) first) (nth_lies test c (window_days - first) first).0

-- parts that go together go with the frequency
by_frequency_lem : (g : Given) (f : Option Frequency) → by_frequency f g ≡ true → clashing (unwrap_or f daily) g ≡ false
unfolding by_frequency
by_frequency_lem g None e = absurd (false≢true e)
by_frequency_lem g (Some f) e = not-true (clashing f g) e

no_clash : (ps : List Part) → parts_together ps ≡ true → clashing (unwrap_or (given_of ps).frequency daily) (given_of ps) ≡ false
no_clash ps t = by_frequency_lem (given_of ps) (given_of ps).frequency (parts_together_lem ps t).frequency

module _ (t : Time) (ps : List Part) (inside : in_range (rule t ps) ≡ true) (go : together (rule t ps) ≡ true) (starts : start_occurs (rule t ps) ≡ true) (w : written (rule t ps) ≡ true) where
  abbrev g : Given
  g = given_of ps

  abbrev start : ℕ
  start = minute_of t

  in_window_lem : start < window_minutes
  unfolding in_range
  in_window_lem = minute_in_window t (both_true (time_in_range t) (all_of part_in_range ps) inside).0

  good : Good g
  good = rule_good_lem t ps w inside

  start_good : (occurs_at g start start ≡ true) × (within_until g.until start ≡ true)
  unfolding start_occurs
  start_good = both_true (occurs_at g start start) (within_until g.until start) starts

  last_in_lem : Last start (last_of g start)
  unfolding last_of
  last_in_lem =
      last_good start in_window_lem (occurs_on (unwrap_or g.frequency daily) g (start / day_minutes)) g.until g.count good.until
      start_good.1

  pub rule_frame_good : rule_good (rule_frame g start) ≡ true
  unfolding rule_good rule_frame together
  rule_frame_good =
      let f : Frequency = unwrap_or g.frequency daily in
      let first : ℕ = start / day_minutes in
      let a = frame_framed g start in
      both (frequency_good_lem g first (rule_frame g start) good f a (no_clash ps go))
      (both (places_good_lem f g first (rule_frame g start) a (omega (arith, in_window_lem)))
      (both (interval_good g.interval good.interval)
      (both (lt-ltb (last_of g start) window_minutes last_in_lem.inside)
      (both (le-leb start (last_of g start) last_in_lem.after) (rule_occurs_lem t ps inside w start in_window_lem ∙ start_good.0)))))
