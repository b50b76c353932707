-- The frame of a rule holds what the rule holds: *last* for COUNT and for UNTIL.
use Rattle.std.specs.Prelude.{Option, None, Some, unwrap_or}
use mathlib.Core.Bool.{Bool, true, false, ◌&&◌, and-true, false≢true}
use mathlib.Core.List.{List}
use mathlib.Core.Path.{◌≡◌, refl, sym, ap, ◌∙◌}
use Prim.Native.Nat.{ℕ, ◌+◌, ◌-◌, ◌*◌, ◌/◌, ◌%◌, ◌<◌, ◌≤◌}
use native.Mathlib.Omega.{arith}
use borrow.Author.Tests.{lt-ltb, le-ltb, le-leb, lt-leb, leb-true, eqb-true}
use lib.Dec.{leb, eqb}
use Rattle.calendar.proofs.Every.{both_true, decided}
use Rattle.calendar.specs.Below.{count_from}
use Rattle.calendar.specs.Window.{day_minutes, window_days, window_minutes, window_last}
use Rattle.days.specs.Search.{nth_from}
use Rattle.frames.specs.Rule.{rule_held}
use Rattle.sheet.specs.Form.{Time, Part, Frequency, daily, rule}
use Rattle.sheet.specs.Meaning.{occurs_on, occurs_at, within_count, within_until, rule_holds}
use Rattle.sheet.specs.Parts.{Given, given_of, is_given}
use Rattle.sheet.specs.Range.{minute_of, in_range}
use Rattle.sheet.specs.Refusals.{together}
use Rattle.zone.proofs.Good.{by_order}
use Rattle.framed.specs.Framed.{nth_last, last_by, last_of, rule_frame}
use Rattle.framed.proofs.Days.{rule_occurs_lem}
use Rattle.framed.proofs.Goods.{given_passes, written, rule_good_lem, parts_together_lem}
use Rattle.framed.proofs.Nths.{nth_counted}

module _ (test : ℕ → Bool) (start m : ℕ) (h : m < window_minutes) (from : start / day_minutes ≤ m / day_minutes) (time : m % day_minutes ≡ start % day_minutes)
    (passes : test (m / day_minutes) ≡ true) where
  abbrev first : ℕ
  first = start / day_minutes

  abbrev upto : ℕ → Bool
  upto c = leb (count_from test (m / day_minutes + 1 - first) first) c

  count_keeps : (c : ℕ) → 1 ≤ c → leb m (nth_last test start c) ≡ upto c
  count_keeps c p =
      let n : ℕ = nth_from test c (window_days - first) first in
      let d : ℕ = m / day_minutes in
      let a = nth_counted test c (window_days - first) first d p from (omega arith) passes in
      by_order n window_days
      (λ l. rw (lt-ltb n window_days l)
      (by_order n d (λ b. lt-leb m (day_minutes * n + start % day_minutes) (omega arith) ∙ sym (lt-leb _ c (a.past b)))
      (λ b. le-leb m (day_minutes * n + start % day_minutes) (omega arith) ∙ sym (le-leb _ c (a.upto b)))))
      (λ l. rw (le-ltb n window_days l) (le-leb m window_last (omega arith) ∙ sym (le-leb _ c (a.upto (omega arith)))))

  last_keeps : (until : Option Time) (count : Option ℕ) → (is_given count && is_given until) ≡ false → given_passes (leb 1) count ≡ true
      → leb m (last_by (nth_last test start) until count) ≡ (within_until until m && within_count count upto)
  last_keeps None None e p = le-leb m window_last (omega arith)
  last_keeps None (Some c) e p = count_keeps c (leb-true 1 c p)
  last_keeps (Some t) None e p = sym (and-true (leb m (minute_of t)))
  last_keeps (Some t) (Some c) e p = absurd (false≢true (sym e))

abbrev frequency_in : Given → Frequency
frequency_in g = unwrap_or g.frequency daily

-- a minute of an occurrence
record Occurs (g : Given) (start m : ℕ) : Type 0 where
  from : start / day_minutes ≤ m / day_minutes
  day : occurs_on (frequency_in g) g (start / day_minutes) (m / day_minutes) ≡ true
  time : m % day_minutes ≡ start % day_minutes

occurs : (g : Given) (start m : ℕ) → occurs_at g start m ≡ true → Occurs g start m
unfolding occurs_at occurs_on
occurs g start m t =
    let p = both_true (occurs_on (frequency_in g) g (start / day_minutes) (m / day_minutes)) (eqb (m % day_minutes) (start % day_minutes)) t in
    record {
      from = leb-true (start / day_minutes) (m / day_minutes) (both_true (leb (start / day_minutes) (m / day_minutes)) _ p.0).0;
      day = p.0;
      time = eqb-true (m % day_minutes) (start % day_minutes) p.1;
    }

module _ (g : Given) (start m : ℕ) where
  holds_where : occurs_at g start m ≡ true
      → rule_holds g start m ≡ (within_until g.until m && within_count g.count (λ c. leb (count_from (occurs_on (frequency_in g) g (start / day_minutes)) (m / day_minutes + 1 - start / day_minutes) (start / day_minutes)) c))
  unfolding rule_holds
  holds_where t = rw (t, rule_holds) refl

  holds_not : occurs_at g start m ≡ false → rule_holds g start m ≡ false
  unfolding rule_holds
  holds_not f = rw (f, rule_holds) refl

module _ (t : Time) (ps : List Part) (inside : in_range (rule t ps) ≡ true) (go : together (rule t ps) ≡ true) (w : written (rule t ps) ≡ true) where
  pub rule_held_lem : (m : ℕ) → m < window_minutes → rule_held (rule_frame (given_of ps) (minute_of t)) m ≡ rule_holds (given_of ps) (minute_of t) m
  unfolding rule_held rule_frame last_of together
  rule_held_lem m h =
      let g : Given = given_of ps in
      let start : ℕ = minute_of t in
      let e = rule_occurs_lem t ps inside w m h in
      decided (occurs_at g start m)
      (λ (o : occurs_at g start m ≡ true).
      let a = occurs g start m o in
      ap (λ (b : Bool). b && leb m (rule_frame g start).last) (e ∙ o)
      ∙ last_keeps (occurs_on (frequency_in g) g (start / day_minutes)) start m h a.from a.time a.day g.until g.count
      (parts_together_lem ps go).ends (rule_good_lem t ps w inside).count
      ∙ sym (holds_where g start m o))
      (λ (n : occurs_at g start m ≡ false). ap (λ (b : Bool). b && leb m (rule_frame g start).last) (e ∙ n) ∙ sym (holds_not g start m n))
