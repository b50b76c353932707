-- What the laws ask of cron fields and of the parts of a rule: numbers in range, lists as they can be written, and parts that go together.
use Rattle.std.specs.Prelude.{Option, None, Some}
use mathlib.Core.Bool.{Bool, true, false, not, ◌&&◌}
use mathlib.Core.List.{List, [], ◌∷◌}
use mathlib.Core.Path.{◌≡◌, refl}
use Prim.Native.Nat.{ℕ}
use borrow.Author.Tests.{not-true}
use lib.Dec.{leb, ltb}
use Rattle.calendar.proofs.Every.{both_true, both}
use Rattle.calendar.specs.Below.{within, all_of}
use Rattle.sheet.specs.Form.{Time, Field, star, list, Entry, Part, freq, interval, count, until, by_day, by_month_day, by_set_pos, by_month, Form, zone, change, cron, rule, extra, except}
use Rattle.sheet.specs.Parts.{Given, given_of, is_given, given_twice, by_frequency, parts_together}
use Rattle.sheet.specs.Range.{entry_in_range, day_number_in_range, month_in_range, time_in_range, part_in_range, in_range}
use Rattle.sheet.specs.Words.{Signed}
use Rattle.framed.proofs.Listed.{anything, listed, listed_by_lem}
use Rattle.framed.proofs.Ordinals.{entry_weekday, entry_good}

-- a list is never empty, and a weekday is one of the seven
abbrev pub weekday_written : Entry → Bool
weekday_written e = ltb (entry_weekday e) 7

abbrev pub part_written : Part → Bool
part_written (freq f) = true
part_written (interval n) = true
part_written (count n) = true
part_written (until t) = true
part_written (by_day es) = listed weekday_written es
part_written (by_month_day ns) = listed anything ns
part_written (by_set_pos ns) = listed anything ns
part_written (by_month ns) = listed anything ns

abbrev pub field_written : Field → Bool
field_written star = true
field_written (list es) = listed anything es

abbrev pub written : Form → Bool
written (zone s) = true
written (change t s) = true
written (cron mi h d mo w) = all_of field_written (mi ∷ h ∷ d ∷ mo ∷ w ∷ [])
written (rule t ps) = all_of part_written ps
written (extra t) = true
written (except t) = true

-- a part that is given passes a test
abbrev pub given_passes : {A : Type 0} → (A → Bool) → Option A → Bool
given_passes test None = true
given_passes test (Some a) = test a

pub record Good (g : Given) : Type 0 where
  pub interval : given_passes (within 1 999) g.interval ≡ true
  pub count : given_passes (leb 1) g.count ≡ true
  pub until : given_passes time_in_range g.until ≡ true
  pub days : given_passes (listed entry_good) g.days ≡ true
  pub month_days : given_passes (listed day_number_in_range) g.month_days ≡ true
  pub positions : given_passes (listed day_number_in_range) g.positions ≡ true
  pub months : given_passes (listed month_in_range) g.months ≡ true

numbers_good : (ns : List Signed) → listed anything ns ≡ true → all_of day_number_in_range ns ≡ true → listed day_number_in_range ns ≡ true
numbers_good ns = listed_by_lem anything day_number_in_range day_number_in_range (λ n a b. b) ns

months_good : (ns : List ℕ) → listed anything ns ≡ true → all_of month_in_range ns ≡ true → listed month_in_range ns ≡ true
months_good ns = listed_by_lem anything month_in_range month_in_range (λ n a b. b) ns

entries_good : (es : List Entry) → listed weekday_written es ≡ true → all_of entry_in_range es ≡ true → listed entry_good es ≡ true
entries_good es = listed_by_lem weekday_written entry_in_range entry_good (λ e w r. both r w) es

with_part_lem : (p : Part) (ps : List Part) → part_written p ≡ true → part_in_range p ≡ true → Good (given_of ps) → Good (given_of (p ∷ ps))
unfolding given_of part_in_range
with_part_lem (freq f) ps w r g =
    record
    { interval = g.interval; count = g.count; until = g.until; days = g.days; month_days = g.month_days; positions = g.positions; months = g.months }
with_part_lem (interval n) ps w r g =
    record { interval = r; count = g.count; until = g.until; days = g.days; month_days = g.month_days; positions = g.positions; months = g.months }
with_part_lem (count n) ps w r g =
    record
    { interval = g.interval; count = (both_true (leb 1 n) (leb n 9999) r).0; until = g.until; days = g.days; month_days = g.month_days; positions = g.positions; months = g.months }
with_part_lem (until t) ps w r g =
    record { interval = g.interval; count = g.count; until = r; days = g.days; month_days = g.month_days; positions = g.positions; months = g.months }
with_part_lem (by_day es) ps w r g =
    record
    { interval = g.interval; count = g.count; until = g.until; days = entries_good es w r; month_days = g.month_days; positions = g.positions; months = g.months }
with_part_lem (by_month_day ns) ps w r g =
    record
    { interval = g.interval; count = g.count; until = g.until; days = g.days; month_days = numbers_good ns w r; positions = g.positions; months = g.months }
with_part_lem (by_set_pos ns) ps w r g =
    record
    { interval = g.interval; count = g.count; until = g.until; days = g.days; month_days = g.month_days; positions = numbers_good ns w r; months = g.months }
with_part_lem (by_month ns) ps w r g =
    record
    { interval = g.interval; count = g.count; until = g.until; days = g.days; month_days = g.month_days; positions = g.positions; months = months_good ns w r }

given_good : (ps : List Part) → all_of part_written ps ≡ true → all_of part_in_range ps ≡ true → Good (given_of ps)
unfolding given_of
given_good [] w r = record { interval = refl; count = refl; until = refl; days = refl; month_days = refl; positions = refl; months = refl }
given_good (p ∷ ps) w r =
    let a = both_true (part_written p) (all_of part_written ps) w in
    let b = both_true (part_in_range p) (all_of part_in_range ps) r in
    with_part_lem p ps a.0 b.0 (given_good ps a.1 b.1)

pub rule_good_lem : (t : Time) (ps : List Part) → written (rule t ps) ≡ true → in_range (rule t ps) ≡ true → Good (given_of ps)
unfolding in_range
rule_good_lem t ps w r = given_good ps w (both_true (time_in_range t) (all_of part_in_range ps) r).1

-- of parts that go together: not COUNT with UNTIL, and a frequency that goes with the others
pub record Together (ps : List Part) : Type 0 where
  pub ends : (is_given (given_of ps).count && is_given (given_of ps).until) ≡ false
  pub frequency : by_frequency (given_of ps).frequency (given_of ps) ≡ true

pub parts_together_lem : (ps : List Part) → parts_together ps ≡ true → Together ps
unfolding parts_together
parts_together_lem ps e =
    let p = both_true (not (is_given (given_of ps).count && is_given (given_of ps).until)) _ (both_true (not (given_twice ps)) _ e).1 in
    record { ends = not-true _ p.0; frequency = p.1 }
