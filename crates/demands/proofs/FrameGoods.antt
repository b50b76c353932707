-- The frame of a line that is taken passes the load check by itself, and is no end frame.
use Rattle.std.specs.Prelude.{Some}
use mathlib.Core.Bool.{Bool, true, false, cond}
use mathlib.Core.List.{List}
use mathlib.Core.Path.{◌≡◌, refl}
use Prim.Native.Nat.{ℕ, ◌+◌, ◌-◌}
use native.Mathlib.Omega.{arith}
use borrow.Author.Tests.{lt-ltb, leb-true}
use lib.Dec.{leb}
use Rattle.calendar.proofs.Every.{both_true, both, within_range, range_within}
use Rattle.calendar.specs.Below.{within}
use Rattle.calendar.specs.Window.{window_minutes, window_last}
use Rattle.framed.proofs.Forms.{form_written}
use Rattle.framed.proofs.Goods.{written}
use Rattle.framed.proofs.Lines.{taken}
use Rattle.framed.specs.Framed.{frame_of}
use Rattle.plan.specs.Taken.{frame_good, is_end}
use Rattle.sheet.proofs.Times.{minute_in_window}
use Rattle.sheet.specs.Form.{Time, Shift, Form, zone, change, cron, rule, extra, except, form_of}
use Rattle.sheet.specs.Range.{time_in_range, minute_of, instant_of_time, shift_minutes, shift_in_range, offset_of_shift, in_range}
use Rattle.sheet.specs.Refusals.{Context, form_refusal}
use Rattle.zone.specs.Zone.{bias, offset_in_range, least_offset, greatest_offset, in_window}
use Rattle.demands.proofs.CronGoods.{cron_good_lem}
use Rattle.demands.proofs.RuleGoods.{rule_frame_good}

shift_good : (minus : Bool) (n : ℕ) → cond minus (within 1 720 n) (leb n 840) ≡ true
    → offset_in_range (cond minus (bias - n) (bias + n)) ≡ true
shift_good true n e =
    let h = (within_range 1 720 n e).1 in range_within least_offset greatest_offset (bias - n) (omega arith) (omega arith)
shift_good false n e = let h = leb-true n 840 e in range_within least_offset greatest_offset (bias + n) (omega arith) (omega arith)

offset_good : (s : Shift) → shift_in_range s ≡ true → offset_in_range (offset_of_shift s) ≡ true
unfolding shift_in_range offset_of_shift
offset_good s e = shift_good s.minus (shift_minutes s) (both_true (leb s.minutes 59) _ e).1

instant_good : (t : Time) → time_in_range t ≡ true → within bias (bias + window_last) (instant_of_time t) ≡ true
unfolding instant_of_time
instant_good t e = let h = minute_in_window t e in range_within bias (bias + window_last) (minute_of t + bias) (omega arith) (omega arith)

minute_good : (t : Time) → time_in_range t ≡ true → in_window (minute_of t) ≡ true
minute_good t e = lt-ltb (minute_of t) window_minutes (minute_in_window t e)

frame_good_lem : (c : Context) (f : Form) → form_refusal c f ≡ 0 → written f ≡ true → frame_good (frame_of f) ≡ true
unfolding frame_good frame_of in_range
frame_good_lem c (zone s) e w = offset_good s (taken c (zone s) e).range
frame_good_lem c (change t s) e w =
    let p = both_true (time_in_range t) (shift_in_range s) (taken c (change t s) e).range in
    both (instant_good t p.0) (offset_good s p.1)
frame_good_lem c (cron m h d mo wd) e w = cron_good_lem m h d mo wd (taken c (cron m h d mo wd) e).range w
frame_good_lem c (rule t ps) e w = let a = taken c (rule t ps) e in rule_frame_good t ps a.range a.parts a.start w
frame_good_lem c (extra t) e w = minute_good t (taken c (extra t) e).range
frame_good_lem c (except t) e w = minute_good t (taken c (except t) e).range

-- the form of a line's bytes
pub line_frame_good : (line : List ℕ) (f : Form) → form_of line ≡ Some f → (c : Context) → form_refusal c f ≡ 0 → frame_good (frame_of f) ≡ true
line_frame_good line f e c z = frame_good_lem c f z (form_written line f e)

pub frame_not_end : (f : Form) → is_end (frame_of f) ≡ false
unfolding frame_of
frame_not_end (zone s) = refl
frame_not_end (change t s) = refl
frame_not_end (cron m h d mo w) = refl
frame_not_end (rule t ps) = refl
frame_not_end (extra t) = refl
frame_not_end (except t) = refl
