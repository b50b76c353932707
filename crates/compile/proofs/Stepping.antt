-- One line more.
use Rattle.std.specs.Prelude.{Result, Ok, Err}
use mathlib.Core.Bool.{true}
use mathlib.Core.List.{List}
use mathlib.Core.Path.{◌≡◌, refl}
use Prim.Native.Nat.{ℕ, ◌+◌}
use native.Mathlib.Omega.{arith}
use borrow.Author.Tests.{le-leb}
use lib.ListN.{length}
use Rattle.calendar.proofs.Every.{both_true}
use Rattle.calendar.specs.Window.{window_last}
use Rattle.framed.proofs.Lines.{taken}
use Rattle.framed.specs.Framed.{frame_of}
use Rattle.line.proofs.Numbered.{lined_is}
use Rattle.line.specs.Lined.{before_as, context_as, lined}
use Rattle.line.specs.declared.Before.{Before}
use Rattle.line.specs.declared.Context.{Context}
use Rattle.line.specs.declared.Refusal.{Refusal}
use Rattle.plan.specs.Text.{whole_line}
use Rattle.plan.specs.declared.Frame.{Frame}
use Rattle.sheet.proofs.Times.{minute_in_window}
use Rattle.sheet.specs.Form.{Form, zone, change, cron, rule, extra, except}
use Rattle.sheet.specs.Place.{in_place}
use Rattle.sheet.specs.Range.{time_in_range, minute_of, in_range, instant_of_time}
use Rattle.sheet.specs.Refusals.{form_refusal}
use Rattle.zone.specs.Zone.{bias}
use Rattle.compile.specs.Steps.{room_for, frame_fits, next_context, stepped}
use Rattle.compile.specs.declared.step.State.{State}

-- a transition of a line that is taken has room, and is of the window
form_fits : (c : Context) (f : Form) → form_refusal (context_as c) f ≡ 0 → frame_fits c (frame_of f) ≡ true
unfolding frame_of in_range instant_of_time in_place
form_fits c (zone s) e = refl
form_fits c (change t s) e =
    let k = taken (context_as c) (change t s) e in
    let m = minute_in_window t (both_true (time_in_range t) _ k.range).0 in
    rw (room c.before k.place, le-leb (minute_of t + bias) (bias + window_last) (omega (arith, m))) refl
  where
    room : (b : Before) → in_place (before_as b) (change t s) ≡ true → room_for b ≡ true
    room Before.Start h = refl
    room (Before.Zoned k) h = h
    room Before.Lines h = refl
form_fits c (cron m h d mo w) e = refl
form_fits c (rule t ps) e = refl
form_fits c (extra t) e = refl
form_fits c (except t) e = refl

pub frame_fits_lem : (c : Context) (line : List ℕ) (f : Frame) → lined (context_as c) line ≡ Ok f → frame_fits c f ≡ true
frame_fits_lem c line f e = let l = lined_is (context_as c) line f e in rw l.same (form_fits c l.form l.fine)

-- ---- what a step's answer says of its line
pub record SteppedIs (s : State) (x : Result Frame Refusal) (next : State) : Type 0 where
  pub frame : Frame
  pub is : x ≡ Ok frame
  pub same : next ≡ record { context = next_context s.context frame; lines = s.lines + 1; frames = s.frames + 1; bytes = s.bytes + length (whole_line frame) }

pub step_is : (s : State) (x : Result Frame Refusal) (next : State) → stepped s x ≡ Ok next → SteppedIs s x next
step_is s (Ok f) next e = record { frame = f; is = refl; same = cc }
step_is s (Err refusal) next e = let z : ◌≡◌ {A = ℕ} 0 1 = cc in absurd (omega arith)

pub step_refused : (s : State) (x : Result Frame Refusal) (refusal : Refusal) → stepped s x ≡ Err refusal → x ≡ Err refusal
step_refused s (Ok f) refusal e = let z : ◌≡◌ {A = ℕ} 0 1 = cc in absurd (omega arith)
step_refused s (Err r) refusal e = cc
