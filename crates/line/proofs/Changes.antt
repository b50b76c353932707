-- The line T: its place, its numbers, the limits and its frame.
use Rattle.std.specs.Prelude.{Option, None, Some, Result, Ok, Err}
use Rattle.std.specs.Result.{IsErrAnd}
use mathlib.Core.Bool.{Bool, true, false}
use mathlib.Core.List.{List}
use mathlib.Core.Path.{◌≡◌, refl, sym, ap, ◌∙◌}
use Prim.Native.Nat.{ℕ, ◌+◌, ◌<◌}
use native.Mathlib.Omega.{arith}
use lib.ListN.{length}
use Rattle.framed.specs.Framed.{frame_of}
use Rattle.plan.specs.declared.Frame.{Frame}
use Rattle.sheet.proofs.Times.{minute_in_window}
use Rattle.sheet.specs.Form.{shift_of, Form, change, change_of}
use Rattle.sheet.specs.Place.{in_place}
use Rattle.sheet.specs.Range.{in_range, instant_of_time}
use Rattle.sheet.specs.Refusals.{together, limits_kept, start_occurs}
use Rattle.sheet.specs.Words.{pieces}
use Rattle.words.proofs.Told.{time_told, time_outside, shift_told, shift_outside}
use Rattle.words.specs.Answers.{made_read, time_as, shift_as, shift_read}
use Rattle.words.specs.Reads.{time_at, shift_at}
use Rattle.words.specs.Times.{local_minute, offset_from}
use Rattle.words.specs.declared.cursor.Cursor.{Cursor}
use Rattle.words.specs.declared.cursor.Shift.{Shift}
use Rattle.words.specs.declared.cursor.Time.{Time}
use Rattle.zone.specs.Zone.{under_limits}
use Rattle.zone.specs.declared.Transition.{Transition}
use Rattle.line.specs.Lined.{before_as, context_as, lined_form, change_stands, standing, spaced}
use Rattle.line.specs.declared.Context.{Context}
use Rattle.line.specs.declared.Refusal.{Refusal}
use Rattle.line.proofs.Placing.{change_place}
use Rattle.line.proofs.Reading.{passed_on, lined_not, lined_standing, stands}
use Rattle.line.proofs.Refusing.{out_of_range, limits_broken, taken}
use Rattle.line.proofs.Timing.{on_time, timed_read, timed_spaced}
use Rattle.line.proofs.Zoning.{shift_here, change_tied}

-- a time in range lies in the window
pub minute_small : (t : Time) (m : ℕ) → Some m ≡ local_minute t → m < 52596000
minute_small t m e = let k = time_told t m e in omega (arith, k.1, minute_in_window (time_as t) k.0)

module _ (c : Context) (s : List ℕ) where
  abbrev form : Option Form
  form = change_of (pieces 32 s)

  abbrev after : Option (Time × Cursor) → Option (Form × ℕ)
  after = on_time s shift_of (shift_here s) change

  on_lem : (o : Option (Time × Cursor)) → spaced s (time_at s 0) ≡ o → timed_read s shift_of (shift_here s) change ≡ after o
  on_lem o e = timed_spaced s shift_of (shift_here s) change ∙ ap after e

  pub change_no_time : spaced s (time_at s 0) ≡ None → Err Refusal.Form ≡ lined_form (context_as c) form
  change_no_time e = lined_not c _ _ _ (change_tied s) (on_lem None e)

  module _ (t : Time) (from : Cursor) (e : spaced s (time_at s 0) ≡ Some (t, from)) where
    shift_lem : (o : Option (Shift × Cursor)) → shift_at s from.at ≡ o
        → timed_read s shift_of (shift_here s) change ≡ made_read (change (time_as t)) (shift_read o)
    shift_lem o g = on_lem (Some (t, from)) e ∙ ap (λ r. made_read (change (time_as t)) (shift_read r)) g

    pub change_no_shift : shift_at s from.at ≡ None → Err Refusal.Form ≡ lined_form (context_as c) form
    change_no_shift g = lined_not c _ _ _ (change_tied s) (shift_lem None g)

    module _ (x : Shift) (end : Cursor) (g : shift_at s from.at ≡ Some (x, end)) where
      abbrev line : Form
      line = change (time_as t) (shift_as x)

      place : in_place (before_as c.before) line ≡ change_stands c.before
      place = change_place c.before (time_as t) (shift_as x)

      pub change_standing : (r : Result Frame Refusal) (y : Refusal) → IsErrAnd r (λ z. z ≡ y)
          → Err y ≡ standing {A = Unit {0}} (length s) end.at (change_stands c.before) (Ok tt) → r ≡ lined_form (context_as c) form
      change_standing r y i h = passed_on r y i ∙ lined_standing c _ _ _ (change_tied s) _ _ (shift_lem _ g) _ place y h

      module _ (h : Ok tt ≡ standing {A = Unit {0}} (length s) end.at (change_stands c.before) (Ok tt)) where
        stood : (form ≡ Some line) × (in_place (before_as c.before) line ≡ true)
        stood = stands c _ _ _ (change_tied s) _ _ (shift_lem _ g) _ place h

        pub change_no_minute : None ≡ local_minute t → Err Refusal.Range ≡ lined_form (context_as c) form
        unfolding in_range
        change_no_minute o = out_of_range (context_as c) form line stood.0 stood.1 (rw (time_outside t o) refl)

        module _ (m : ℕ) (i : Some m ≡ local_minute t) where
          pub change_no_offset : None ≡ offset_from x → Err Refusal.Range ≡ lined_form (context_as c) form
          unfolding in_range
          change_no_offset o = out_of_range (context_as c) form line stood.0 stood.1 (rw ((time_told t m i).0, shift_outside x o) refl)

          module _ (o : ℕ) (j : Some o ≡ offset_from x) where
            abbrev made : Transition
            made = record { at = m + 1440; offset = o }

            inside : in_range line ≡ true
            unfolding in_range
            inside = rw ((time_told t m i).0, (shift_told x o j).0) refl

            kept : (b : Bool) → under_limits c.low c.offset made ≡ b → limits_kept (context_as c) line ≡ b
            unfolding limits_kept instant_of_time
            kept b u = rw ((time_told t m i).1, (shift_told x o j).1) u

            pub change_past_limits : under_limits c.low c.offset made ≡ false → Err Refusal.Limits ≡ lined_form (context_as c) form
            unfolding together
            change_past_limits u = limits_broken (context_as c) form line stood.0 stood.1 inside refl (kept false u)

            pub change_taken : under_limits c.low c.offset made ≡ true → Ok (Frame.Change made) ≡ lined_form (context_as c) form
            unfolding together start_occurs instant_of_time frame_of
            change_taken u =
                rw (sym (time_told t m i).1, sym (shift_told x o j).1)
                (taken (context_as c) form line stood.0 stood.1 inside refl (kept true u) refl)
