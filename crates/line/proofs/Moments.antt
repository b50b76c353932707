-- The lines D and X: a place, a time, and a frame that differs in its kind alone.
use Rattle.std.specs.Prelude.{Option, None, Some, Result, Ok, Err}
use mathlib.Core.Bool.{Bool, true, false, cond}
use mathlib.Core.List.{List}
use mathlib.Core.Path.{◌≡◌, refl, sym, ap, ◌∙◌}
use Prim.Native.Nat.{ℕ}
use lib.ListN.{length}
use Rattle.std.specs.Result.{IsErrAnd}
use Rattle.framed.specs.Framed.{frame_of}
use Rattle.plan.specs.declared.Frame.{Frame}
use Rattle.sheet.specs.Form.{Time, Form, extra, except, form_by, time_of}
use Rattle.sheet.specs.Place.{in_place}
use Rattle.sheet.specs.Range.{time_in_range, minute_of, in_range}
use Rattle.sheet.specs.Refusals.{together, limits_kept, start_occurs}
use Rattle.words.proofs.Told.{time_told, time_outside}
use Rattle.words.specs.Answers.{made_read, time_as, time_read}
use Rattle.words.specs.Reads.{time_at}
use Rattle.words.specs.Times.{local_minute}
use Rattle.words.specs.declared.cursor.Cursor.{Cursor}
use Rattle.words.specs.declared.cursor.Time.{Time as ReadTime}
use Rattle.line.specs.Lined.{before_as, context_as, lined_form, other_stands, standing}
use Rattle.line.specs.declared.Context.{Context}
use Rattle.line.specs.declared.Refusal.{Refusal}
use Rattle.line.proofs.Placing.{extra_place, except_place}
use Rattle.line.proofs.Reading.{passed_on, lined_not, lined_standing, stands}
use Rattle.line.proofs.Refusing.{out_of_range, taken}
use Rattle.line.proofs.Zoning.{moment_tied}

abbrev pub moment_form : Bool → Time → Form
moment_form x = cond x except extra

abbrev pub moment_frame : Bool → ℕ → Frame
moment_frame x m = cond x (Frame.Excepted m) (Frame.Extra m)

module _ (c : Context) where
  moment_place : (x : Bool) (t : Time) → in_place (before_as c.before) (moment_form x t) ≡ other_stands c.before
  moment_place true t = except_place c.before t
  moment_place false t = extra_place c.before t

  moment_outside : (x : Bool) (t : Time) (form : Option Form) → form ≡ Some (moment_form x t) → in_place (before_as c.before) (moment_form x t) ≡ true
      → time_in_range t ≡ false → Err Refusal.Range ≡ lined_form (context_as c) form
  unfolding in_range
  moment_outside true t form e p r = out_of_range (context_as c) form (except t) e p r
  moment_outside false t form e p r = out_of_range (context_as c) form (extra t) e p r

  moment_inside : (x : Bool) (t : Time) (form : Option Form) → form ≡ Some (moment_form x t) → in_place (before_as c.before) (moment_form x t) ≡ true
      → time_in_range t ≡ true → Ok (moment_frame x (minute_of t)) ≡ lined_form (context_as c) form
  unfolding in_range together limits_kept start_occurs frame_of
  moment_inside true t form e p r = taken (context_as c) form (except t) e p r refl refl refl
  moment_inside false t form e p r = taken (context_as c) form (extra t) e p r refl refl refl

  -- by what was read of the text
  module _ (x : Bool) (s : List ℕ) where
    abbrev form : Option Form
    form = form_by (moment_form x) (time_of s)

    pub moment_not : time_at s 0 ≡ None → Err Refusal.Form ≡ lined_form (context_as c) form
    moment_not e = lined_not c _ _ _ (moment_tied s (moment_form x)) (ap (λ o. made_read (moment_form x) (time_read o)) e)

    module _ (t : ReadTime) (end : Cursor) (e : time_at s 0 ≡ Some (t, end)) where
      read : made_read (moment_form x) (time_read (time_at s 0)) ≡ Some (moment_form x (time_as t), end.at)
      read = ap (λ o. made_read (moment_form x) (time_read o)) e

      pub moment_standing : (r : Result Frame Refusal) (y : Refusal) → IsErrAnd r (λ z. z ≡ y)
          → Err y ≡ standing {A = Unit {0}} (length s) end.at (other_stands c.before) (Ok tt) → r ≡ lined_form (context_as c) form
      moment_standing r y g h =
          passed_on r y g ∙ lined_standing c _ _ _ (moment_tied s (moment_form x)) _ _ read _ (moment_place x (time_as t)) y h

      module _ (h : Ok tt ≡ standing {A = Unit {0}} (length s) end.at (other_stands c.before) (Ok tt)) where
        stood : (form ≡ Some (moment_form x (time_as t))) × (in_place (before_as c.before) (moment_form x (time_as t)) ≡ true)
        stood = stands c _ _ _ (moment_tied s (moment_form x)) _ _ read _ (moment_place x (time_as t)) h

        pub moment_range : None ≡ local_minute t → Err Refusal.Range ≡ lined_form (context_as c) form
        moment_range o = moment_outside x (time_as t) form stood.0 stood.1 (time_outside t o)

        moment_taken : (m : ℕ) → Some m ≡ local_minute t → Ok (moment_frame x m) ≡ lined_form (context_as c) form
        moment_taken m o = let k = time_told t m o in rw (sym k.1) (moment_inside x (time_as t) form stood.0 stood.1 k.0)

        pub except_taken : (m : ℕ) → Some m ≡ local_minute t → x ≡ true → Ok (Frame.Excepted m) ≡ lined_form (context_as c) form
        except_taken m o e = ap (λ b. Ok (moment_frame b m)) (sym e) ∙ moment_taken m o

        pub extra_taken : (m : ℕ) → Some m ≡ local_minute t → x ≡ false → Ok (Frame.Extra m) ≡ lined_form (context_as c) form
        extra_taken m o e = ap (λ b. Ok (moment_frame b m)) (sym e) ∙ moment_taken m o
