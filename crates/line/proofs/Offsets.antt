-- The line Z: its place, its number and its frame.
use Rattle.std.specs.Prelude.{Option, None, Some, Result, Ok, Err}
use Rattle.std.specs.Result.{IsErrAnd}
use mathlib.Core.Bool.{true}
use mathlib.Core.List.{List}
use mathlib.Core.Path.{◌≡◌, refl, sym, ap, ◌∙◌}
use Prim.Native.Nat.{ℕ}
use lib.ListN.{length}
use Rattle.framed.specs.Framed.{frame_of}
use Rattle.plan.specs.declared.Frame.{Frame}
use Rattle.sheet.specs.Form.{shift_of, Form, zone, form_by}
use Rattle.sheet.specs.Place.{in_place}
use Rattle.sheet.specs.Range.{in_range}
use Rattle.sheet.specs.Refusals.{together, limits_kept, start_occurs}
use Rattle.words.proofs.Told.{shift_told, shift_outside}
use Rattle.words.specs.Answers.{made_read, shift_as, shift_read}
use Rattle.words.specs.Reads.{shift_at}
use Rattle.words.specs.Times.{offset_from}
use Rattle.words.specs.declared.cursor.Cursor.{Cursor}
use Rattle.words.specs.declared.cursor.Shift.{Shift}
use Rattle.line.specs.Lined.{before_as, context_as, lined_form, zone_stands, standing}
use Rattle.line.specs.declared.Context.{Context}
use Rattle.line.specs.declared.Refusal.{Refusal}
use Rattle.line.proofs.Placing.{zone_place}
use Rattle.line.proofs.Reading.{passed_on, lined_not, lined_standing, stands}
use Rattle.line.proofs.Refusing.{out_of_range, taken}
use Rattle.line.proofs.Zoning.{zone_tied}

module _ (c : Context) (s : List ℕ) where
  abbrev form : Option Form
  form = form_by zone (shift_of s)

  pub zone_not : shift_at s 0 ≡ None → Err Refusal.Form ≡ lined_form (context_as c) form
  zone_not e = lined_not c _ _ _ (zone_tied s) (ap (λ o. made_read zone (shift_read o)) e)

  module _ (x : Shift) (end : Cursor) (e : shift_at s 0 ≡ Some (x, end)) where
    read : made_read zone (shift_read (shift_at s 0)) ≡ Some (zone (shift_as x), end.at)
    read = ap (λ o. made_read zone (shift_read o)) e

    pub zone_standing : (r : Result Frame Refusal) (y : Refusal) → IsErrAnd r (λ z. z ≡ y)
        → Err y ≡ standing {A = Unit {0}} (length s) end.at (zone_stands c.before) (Ok tt) → r ≡ lined_form (context_as c) form
    zone_standing r y g h = passed_on r y g ∙ lined_standing c _ _ _ (zone_tied s) _ _ read _ (zone_place c.before (shift_as x)) y h

    module _ (h : Ok tt ≡ standing {A = Unit {0}} (length s) end.at (zone_stands c.before) (Ok tt)) where
      stood : (form ≡ Some (zone (shift_as x))) × (in_place (before_as c.before) (zone (shift_as x)) ≡ true)
      stood = stands c _ _ _ (zone_tied s) _ _ read _ (zone_place c.before (shift_as x)) h

      pub zone_range : None ≡ offset_from x → Err Refusal.Range ≡ lined_form (context_as c) form
      unfolding in_range
      zone_range o = out_of_range (context_as c) form (zone (shift_as x)) stood.0 stood.1 (shift_outside x o)

      pub zone_taken : (o : ℕ) → Some o ≡ offset_from x → Ok (Frame.Offset o) ≡ lined_form (context_as c) form
      unfolding in_range together limits_kept start_occurs frame_of
      zone_taken o e =
          let k = shift_told x o e in rw (sym k.1) (taken (context_as c) form (zone (shift_as x)) stood.0 stood.1 k.0 refl refl refl)
