-- The refusals of a form one after the other: the first that applies is the line's.
use Rattle.std.specs.Prelude.{Option, Some, Ok, Err}
use mathlib.Core.Bool.{true, false}
use mathlib.Core.Path.{◌≡◌, refl}
use Rattle.framed.specs.Framed.{frame_of}
use Rattle.sheet.specs.Form.{Form}
use Rattle.sheet.specs.Place.{in_place}
use Rattle.sheet.specs.Range.{in_range}
use Rattle.sheet.specs.Refusals.{Context, together, limits_kept, start_occurs, form_refusal}
use Rattle.line.specs.Lined.{refusal_with, lined_form}
use Rattle.line.specs.declared.Refusal.{Refusal}

module _ (c : Context) (form : Option Form) (f : Form) (is : form ≡ Some f) where
  pub out_of_place : in_place c.before f ≡ false → Err Refusal.Place ≡ lined_form c form
  unfolding lined_form form_refusal refusal_with
  out_of_place p = rw (is, p) refl

  module _ (p : in_place c.before f ≡ true) where
    pub out_of_range : in_range f ≡ false → Err Refusal.Range ≡ lined_form c form
    unfolding lined_form form_refusal refusal_with
    out_of_range r = rw (is, p, r) refl

    module _ (r : in_range f ≡ true) where
      pub not_together : together f ≡ false → Err Refusal.Parts ≡ lined_form c form
      unfolding lined_form form_refusal refusal_with
      not_together t = rw (is, p, r, t) refl

      module _ (t : together f ≡ true) where
        pub limits_broken : limits_kept c f ≡ false → Err Refusal.Limits ≡ lined_form c form
        unfolding lined_form form_refusal refusal_with
        limits_broken l = rw (is, p, r, t, l) refl

        module _ (l : limits_kept c f ≡ true) where
          pub no_start : start_occurs f ≡ false → Err Refusal.Start ≡ lined_form c form
          unfolding lined_form form_refusal refusal_with
          no_start s = rw (is, p, r, t, l, s) refl

          pub taken : start_occurs f ≡ true → Ok (frame_of f) ≡ lined_form c form
          unfolding lined_form form_refusal
          taken s = rw (is, p, r, t, l, s) refl
