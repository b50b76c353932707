-- A line's answer against the sheet's refusal number and its form.
use Rattle.std.specs.Prelude.{Option, None, Some, Result, Ok, Err}
use mathlib.Core.Bool.{Bool, true, false, cond, not}
use mathlib.Core.List.{List}
use mathlib.Core.Path.{◌≡◌, refl, sym, ap, ◌∙◌}
use Prim.Native.Nat.{ℕ}
use native.Mathlib.Omega.{arith}
use borrow.Author.Tests.{eqb-true, eq-eqb}
use lib.Dec.{eqb}
use Rattle.framed.specs.Framed.{frame_of}
use Rattle.plan.specs.declared.Frame.{Frame}
use Rattle.sheet.specs.Form.{Form, form_of}
use Rattle.sheet.specs.Place.{in_place}
use Rattle.sheet.specs.Range.{in_range}
use Rattle.sheet.specs.Refusals.{Context, together, limits_kept, start_occurs, bytes_good, form_refusal, form_refusal_or3, line_refusal}
use Rattle.line.specs.Lined.{number_of, refusal_with, lined_form, lined, refusal_of}
use Rattle.line.specs.declared.Refusal.{Refusal}

-- a refusal that a form has is the one with its number
kept : (p r t l s : Bool) → let n : ℕ = cond (not p) 4 (cond (not r) 5 (cond (not t) 6 (cond (not l) 7 (cond (not s) 8 0)))) in eqb n 0 ≡ false → number_of (refusal_with n) ≡ n
unfolding refusal_with
kept false r t l s e = refl
kept true false t l s e = refl
kept true true false l s e = refl
kept true true true false s e = refl
kept true true true true false e = refl
kept true true true true true e = let z : ◌≡◌ {A = ℕ} 0 1 = cc in absurd (omega arith)

module _ (c : Context) where
  kept_number : (f : Form) → eqb (form_refusal c f) 0 ≡ false → number_of (refusal_with (form_refusal c f)) ≡ form_refusal c f
  unfolding form_refusal
  kept_number f = kept (in_place c.before f) (in_range f) (together f) (limits_kept c f) (start_occurs f)

  form_number : (o : Option Form) → refusal_of (lined_form c o) ≡ form_refusal_or3 c o
  unfolding lined_form form_refusal_or3
  form_number None = refl
  form_number (Some f) = by_number (eqb (form_refusal c f) 0) refl
    where
      by_number : (b : Bool) → eqb (form_refusal c f) 0 ≡ b
          → refusal_of (cond b (Ok (frame_of f)) (Err (refusal_with (form_refusal c f)))) ≡ form_refusal c f
      by_number true e = sym (eqb-true (form_refusal c f) 0 e)
      by_number false e = kept_number f e

  module _ (line : List ℕ) where
    -- "in it the lowest of 2 to 8 that applies"
    pub lined_number : refusal_of (lined c line) ≡ line_refusal c line
    unfolding lined line_refusal
    lined_number = by_bytes (bytes_good line)
      where
        by_bytes : (b : Bool)
            → refusal_of (cond b (lined_form c (form_of line)) (Err Refusal.Bytes)) ≡ cond (not b) 2 (form_refusal_or3 c (form_of line))
        by_bytes true = form_number (form_of line)
        by_bytes false = refl

    -- "one frame for each sheet line": of a line that is taken, that of its form
    pub lined_frame : line_refusal c line ≡ 0 → (f : Form) → form_of line ≡ Some f → lined c line ≡ Ok (frame_of f)
    unfolding lined lined_form line_refusal form_refusal_or3
    lined_frame z f e = by_bytes (bytes_good line) refl z
      where
        by_bytes : (b : Bool) → bytes_good line ≡ b → cond (not (bytes_good line)) 2 (form_refusal_or3 c (form_of line)) ≡ 0
            → cond (bytes_good line) (lined_form c (form_of line)) (Err Refusal.Bytes) ≡ Ok (frame_of f)
        by_bytes true g z = let n : form_refusal c f ≡ 0 = rw (g, e) at z in rw (g, e, eq-eqb _ _ n) refl
        by_bytes false g z = let n : ◌≡◌ {A = ℕ} 2 0 = rw g at z in let y : ◌≡◌ {A = ℕ} 0 1 = cc in absurd (omega arith)

    -- a line with a frame is of a form, nothing is wrong with it, and the frame is that of the form
    pub record LinedIs (frame : Frame) : Type 0 where
      pub form : Form
      pub of : form_of line ≡ Some form
      pub fine : form_refusal c form ≡ 0
      pub whole : line_refusal c line ≡ 0
      pub same : frame ≡ frame_of form

    pub lined_is : (frame : Frame) → lined c line ≡ Ok frame → LinedIs frame
    unfolding lined lined_form
    lined_is frame e = by_bytes (bytes_good line) refl e
      where
        frame_in : Result Frame Refusal → Frame
        frame_in (Ok f) = f
        frame_in (Err r) = frame

        number : line_refusal c line ≡ 0
        number = sym lined_number ∙ ap refusal_of e

        by_number : (f : Form) → form_of line ≡ Some f → (b : Bool) → eqb (form_refusal c f) 0 ≡ b
            → cond b (Ok (frame_of f)) (Err (refusal_with (form_refusal c f))) ≡ Ok frame → LinedIs frame
        by_number f g true h e =
            record { form = f; of = g; fine = eqb-true (form_refusal c f) 0 h; whole = number; same = sym (ap frame_in e) }
        by_number f g false h e = let z : ◌≡◌ {A = ℕ} 0 1 = cc in absurd (omega arith)

        by_form : (o : Option Form) → form_of line ≡ o → lined_form c o ≡ Ok frame → LinedIs frame
        by_form None g e = let z : ◌≡◌ {A = ℕ} 0 1 = cc in absurd (omega arith)
        by_form (Some f) g e = by_number f g (eqb (form_refusal c f) 0) refl e

        by_bytes : (b : Bool) → bytes_good line ≡ b → cond (bytes_good line) (lined_form c (form_of line)) (Err Refusal.Bytes) ≡ Ok frame
            → LinedIs frame
        by_bytes true g e = by_form (form_of line) refl (rw g at e)
        by_bytes false g e = let h : Err Refusal.Bytes ≡ Ok frame = rw g at e in let z : ◌≡◌ {A = ℕ} 0 1 = cc in absurd (omega arith)
