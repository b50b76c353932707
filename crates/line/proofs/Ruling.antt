-- The line R: its form as it is read, its place, its numbers, its parts together and its start.
use Rattle.std.specs.Prelude.{Option, None, Some, Result, Ok, Err}
use Rattle.std.specs.Result.{IsErrAnd}
use mathlib.Core.Bool.{Bool, true, false, cond, not, ◌&&◌, and-false}
use mathlib.Core.List.{List, [], ◌∷◌, ◌++◌}
use mathlib.Core.Path.{◌≡◌, refl, sym, ap, ap₂, ◌∙◌}
use Prim.Native.Nat.{ℕ, ◌+◌}
use native.Mathlib.Omega.{arith}
use lib.ListN.{length, drop}
use Rattle.calendar.specs.Below.{all_of}
use Rattle.framed.proofs.Forms.{rule_form_written}
use Rattle.framed.proofs.Goods.{written}
use Rattle.framed.specs.Framed.{rule_frame, frame_of}
use Rattle.frames.specs.declared.Rule.{Rule}
use Rattle.parts.proofs.Whole.{stops_nothing, stops_space, parts_tied}
use Rattle.parts.specs.Given.{parts_given, parts_read, parts_as}
use Rattle.parts.specs.declared.given.Parts.{Parts}
use Rattle.plan.specs.declared.Frame.{Frame}
use Rattle.rules.proofs.Ruling.{ruled_is}
use Rattle.rules.specs.Ruled.{ruled_from}
use Rattle.rules.specs.declared.Unruled.{Unruled}
use Rattle.sheet.specs.Form.{Time, time_of, Part, part_of, Form, rule, rule_by, rule_of}
use Rattle.sheet.specs.Parts.{given_of, parts_together}
use Rattle.sheet.specs.Place.{in_place}
use Rattle.sheet.specs.Range.{time_in_range, minute_of, part_in_range, in_range}
use Rattle.sheet.specs.Refusals.{together, limits_kept, start_occurs}
use Rattle.sheet.specs.Words.{pieces, each_of}
use Rattle.words.proofs.Tied.{made, Tied}
use Rattle.words.proofs.Told.{time_told, time_outside}
use Rattle.words.specs.Answers.{made_read, time_as}
use Rattle.words.specs.Reads.{cursor, time_at}
use Rattle.words.specs.Times.{local_minute}
use Rattle.words.specs.declared.cursor.Cursor.{Cursor}
use Rattle.words.specs.declared.cursor.Time.{Time as ReadTime}
use Rattle.line.specs.Lined.{before_as, context_as, lined_form, other_stands, standing, spaced, unruled_as, ruled_line}
use Rattle.line.specs.declared.Context.{Context}
use Rattle.line.specs.declared.Refusal.{Refusal}
use Rattle.line.proofs.Placing.{rule_place}
use Rattle.line.proofs.Reading.{read_pair, passed_on, lined_not, lined_standing, stands}
use Rattle.line.proofs.Refusing.{out_of_range, not_together, no_start, taken}
use Rattle.line.proofs.Timing.{Stop, over, space, on_time, timed_read, timed_spaced, after_time, timed_tied}

abbrev parts_of : List ℕ → Option (List Part)
parts_of p = each_of part_of (pieces 59 p)

module _ (s : List ℕ) where
  parts_here : (at : ℕ) (p tail : List ℕ) → drop at s ≡ p ++ tail → Stop tail → Tied (parts_of p) (parts_read s at) at (at + length p)
  parts_here at p [] here over = parts_tied s at p [] here stops_nothing refl
  parts_here at p (c ∷ tail) here (space rest) = parts_tied s at p (32 ∷ tail) here (stops_space tail) refl

  no_time : (q : List ℕ) (ps : List (List ℕ)) → time_of q ≡ None → rule_of (q ∷ ps) ≡ None
  unfolding rule_of rule_by
  no_time q [] e = refl
  no_time q (p ∷ []) e = rw e refl
  no_time q (p ∷ r ∷ ps) e = refl

  with_time : (q : List ℕ) (ps : List (List ℕ)) (t : Time) → time_of q ≡ Some t
      → rule_of (q ∷ ps) ≡ after_time s parts_of (parts_read s) rule t ps
  unfolding rule_of rule_by after_time
  with_time q [] t e = refl
  with_time q (p ∷ []) t e = rw e (by_parts (parts_of p))
    where
      by_parts : (o : Option (List Part)) → rule_by (Some t) o ≡ made (rule t) o
      by_parts None = refl
      by_parts (Some x) = refl
  with_time q (p ∷ r ∷ ps) t e = refl

  rule_tied : Tied (rule_of (pieces 32 s)) (timed_read s parts_of (parts_read s) rule) 0 (length s)
  rule_tied = timed_tied s parts_of (parts_read s) rule rule_of no_time with_time parts_here

-- what the reader of parts answered
record PartsAre (o : Option (List Part × ℕ)) (p : Parts) (c : Cursor) : Type 0 where
  parts : List Part
  read : o ≡ Some (parts, c.at)
  same : p ≡ parts_given parts

parts_are : (o : Option (List Part × ℕ)) (p : Parts) (c : Cursor) → Some (p, c) ≡ parts_as o → PartsAre o p c
parts_are None p c e = let z : ◌≡◌ {A = ℕ} 0 1 = cc in absurd (omega arith)
parts_are (Some r) p c e =
    let k = read_pair (p, c) (parts_given r.0, cursor r.1) e in record { parts = r.0; read = ap (λ (x : Cursor). Some (r.0, x.at)) (sym k.1); same = k.0 }

no_parts : (o : Option (List Part × ℕ)) → None ≡ parts_as o → o ≡ None
no_parts None e = refl
no_parts (Some r) e = let z : ◌≡◌ {A = ℕ} 0 1 = cc in absurd (omega arith)

-- ---- the line by the frame or refusal of its rule
module _ (c : Context) (form : Option Form) (t : Time) (ps : List Part) (is : form ≡ Some (rule t ps)) (p : in_place (before_as c.before) (rule t ps) ≡ true)
    (r : in_range (rule t ps) ≡ true) (w : written (rule t ps) ≡ true) where
  pub lined_rule : ruled_line (ruled_from (parts_given ps) (minute_of t)) ≡ lined_form (context_as c) form
  unfolding together limits_kept frame_of
  lined_rule = ap ruled_line (ruled_is t ps r w) ∙ by_parts (parts_together ps) refl
    where
      by_start : (b : Bool) → start_occurs (rule t ps) ≡ b → parts_together ps ≡ true
          → ruled_line (cond (not b) (Err Unruled.NoStart) (Ok (rule_frame (given_of ps) (minute_of t)))) ≡ lined_form (context_as c) form
      by_start true s e = taken (context_as c) form (rule t ps) is p r e refl s
      by_start false s e = no_start (context_as c) form (rule t ps) is p r e refl s

      by_parts : (b : Bool) → parts_together ps ≡ b
          → ruled_line (cond (not b) (Err Unruled.Apart) (cond (not (start_occurs (rule t ps))) (Err Unruled.NoStart) (Ok (rule_frame (given_of ps) (minute_of t))))) ≡ lined_form (context_as c) form
      by_parts true e = by_start (start_occurs (rule t ps)) refl e
      by_parts false e = not_together (context_as c) form (rule t ps) is p r e

good_parts : (p : Parts) (ps : List Part) → p ≡ parts_given ps → p.good ≡ all_of part_in_range ps
unfolding parts_given
good_parts p ps e = ap (λ (q : Parts). q.good) e

-- ---- the line by what was read
module _ (c : Context) (s : List ℕ) where
  abbrev form : Option Form
  form = rule_of (pieces 32 s)

  abbrev after : Option (ReadTime × Cursor) → Option (Form × ℕ)
  after = on_time s parts_of (parts_read s) rule

  on_lem : (o : Option (ReadTime × Cursor)) → spaced s (time_at s 0) ≡ o → timed_read s parts_of (parts_read s) rule ≡ after o
  on_lem o e = timed_spaced s parts_of (parts_read s) rule ∙ ap after e

  pub rule_no_time : spaced s (time_at s 0) ≡ None → Err Refusal.Form ≡ lined_form (context_as c) form
  rule_no_time e = lined_not c _ _ _ (rule_tied s) (on_lem None e)

  module _ (t : ReadTime) (from : Cursor) (e : spaced s (time_at s 0) ≡ Some (t, from)) where
    parts_lem : (o : Option (List Part × ℕ)) → parts_read s from.at ≡ o → timed_read s parts_of (parts_read s) rule ≡ made_read (rule (time_as t)) o
    parts_lem o g = on_lem (Some (t, from)) e ∙ ap (made_read (rule (time_as t))) g

    pub rule_no_parts : parts_as (parts_read s from.at) ≡ None → Err Refusal.Form ≡ lined_form (context_as c) form
    rule_no_parts g = lined_not c _ _ _ (rule_tied s) (parts_lem None (no_parts _ (sym g)))

    module _ (p : Parts) (end : Cursor) (g : parts_as (parts_read s from.at) ≡ Some (p, end)) where
      abbrev a : PartsAre (parts_read s from.at) p end
      a = parts_are (parts_read s from.at) p end (sym g)

      abbrev line : Form
      line = rule (time_as t) a.parts

      place : in_place (before_as c.before) line ≡ other_stands c.before
      place = rule_place c.before (time_as t) a.parts

      pub rule_standing : (r : Result Frame Refusal) (y : Refusal) → IsErrAnd r (λ z. z ≡ y)
          → Err y ≡ standing {A = Unit {0}} (length s) end.at (other_stands c.before) (Ok tt) → r ≡ lined_form (context_as c) form
      rule_standing r y i h = passed_on r y i ∙ lined_standing c _ _ _ (rule_tied s) _ _ (parts_lem _ a.read) _ place y h

      module _ (h : Ok tt ≡ standing {A = Unit {0}} (length s) end.at (other_stands c.before) (Ok tt)) where
        stood : (form ≡ Some line) × (in_place (before_as c.before) line ≡ true)
        stood = stands c _ _ _ (rule_tied s) _ _ (parts_lem _ a.read) _ place h

        pub rule_no_minute : None ≡ local_minute t → Err Refusal.Range ≡ lined_form (context_as c) form
        unfolding in_range
        rule_no_minute o = out_of_range (context_as c) form line stood.0 stood.1 (rw (time_outside t o) refl)

        module _ (m : ℕ) (i : local_minute t ≡ Some m) where
          pub rule_range : p.good ≡ false → Err Refusal.Range ≡ lined_form (context_as c) form
          unfolding in_range
          rule_range b =
              out_of_range (context_as c) form line stood.0 stood.1
              (ap (λ x. time_in_range (time_as t) && x) (sym (good_parts p a.parts a.same) ∙ b) ∙ and-false (time_in_range (time_as t)))

          module _ (b : p.good ≡ true) where
            inside : in_range line ≡ true
            unfolding in_range
            inside = rw (time_told t m (sym i)).0 (sym (good_parts p a.parts a.same) ∙ b)

            ruled : ruled_line (ruled_from p m) ≡ lined_form (context_as c) form
            ruled =
                ap ruled_line (ap₂ ruled_from a.same (sym (time_told t m (sym i)).1))
                ∙ lined_rule c form (time_as t) a.parts stood.0 stood.1 inside (rule_form_written _ _ stood.0)

            pub rule_refused : (r : Result Frame Refusal) (u : Unruled) → IsErrAnd r (λ z. z ≡ unruled_as u) → Err u ≡ ruled_from p m
                → r ≡ lined_form (context_as c) form
            rule_refused r u g o = passed_on r (unruled_as u) g ∙ ap ruled_line o ∙ ruled

            pub rule_taken : (f : Rule) → Ok f ≡ ruled_from p m → Ok (Frame.Rule f) ≡ lined_form (context_as c) form
            rule_taken f o = ap ruled_line o ∙ ruled
