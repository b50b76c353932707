-- The line C: what the reader of its five fields answered.
use Rattle.std.specs.Prelude.{Option, None, Some, Result, Ok, Err}
use Rattle.std.specs.Result.{IsErrAnd}
use mathlib.Core.Bool.{Bool, true, false, cond}
use mathlib.Core.List.{List}
use mathlib.Core.Path.{◌≡◌, refl, sym, ap, ◌∙◌}
use Prim.Native.Nat.{ℕ, ◌+◌}
use native.Mathlib.Omega.{arith}
use lib.Dec.{eqb}
use lib.ListN.{length, get_or}
use Rattle.fields.proofs.Crons.{cron_tied}
use Rattle.fields.specs.Crons.{cron_read, five_as}
use Rattle.fields.specs.Fields.{field_read}
use Rattle.framed.specs.Framed.{cron_frame, frame_of}
use Rattle.frames.specs.declared.Cron.{Cron}
use Rattle.plan.specs.declared.Frame.{Frame}
use Rattle.sheet.specs.Form.{Field, field_of, Form, cron, cron_of}
use Rattle.sheet.specs.Place.{in_place}
use Rattle.sheet.specs.Range.{in_range}
use Rattle.sheet.specs.Refusals.{together, limits_kept, start_occurs}
use Rattle.sheet.specs.Words.{pieces, each_of}
use Rattle.words.proofs.Tied.{Tied}
use Rattle.words.specs.Answers.{made_read, then_at}
use Rattle.words.specs.Reads.{cursor}
use Rattle.words.specs.declared.cursor.Cursor.{Cursor}
use Rattle.line.specs.Lined.{before_as, context_as, lined_form, other_stands, standing}
use Rattle.line.specs.declared.Context.{Context}
use Rattle.line.specs.declared.Refusal.{Refusal}
use Rattle.line.proofs.Placing.{cron_place}
use Rattle.line.proofs.Reading.{read_pair, all_of_it, to_end, passed_on, lined_not, lined_standing, stands}
use Rattle.line.proofs.Refusing.{out_of_range, taken}

five_tied : (s : List ℕ) → Tied (cron_of (each_of field_of (pieces 32 s))) (cron_read s 0) 0 (length s)
five_tied s = to_end s _ _ (cron_tied s 0 s (all_of_it s))

-- a cron line or nothing is read
data CronAt : Option (Form × ℕ) → Type 0 where
  nothing : CronAt None
  five : (m h d mo w : Field) (e : ℕ) → CronAt (Some (cron m h d mo w, e))

then_at_lem : (s : List ℕ) (more : Field → ℕ → Option (Form × ℕ)) → ((x : Field) (e : ℕ) → CronAt (more x e)) → (o : Option (Field × ℕ))
    → CronAt (then_at 32 s more o)
then_at_lem s more h None = nothing
then_at_lem s more h (Some r) = by_byte (eqb (get_or s r.1 0) 32)
  where
    by_byte : (b : Bool) → CronAt (cond b (more r.0 (r.1 + 1)) None)
    by_byte true = h r.0 (r.1 + 1)
    by_byte false = nothing

made_at : (m h d mo : Field) (o : Option (Field × ℕ)) → CronAt (made_read (cron m h d mo) o)
made_at m h d mo None = nothing
made_at m h d mo (Some r) = five m h d mo r.0 r.1

cron_at : (s : List ℕ) (at : ℕ) → CronAt (cron_read s at)
unfolding cron_read
cron_at s at =
    then_at_lem s _ (λ m e. then_at_lem s _ (λ h e. then_at_lem s _ (λ d e. then_at_lem s _ (λ mo e. made_at m h d mo (field_read s e)) (field_read s e)) (field_read s e)) (field_read s e)) (field_read s at)

abbrev five_frame : Field → Field → Field → Field → Field → Option Cron
five_frame m h d mo w = cond (in_range (cron m h d mo w)) (Some (cron_frame m h d mo w)) None

-- the five fields of an answer
record FiveAre (o : Option (Form × ℕ)) (frame : Option Cron) (c : Cursor) : Type 0 where
  minute : Field
  hour : Field
  day : Field
  month : Field
  weekday : Field
  read : o ≡ Some (cron minute hour day month weekday, c.at)
  same : frame ≡ five_frame minute hour day month weekday

module _ (s : List ℕ) (at : ℕ) where
  five_not : None ≡ five_as (cron_read s at) → cron_read s at ≡ None
  unfolding five_as
  five_not e = by_form (cron_read s at) (cron_at s at) e
    where
      by_form : (o : Option (Form × ℕ)) → CronAt o → None ≡ five_as o → o ≡ None
      by_form None nothing e = refl
      by_form (Some r) (five m h d mo w f) e = let z : ◌≡◌ {A = ℕ} 0 1 = cc in absurd (omega arith)

  five_are : (frame : Option Cron) (c : Cursor) → Some (frame, c) ≡ five_as (cron_read s at) → FiveAre (cron_read s at) frame c
  unfolding five_as
  five_are frame c e = by_form (cron_read s at) (cron_at s at) e
    where
      by_form : (o : Option (Form × ℕ)) → CronAt o → Some (frame, c) ≡ five_as o → FiveAre o frame c
      by_form None nothing e = let z : ◌≡◌ {A = ℕ} 0 1 = cc in absurd (omega arith)
      by_form (Some r) (five m h d mo w f) e =
          let k = read_pair (frame, c) (five_frame m h d mo w, cursor f) e in
          record { minute = m; hour = h; day = d; month = mo; weekday = w; read = ap (λ (x : Cursor). Some (cron m h d mo w, x.at)) (sym k.1); same = k.0 }

five_outside : (m h d mo w : Field) → None ≡ five_frame m h d mo w → in_range (cron m h d mo w) ≡ false
five_outside m h d mo w e = by_range (in_range (cron m h d mo w)) e
  where
    by_range : (b : Bool) → None ≡ cond b (Some (cron_frame m h d mo w)) None → b ≡ false
    by_range true e = let z : ◌≡◌ {A = ℕ} 0 1 = cc in absurd (omega arith)
    by_range false e = refl

five_inside : (m h d mo w : Field) (frame : Cron) → Some frame ≡ five_frame m h d mo w → (in_range (cron m h d mo w) ≡ true) × (frame ≡ cron_frame m h d mo w)
five_inside m h d mo w frame e = by_range (in_range (cron m h d mo w)) e
  where
    by_range : (b : Bool) → Some frame ≡ cond b (Some (cron_frame m h d mo w)) None → (b ≡ true) × (frame ≡ cron_frame m h d mo w)
    by_range true e = (refl, cc)
    by_range false e = let z : ◌≡◌ {A = ℕ} 0 1 = cc in absurd (omega arith)

-- ---- the line by the answer
module _ (c : Context) (s : List ℕ) where
  abbrev form : Option Form
  form = cron_of (each_of field_of (pieces 32 s))

  pub cron_not : five_as (cron_read s 0) ≡ None → Err Refusal.Form ≡ lined_form (context_as c) form
  cron_not e = lined_not c _ _ _ (five_tied s) (five_not s 0 (sym e))

  module _ (five : Option Cron) (end : Cursor) (e : five_as (cron_read s 0) ≡ Some (five, end)) where
    abbrev a : FiveAre (cron_read s 0) five end
    a = five_are s 0 five end (sym e)

    abbrev line : Form
    line = cron a.minute a.hour a.day a.month a.weekday

    place : in_place (before_as c.before) line ≡ other_stands c.before
    place = cron_place c.before a.minute a.hour a.day a.month a.weekday

    pub cron_standing : (r : Result Frame Refusal) (y : Refusal) → IsErrAnd r (λ z. z ≡ y)
        → Err y ≡ standing {A = Unit {0}} (length s) end.at (other_stands c.before) (Ok tt) → r ≡ lined_form (context_as c) form
    cron_standing r y g h = passed_on r y g ∙ lined_standing c _ _ _ (five_tied s) _ _ a.read _ place y h

    module _ (h : Ok tt ≡ standing {A = Unit {0}} (length s) end.at (other_stands c.before) (Ok tt)) where
      stood : (form ≡ Some line) × (in_place (before_as c.before) line ≡ true)
      stood = stands c _ _ _ (five_tied s) _ _ a.read _ place h

      pub cron_range : five ≡ None → Err Refusal.Range ≡ lined_form (context_as c) form
      cron_range o =
          out_of_range (context_as c) form line stood.0 stood.1 (five_outside a.minute a.hour a.day a.month a.weekday (sym o ∙ a.same))

      pub cron_taken : (frame : Cron) → five ≡ Some frame → Ok (Frame.Cron frame) ≡ lined_form (context_as c) form
      unfolding together limits_kept start_occurs frame_of
      cron_taken frame o =
          let k = five_inside a.minute a.hour a.day a.month a.weekday frame (sym o ∙ a.same) in
          rw k.1 (taken (context_as c) form line stood.0 stood.1 k.0 refl refl refl)
