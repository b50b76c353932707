-- The frame of a line that is taken means what the line means.
use Rattle.std.specs.Prelude.{Some}
use mathlib.Core.Bool.{Bool, true, false, cond, not}
use mathlib.Core.List.{List, ◌∷◌}
use mathlib.Core.Path.{◌≡◌, refl}
use Prim.Native.Nat.{ℕ, suc, ◌<◌}
use native.Mathlib.Omega.{arith}
use Rattle.calendar.specs.Window.{window_minutes}
use Rattle.plan.specs.Plan.{frame_holds, frame_excepts, changes_of, offset_of}
use Rattle.plan.specs.declared.Frame.{Frame}
use Rattle.sheet.specs.Form.{Form, zone, change, cron, rule, extra, except, form_of}
use Rattle.sheet.specs.Meaning.{line_holds, line_excepts, offset_of_lines, changes_of_lines}
use Rattle.sheet.specs.Place.{in_place}
use Rattle.sheet.specs.Range.{in_range}
use Rattle.sheet.specs.Refusals.{Context, together, limits_kept, start_occurs, form_refusal}
use Rattle.framed.specs.Framed.{frame_of}
use Rattle.framed.proofs.Crons.{cron_held_lem}
use Rattle.framed.proofs.Forms.{form_written}
use Rattle.framed.proofs.Helds.{rule_held_lem}

-- nothing is wrong with a line that is taken
pub record Taken (c : Context) (f : Form) : Type 0 where
  pub place : in_place c.before f ≡ true
  pub range : in_range f ≡ true
  pub parts : together f ≡ true
  pub limits : limits_kept c f ≡ true
  pub start : start_occurs f ≡ true

-- where nothing is refused a condition holds, and those after it refuse nothing
pub fine : (b : Bool) (n x : ℕ) → cond (not b) (suc n) x ≡ 0 → (b ≡ true) × (x ≡ 0)
fine true n x e = (refl, e)
fine false n x e = absurd (omega arith)

pub taken : (c : Context) (f : Form) → form_refusal c f ≡ 0 → Taken c f
unfolding form_refusal
taken c f e =
    let place = fine (in_place c.before f) 3 _ e in
    let range = fine (in_range f) 4 _ place.1 in
    let parts = fine (together f) 5 _ range.1 in
    let limits = fine (limits_kept c f) 6 _ parts.1 in
    record { place = place.0; range = range.0; parts = parts.0; limits = limits.0; start = (fine (start_occurs f) 7 _ limits.1).0 }

-- all that a line says and its frame says: the minutes held, those excepted, and the zone, which the lines after it go on with
pub record Means (f : Form) (frame : Frame) : Type 0 where
  pub holds : (m : ℕ) → m < window_minutes → frame_holds m frame ≡ line_holds m f
  pub excepts : (m : ℕ) → frame_excepts m frame ≡ line_excepts m f
  pub offset : (frames : List Frame) (fs : List Form) → offset_of frames ≡ offset_of_lines fs
      → offset_of (frame ∷ frames) ≡ offset_of_lines (f ∷ fs)
  pub changes : (frames : List Frame) (fs : List Form) → changes_of frames ≡ changes_of_lines fs
      → changes_of (frame ∷ frames) ≡ changes_of_lines (f ∷ fs)

pub line_means : (line : List ℕ) (f : Form) → form_of line ≡ Some f → (c : Context) → form_refusal c f ≡ 0 → Means f (frame_of f)
unfolding frame_holds frame_excepts offset_of changes_of line_holds line_excepts offset_of_lines changes_of_lines frame_of
line_means line (zone s) e c z = record { holds = λ m h. refl; excepts = λ m. refl; offset = λ fr fs o. refl; changes = λ fr fs o. o }
line_means line (change t s) e c z =
    record { holds = λ m h. refl; excepts = λ m. refl; offset = λ fr fs o. o; changes = λ fr fs o. rw o refl }
line_means line (cron mi hr d mo wd) e c z =
    record { holds = cron_held_lem mi hr d mo wd; excepts = λ m. refl; offset = λ fr fs o. o; changes = λ fr fs o. o }
line_means line (rule t ps) e c z =
    let a = taken c (rule t ps) z in
    record { holds = rule_held_lem t ps a.range a.parts (form_written line (rule t ps) e); excepts = λ m. refl; offset = λ fr fs o. o; changes = λ fr fs o. o }
line_means line (extra t) e c z = record { holds = λ m h. refl; excepts = λ m. refl; offset = λ fr fs o. o; changes = λ fr fs o. o }
line_means line (except t) e c z = record { holds = λ m h. refl; excepts = λ m. refl; offset = λ fr fs o. o; changes = λ fr fs o. o }
