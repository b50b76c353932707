-- The frames of a sheet that is taken hold the minutes that its lines hold, and have their zone.
use mathlib.Core.Bool.{Bool, true, false, not, ◌&&◌, ◌||◌}
use mathlib.Core.List.{List, [], ◌∷◌, map}
use mathlib.Core.Path.{◌≡◌, refl, ap₂}
use Prim.Native.Nat.{ℕ, ◌<◌}
use borrow.Author.Tests.{ltb-true}
use Rattle.calendar.specs.Below.{any_of}
use Rattle.calendar.specs.Window.{window_minutes}
use Rattle.framed.proofs.Lines.{line_means}
use Rattle.framed.specs.Framed.{frame_of}
use Rattle.plan.specs.Plan.{frame_holds, frame_excepts, plan_held, changes_of, offset_of, plan_zone}
use Rattle.sheet.specs.Form.{Form}
use Rattle.sheet.specs.Meaning.{line_holds, line_excepts, sheet_held, offset_of_lines, changes_of_lines, sheet_zone}
use Rattle.sheet.specs.Refusals.{Context, context_after, first}
use Rattle.zone.specs.Zone.{in_window}
use Rattle.demands.proofs.Read.{Lines, TakenSheet}

-- what the frames of some lines say together
record Mean (fs : List Form) : Type 0 where
  holds : (m : ℕ) → m < window_minutes → any_of (frame_holds m) (map frame_of fs) ≡ any_of (line_holds m) fs
  excepts : (m : ℕ) → any_of (frame_excepts m) (map frame_of fs) ≡ any_of (line_excepts m) fs
  offset : offset_of (map frame_of fs) ≡ offset_of_lines fs
  changes : changes_of (map frame_of fs) ≡ changes_of_lines fs

lines_mean : (fs : List Form) (c : Context) → Lines c fs → Mean fs
unfolding offset_of offset_of_lines changes_of changes_of_lines
lines_mean [] c ls = record { holds = λ m h. refl; excepts = λ m. refl; offset = refl; changes = refl }
lines_mean (f ∷ fs) c ls =
    let l = ls.0 in
    let a = line_means l.bytes f l.form c l.fine in
    let b = lines_mean fs (context_after c f) ls.1 in
    record {
      holds = λ m h. ap₂ ◌||◌ (a.holds m h) (b.holds m h);
      excepts = λ m. ap₂ ◌||◌ (a.excepts m) (b.excepts m);
      offset = a.offset (map frame_of fs) fs b.offset;
      changes = a.changes (map frame_of fs) fs b.changes;
    }

-- local minutes outside the window are held by neither
in_window_lem : (b x y : Bool) → (b ≡ true → x ≡ y) → (b && x) ≡ (b && y)
in_window_lem true x y e = e refl
in_window_lem false x y e = refl

pub held_same : (fs : List Form) → TakenSheet fs → (m : ℕ) → plan_held (map frame_of fs) m ≡ sheet_held fs m
unfolding plan_held sheet_held
held_same fs t m =
    let a = lines_mean fs first t.each in
    in_window_lem (in_window m) _ _ (λ i. ap₂ (λ (x y : Bool). x && not y) (a.holds m (ltb-true m window_minutes i)) (a.excepts m))

pub zone_same : (fs : List Form) → TakenSheet fs → plan_zone (map frame_of fs) ≡ sheet_zone fs
unfolding plan_zone sheet_zone
zone_same fs t = let a = lines_mean fs first t.each in rw (a.offset, a.changes) refl
