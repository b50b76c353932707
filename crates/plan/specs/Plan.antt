-- A plan's meaning: "the sheet meaning read from these fields, with no counting".
use Rattle.std.specs.Prelude.{Bool, true, false, not, ◌&&◌, List, [], ◌∷◌, ◌≡◌, ℕ, eqb}
use Rattle.calendar.specs.Below.{any_of}
use Rattle.frames.specs.Cron.{cron_held}
use Rattle.frames.specs.Rule.{rule_held}
use Rattle.zone.specs.Zone.{Offsets, instant_of, in_window}
use Rattle.zone.specs.declared.Transition.{Transition}
use Rattle.plan.specs.declared.Frame.{Frame}

-- the local minutes of a C, R or D line's frame
unfoldable pub frame_holds : ℕ → Frame → Bool
frame_holds m (Frame.Offset o) = false
frame_holds m (Frame.Change t) = false
frame_holds m (Frame.Cron f) = cron_held f m
frame_holds m (Frame.Rule f) = rule_held f m
frame_holds m (Frame.Extra e) = eqb e m
frame_holds m (Frame.Excepted e) = false
frame_holds m (Frame.End n) = false

-- that of an X line's
unfoldable pub frame_excepts : ℕ → Frame → Bool
frame_excepts m (Frame.Offset o) = false
frame_excepts m (Frame.Change t) = false
frame_excepts m (Frame.Cron f) = false
frame_excepts m (Frame.Rule f) = false
frame_excepts m (Frame.Extra e) = false
frame_excepts m (Frame.Excepted e) = eqb e m
frame_excepts m (Frame.End n) = false

-- "All local minutes of C, R and D lines, less those of X lines (wherever they stand)."
unfoldable pub plan_held : List Frame → ℕ → Bool
plan_held fs m = in_window m && (any_of (frame_holds m) fs && not (any_of (frame_excepts m) fs))

-- the zone that the frames 01 and 02 write
unfoldable pub changes_of : List Frame → List Transition
changes_of [] = []
changes_of (Frame.Offset o ∷ fs) = changes_of fs
changes_of (Frame.Change t ∷ fs) = t ∷ changes_of fs
changes_of (Frame.Cron f ∷ fs) = changes_of fs
changes_of (Frame.Rule f ∷ fs) = changes_of fs
changes_of (Frame.Extra m ∷ fs) = changes_of fs
changes_of (Frame.Excepted m ∷ fs) = changes_of fs
changes_of (Frame.End n ∷ fs) = changes_of fs

unfoldable pub offset_of : List Frame → ℕ
offset_of [] = 0
offset_of (Frame.Offset o ∷ fs) = o
offset_of (Frame.Change t ∷ fs) = offset_of fs
offset_of (Frame.Cron f ∷ fs) = offset_of fs
offset_of (Frame.Rule f ∷ fs) = offset_of fs
offset_of (Frame.Extra m ∷ fs) = offset_of fs
offset_of (Frame.Excepted m ∷ fs) = offset_of fs
offset_of (Frame.End n ∷ fs) = offset_of fs

unfoldable pub plan_zone : List Frame → Offsets
plan_zone fs = record { first = offset_of fs; changes = changes_of fs }

-- "Then each local minute becomes one instant": i is an instant of the plan where a local minute that it holds becomes i
pub record PlanInstant (fs : List Frame) (i : ℕ) : Type 0 where
  pub minute : ℕ
  pub held : plan_held fs minute ≡ true
  pub becomes : instant_of (plan_zone fs) minute ≡ i
