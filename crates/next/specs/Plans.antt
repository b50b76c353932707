-- What a plan's text is asked: "Next and previous: 10, then 11. A local minute mapped by a plan's zone: 10, then 5." The offset at an instant: 10.
use Rattle.std.specs.Prelude.{List, map, ◌≡◌, ℕ, Option, Result, Ok, Err}
use Rattle.std.specs.Borrow.{Bor}
use Rattle.load.specs.Loads.{not_taken}
use Rattle.load.specs.declared.NotTaken.{NotTaken}
use Rattle.plan.specs.Plan.{PlanInstant, plan_zone}
use Rattle.plan.specs.Rows.{row_of}
use Rattle.plan.specs.Taken.{Loaded, taken, refused, load}
use Rattle.plan.specs.declared.Frame.{Frame}
use Rattle.zone.specs.Held.{offsets_of}
use Rattle.zone.specs.Stretches.{instant_of_local}
use Rattle.zone.specs.Zone.{offset_at}
use Rattle.next.specs.Instants.{NextOf, PreviousOf}
use Rattle.next.specs.declared.instants.Opened.{Opened}

-- 10 with the line where the plan is not taken; else what is right of its frames
unfoldable pub AnswerBy : {T : Type 0} → (List Frame → T → Type 0) → Loaded → Result T NotTaken → Type 0
AnswerBy right (taken fs) (Ok r) = right fs r
AnswerBy right (taken fs) (Err e) = ⊥
AnswerBy right (refused k) r = r ≡ not_taken k

-- what is answered of some frames, opened
pub record FoundIn {T : Type 0} (answers : Bor Opened → T → Type 0) (fs : List Frame) (r : T) : Type 0 where
  pub opened : Bor Opened
  pub held : opened.now.frames.now ≡ map row_of fs
  pub zoned : offsets_of opened.now.zone.now ≡ plan_zone fs
  pub answered : answers opened r

-- the first instant of the plan strictly later than the asked one
unfoldable pub NextIn : List ℕ → ℕ → Result (Option ℕ) NotTaken → Type 0
NextIn plan asked r = AnswerBy (λ (fs : List Frame). NextOf (PlanInstant fs) asked) (load plan) r

-- the last strictly earlier than it
unfoldable pub PreviousIn : List ℕ → ℕ → Result (Option ℕ) NotTaken → Type 0
PreviousIn plan asked r = AnswerBy (λ (fs : List Frame). PreviousOf (PlanInstant fs) asked) (load plan) r

-- the instant of a local minute by the plan's zone
unfoldable pub local_by : Loaded → ℕ → Result (Option ℕ) NotTaken
local_by (taken fs) m = Ok (instant_of_local (plan_zone fs) m)
local_by (refused k) m = not_taken k

unfoldable pub local_in : List ℕ → ℕ → Result (Option ℕ) NotTaken
local_in plan m = local_by (load plan) m

-- the offset at an instant by the plan's zone
unfoldable pub offset_by : Loaded → ℕ → Result ℕ NotTaken
offset_by (taken fs) i = Ok (offset_at (plan_zone fs) i)
offset_by (refused k) i = not_taken k

unfoldable pub offset_in : List ℕ → ℕ → Result ℕ NotTaken
offset_in plan i = offset_by (load plan) i
