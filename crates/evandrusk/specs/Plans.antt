-- What C is answered of a plan, by the signed instants and local minutes that it hands in: "Next and previous: 10, then 11. A local minute
-- mapped by a plan's zone: 10, then 5. A refusal answers its number, its line or 0, and zeros for every other number." The offset at an instant: 10.
use Rattle.std.specs.Prelude.{Bool, true, cond, List, [], ◌∷◌, ◌≡◌, ℕ, ℤ, pos, negsuc, Option, Some, None, Result, Ok, Err}
use Rattle.std.proofs.Math.IntN.{sub_ℕ}
use Rattle.std.specs.Int.Signed.{lt_z, le_z}
use Rattle.load.specs.declared.NotTaken.{NotTaken}
use Rattle.plan.specs.Plan.{PlanInstant, plan_zone}
use Rattle.plan.specs.Taken.{Loaded, taken, refused, load, loaded_number, loaded_line}
use Rattle.plan.specs.declared.Frame.{Frame}
use Rattle.signed.specs.Bias.{unbias_instant}
use Rattle.zone.specs.Stretches.{instant_of_local}
use Rattle.zone.specs.Zone.{bias}
use Rattle.zone.specs.declared.Transition.{Transition}
use Rattle.calendar.specs.Window.{window_minutes}
use Rattle.evandrusk.specs.declared.answers.EvkChecked.{EvkChecked}
use Rattle.evandrusk.specs.declared.answers.EvkFound.{EvkFound}
use Rattle.evandrusk.specs.declared.answers.EvkOffset.{EvkOffset}

-- the load check: 0, or 10 with the line
unfoldable pub check_answer : List ℕ → EvkChecked
check_answer plan = record { number = loaded_number (load plan); line = loaded_line (load plan) }

abbrev pub checked_as : Result ℕ NotTaken → EvkChecked
checked_as (Ok n) = record { number = 0; line = 0 }
checked_as (Err e) = record { number = 10; line = e.line }

-- an instant is answered with 0, and a refusal with its number and line
abbrev pub found_at : ℤ → EvkFound
found_at z = record { number = 0; line = 0; instant = z }

abbrev pub refused_as : ℕ → ℕ → EvkFound
refused_as number line = record { number = number; line = line; instant = pos 0 }

-- `none` is the number where there is no instant: 11 for next and previous, 5 for a local minute outside the window
abbrev pub found_as : ℕ → Result (Option ℕ) NotTaken → EvkFound
found_as none (Ok (Some i)) = found_at (unbias_instant i)
found_as none (Ok None) = refused_as none 0
found_as none (Err e) = refused_as 10 e.line

abbrev pub answer_as : Result (Option ℕ) NotTaken → EvkFound
answer_as r = found_as 11 r

abbrev pub local_as : Result (Option ℕ) NotTaken → EvkFound
local_as r = found_as 5 r

-- an instant of the plan as C gets it
pub record SignedInstant (fs : List Frame) (z : ℤ) : Type 0 where
  pub inside : ℕ
  pub is : PlanInstant fs inside
  pub becomes : unbias_instant inside ≡ z

-- z is the nearest of some instants strictly beyond the asked one: `before` is the order of time for next, and its mirror image for previous
pub record Nearest (before : ℤ → ℤ → Bool) (instants : ℤ → Type 0) (asked z : ℤ) : Type 0 where
  pub is : instants z
  pub beyond : before asked z ≡ true
  pub nearest : (y : ℤ) → instants y → before asked y ≡ true → before y z ≡ true → ⊥

-- 0 with that instant, or 11 where there is none
pub data NearestFound (before : ℤ → ℤ → Bool) (instants : ℤ → Type 0) (asked : ℤ) (r : EvkFound) : Type 0 where
  found : (z : ℤ) → Nearest before instants asked z → r ≡ found_at z → NearestFound before instants asked r
  none : ((z : ℤ) → instants z → before asked z ≡ true → ⊥) → r ≡ refused_as 11 0 → NearestFound before instants asked r

unfoldable pub NearestBy : (ℤ → ℤ → Bool) → Loaded → ℤ → EvkFound → Type 0
NearestBy before (taken fs) asked r = NearestFound before (SignedInstant fs) asked r
NearestBy before (refused k) asked r = r ≡ refused_as 10 k

abbrev pub later : ℤ → ℤ → Bool
later a b = lt_z b a

-- next and previous, of any signed instant
unfoldable pub NextAnswer : List ℕ → ℤ → EvkFound → Type 0
NextAnswer plan asked r = NearestBy lt_z (load plan) asked r

unfoldable pub PreviousAnswer : List ℕ → ℤ → EvkFound → Type 0
PreviousAnswer plan asked r = NearestBy later (load plan) asked r

-- the instant of any signed local minute: a negative one is outside the window too
abbrev pub local_found : Option ℕ → EvkFound
local_found (Some i) = found_at (unbias_instant i)
local_found None = refused_as 5 0

unfoldable pub local_by : Loaded → ℤ → EvkFound
local_by (taken fs) (pos m) = local_found (instant_of_local (plan_zone fs) m)
local_by (taken fs) (negsuc n) = refused_as 5 0
local_by (refused k) z = refused_as 10 k

-- a signed local minute inside: the first past the window for a negative one
abbrev pub minute_of : ℤ → ℕ
minute_of (pos m) = m
minute_of (negsuc n) = window_minutes

unfoldable pub local_answer : List ℕ → ℤ → EvkFound
local_answer plan z = local_by (load plan) z

-- an instant or an offset of a zone as C has it: moved down by a day
abbrev pub moved_down : ℕ → ℤ
moved_down n = sub_ℕ n bias

-- "The offset at an instant is that of the last transition at or before it, else Z's", at any signed instant
unfoldable pub signed_offset : ℤ → List Transition → ℤ → ℤ
signed_offset offset [] z = offset
signed_offset offset (t ∷ ts) z = signed_offset (cond (le_z (moved_down t.at) z) (moved_down t.offset) offset) ts z

-- an offset is answered with 0, and a refusal with its number and line
abbrev pub offset_with : ℕ → ℕ → ℤ → EvkOffset
offset_with number line z = record { number = number; line = line; offset = z }

abbrev pub offset_as : Result ℕ NotTaken → EvkOffset
offset_as (Ok o) = offset_with 0 0 (unbias_instant o)
offset_as (Err e) = offset_with 10 e.line (pos 0)

unfoldable pub offset_by : Loaded → ℤ → EvkOffset
offset_by (taken fs) z = offset_with 0 0 (signed_offset (moved_down (plan_zone fs).first) (plan_zone fs).changes z)
offset_by (refused k) z = offset_with 10 k (pos 0)

unfoldable pub offset_answer : List ℕ → ℤ → EvkOffset
offset_answer plan z = offset_by (load plan) z
