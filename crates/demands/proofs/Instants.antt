-- The frames of a sheet that is taken mean the instants that its lines mean.
use mathlib.Core.List.{List, map}
use mathlib.Core.Path.{◌≡◌, sym, ap, ◌∙◌}
use Prim.Native.Nat.{ℕ}
use Rattle.framed.specs.Framed.{frame_of}
use Rattle.plan.specs.Plan.{PlanInstant, plan_held, plan_zone}
use Rattle.sheet.specs.Form.{Form}
use Rattle.sheet.specs.Meaning.{SheetInstant, sheet_held, sheet_zone}
use Rattle.sheet.specs.Refusals.{taken, read_sheet}
use Rattle.zone.specs.Zone.{Offsets, instant_of}
use Rattle.demands.proofs.Held.{held_same, zone_same}
use Rattle.demands.proofs.Read.{taken_sheet}

module _ (text : List ℕ) (fs : List Form) (e : read_sheet text ≡ taken fs) (i : ℕ) where
  same : (m : ℕ) → plan_held (map frame_of fs) m ≡ sheet_held fs m
  same = held_same fs (taken_sheet text fs e)

  moves : (m : ℕ) → instant_of (plan_zone (map frame_of fs)) m ≡ instant_of (sheet_zone fs) m
  moves m = ap (λ (z : Offsets). instant_of z m) (zone_same fs (taken_sheet text fs e))

  pub plan_of_sheet : SheetInstant fs i → PlanInstant (map frame_of fs) i
  plan_of_sheet s = record { minute = s.minute; held = same s.minute ∙ s.held; becomes = moves s.minute ∙ s.becomes }

  pub sheet_of_plan : PlanInstant (map frame_of fs) i → SheetInstant fs i
  sheet_of_plan p = record { minute = p.minute; held = sym (same p.minute) ∙ p.held; becomes = sym (moves p.minute) ∙ p.becomes }
