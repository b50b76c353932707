-- The frames that a plan may have before its end frame.
use Rattle.std.specs.Prelude.{Bool, true, false, not, ◌&&◌, List, [], ◌∷◌, ℕ, ◌+◌, None, Some}
use Rattle.plan.specs.Taken.{Before, start, frame_good, place, number_good, is_end}
use Rattle.plan.specs.declared.Frame.{Frame}

-- n frames stand before; at the end the end frame has to be in place
unfoldable pub allowed_from : ℕ → Before → List Frame → Bool
allowed_from n before [] = elim (place before (Frame.End n)) [ None ↦ false | Some after ↦ true ]
allowed_from n before (f ∷ fs) =
    elim (place before f) [
      | None ↦ false
      | Some after ↦ not (is_end f) && (frame_good f && (number_good n f && allowed_from (n + 1) after fs))
    ]

unfoldable pub frames_allowed : List Frame → Bool
frames_allowed fs = allowed_from 0 start fs
