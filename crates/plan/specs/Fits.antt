-- The fields of a frame, each with the bytes that the plan's table gives it.
use Rattle.std.specs.Prelude.{Bool, List, [], ◌∷◌, map, ℕ, zero, suc, ◌-◌, get_or}
use Rattle.calendar.specs.Below.{all_of}
use Rattle.hex_lines.specs.Hex.{Field, fits}
use Rattle.plan.specs.Rows.{as_row}
use Rattle.frames.specs.Kinds.{row_numbers}
use Rattle.plan.specs.declared.Frame.{Frame}

unfoldable pub frame_fields : Frame → List Field
frame_fields (Frame.Offset o) = (2, o) ∷ []
frame_fields (Frame.Change t) = (4, t.at) ∷ (2, t.offset) ∷ []
frame_fields (Frame.Cron f) = (8, f.minutes) ∷ (4, f.hours) ∷ (4, f.days) ∷ (2, f.months) ∷ (1, f.weekdays) ∷ (1, f.flags) ∷ []
frame_fields (Frame.Rule f) =
    (1, f.frequency)
    ∷ (2, f.interval)
    ∷ (4, f.start)
    ∷ (4, f.last)
    ∷ (1, f.weekdays)
    ∷ (4, f.days.front)
    ∷ (4, f.days.back)
    ∷ (5, f.ordinals.front)
    ∷ (5, f.ordinals.back)
    ∷ (4, f.positions.front)
    ∷ (4, f.positions.back)
    ∷ (2, f.months)
    ∷ []
frame_fields (Frame.Extra m) = (4, m) ∷ []
frame_fields (Frame.Excepted m) = (4, m) ∷ []
frame_fields (Frame.End n) = (1, n) ∷ []

-- whether each fits its bytes
unfoldable pub frame_fits : Frame → Bool
frame_fits f = all_of fits (frame_fields f)

-- the bytes of the kind and of each field, as a row
unfoldable pub frame_widths : Frame → List ℕ
unfolding frame_fields
frame_widths f = as_row (1 ∷ map (λ (p : Field). p.0) (frame_fields f))

-- n numbers from place i on, each with its bytes
unfoldable pub pairs_from : List ℕ → List ℕ → ℕ → ℕ → List Field
pairs_from sizes row zero i = []
pairs_from sizes row (suc n) i = (get_or sizes i 0, get_or row i 0) ∷ pairs_from sizes row n (suc i)

-- those of a row from place i on
unfoldable pub pairs_at : List ℕ → List ℕ → ℕ → List Field
pairs_at sizes row i = pairs_from sizes row (row_numbers - i) i
