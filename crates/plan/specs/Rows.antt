-- A frame as the search holds it: a row of numbers, the first its kind, then its fields in order, then zeros.
use Rattle.std.specs.Prelude.{cond, List, [], ◌∷◌, ◌++◌, ℕ, get_or, take, replicate}
use Rattle.frames.specs.Kinds.{offset_kind, change_kind, cron_kind, rule_kind, extra_kind, excepted_kind, end_kind, row_numbers, is_kind}
use Rattle.frames.specs.Numbers.{cron_of, rule_of, minute_in}
use Rattle.plan.specs.declared.Frame.{Frame}

abbrev pub as_row : List ℕ → List ℕ
as_row l = take row_numbers (l ++ replicate row_numbers 0)

unfoldable pub row_of : Frame → List ℕ
row_of (Frame.Offset o) = as_row (offset_kind ∷ o ∷ [])
row_of (Frame.Change t) = as_row (change_kind ∷ t.at ∷ t.offset ∷ [])
row_of (Frame.Cron f) = as_row (cron_kind ∷ f.minutes ∷ f.hours ∷ f.days ∷ f.months ∷ f.weekdays ∷ f.flags ∷ [])
row_of (Frame.Rule f) =
    as_row
    (rule_kind
    ∷ f.frequency
    ∷ f.interval
    ∷ f.start
    ∷ f.last
    ∷ f.weekdays
    ∷ f.days.front
    ∷ f.days.back
    ∷ f.ordinals.front
    ∷ f.ordinals.back
    ∷ f.positions.front
    ∷ f.positions.back
    ∷ f.months
    ∷ [])
row_of (Frame.Extra m) = as_row (extra_kind ∷ m ∷ [])
row_of (Frame.Excepted m) = as_row (excepted_kind ∷ m ∷ [])
row_of (Frame.End n) = as_row (end_kind ∷ n ∷ [])

-- the frame that a row holds
unfoldable pub frame_in : List ℕ → Frame
frame_in l =
    cond (is_kind offset_kind l) (Frame.Offset (get_or l 1 0))
    (cond (is_kind change_kind l) (Frame.Change (record { at = get_or l 1 0; offset = get_or l 2 0 }))
    (cond (is_kind cron_kind l) (Frame.Cron (cron_of l))
    (cond (is_kind rule_kind l) (Frame.Rule (rule_of l)) (cond (is_kind extra_kind l) (Frame.Extra (minute_in l)) (cond (is_kind excepted_kind l) (Frame.Excepted (minute_in l)) (Frame.End (get_or l 1 0)))))))
