-- What one line more does to what the lines before it leave.
use Rattle.std.specs.Prelude.{Bool, true, ◌&&◌, List, ℕ, ◌+◌, leb, ltb, length, set, Result, Ok, Err}
use Rattle.calendar.specs.Window.{window_last}
use Rattle.line.specs.declared.Before.{Before}
use Rattle.line.specs.declared.Context.{Context}
use Rattle.line.specs.declared.Refusal.{Refusal}
use Rattle.plan.specs.Rows.{row_of}
use Rattle.plan.specs.Text.{whole_line}
use Rattle.plan.specs.declared.Frame.{Frame}
use Rattle.zone.specs.Zone.{bias, distance, most_changes}
use Rattle.compile.specs.declared.step.State.{State}

abbrev pub one_more : Before → Before
one_more Before.Start = Before.Lines
one_more (Before.Zoned k) = Before.Zoned (k + 1)
one_more Before.Lines = Before.Lines

abbrev pub lines_after : Context → Context
lines_after c = record { before = Before.Lines; low = c.low; offset = c.offset }

-- what stands before the line after a frame's
abbrev pub next_context : Context → Frame → Context
next_context c (Frame.Offset o) = record { before = Before.Zoned 0; low = 0; offset = o }
next_context c (Frame.Change t) = record { before = one_more c.before; low = t.at + distance; offset = t.offset }
next_context c (Frame.Cron f) = lines_after c
next_context c (Frame.Rule f) = lines_after c
next_context c (Frame.Extra m) = lines_after c
next_context c (Frame.Excepted m) = lines_after c
next_context c (Frame.End n) = lines_after c

-- whether one more transition can be counted there; elsewhere than after the zone none stands
abbrev pub room_for : Before → Bool
room_for Before.Start = true
room_for (Before.Zoned k) = ltb k most_changes
room_for Before.Lines = true

-- what a frame of a line that is taken keeps: a transition has room, and is of the window
abbrev pub frame_fits : Context → Frame → Bool
frame_fits c (Frame.Offset o) = true
frame_fits c (Frame.Change t) = room_for c.before && leb t.at (bias + window_last)
frame_fits c (Frame.Cron f) = true
frame_fits c (Frame.Rule f) = true
frame_fits c (Frame.Extra m) = true
frame_fits c (Frame.Excepted m) = true
frame_fits c (Frame.End n) = true

-- "One frame for each sheet line": its row, and its plan line's bytes
abbrev pub stepped : State → Result Frame Refusal → Result State Refusal
stepped s (Ok f) =
    Ok (record { context = next_context s.context f; lines = s.lines + 1; frames = s.frames + 1; bytes = s.bytes + length (whole_line f) })
stepped s (Err refusal) = Err refusal

abbrev pub rows_with : List (List ℕ) → ℕ → Result Frame Refusal → List (List ℕ)
rows_with rows n (Ok f) = set rows n (row_of f)
rows_with rows n (Err refusal) = rows
