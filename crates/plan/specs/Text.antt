-- "The plan": frames as lines of hex, and lines as frames.
use Rattle.std.specs.Prelude.{Bool, cond, ◌&&◌, List, [], ◌∷◌, ◌++◌, ℕ, ◌+◌, ◌-◌, ◌%◌, ◌^◌, eqb, length, Option, None, Some}
use Rattle.frames.specs.declared.Cron.{Cron}
use Rattle.frames.specs.declared.Ends.{Ends}
use Rattle.frames.specs.declared.Rule.{Rule}
use Rattle.hex_lines.specs.Hex.{hex_of, line_bytes, field}
use Rattle.zone.specs.declared.Transition.{Transition}
use Rattle.frames.specs.Kinds.{offset_kind, change_kind, cron_kind, rule_kind, extra_kind, excepted_kind, end_kind}
use Rattle.zone.specs.Zone.{bias}
use Rattle.plan.specs.declared.Frame.{Frame}

-- "Offsets and instants in two's complement": what the inside has moved up by a day, as a number of k bytes
unfoldable pub moved : ℕ → ℕ → ℕ
moved k v = (v + 256 ^ k - bias) % 256 ^ k

-- a frame with its offsets and instants so
unfoldable pub moved_frame : Frame → Frame
moved_frame (Frame.Offset o) = Frame.Offset (moved 2 o)
moved_frame (Frame.Change t) = Frame.Change (record { at = moved 4 t.at; offset = moved 2 t.offset })
moved_frame (Frame.Cron f) = Frame.Cron f
moved_frame (Frame.Rule f) = Frame.Rule f
moved_frame (Frame.Extra m) = Frame.Extra m
moved_frame (Frame.Excepted m) = Frame.Excepted m
moved_frame (Frame.End n) = Frame.End n

-- a frame's line without LF
unfoldable pub frame_line : Frame → List ℕ
frame_line (Frame.Offset o) = hex_of 1 1 ++ hex_of 2 (moved 2 o)
frame_line (Frame.Change t) = hex_of 1 2 ++ (hex_of 4 (moved 4 t.at) ++ hex_of 2 (moved 2 t.offset))
frame_line (Frame.Cron f) =
    hex_of 1 3
    ++ (hex_of 8 f.minutes
    ++ (hex_of 4 f.hours ++ (hex_of 4 f.days ++ (hex_of 2 f.months ++ (hex_of 1 f.weekdays ++ hex_of 1 f.flags)))))
frame_line (Frame.Rule f) =
    hex_of 1 4
    ++ (hex_of 1 f.frequency
    ++ (hex_of 2 f.interval
    ++ (hex_of 4 f.start
    ++ (hex_of 4 f.last
    ++ (hex_of 1 f.weekdays
    ++ (hex_of 4 f.days.front
    ++ (hex_of 4 f.days.back
    ++ (hex_of 5 f.ordinals.front
    ++ (hex_of 5 f.ordinals.back ++ (hex_of 4 f.positions.front ++ (hex_of 4 f.positions.back ++ hex_of 2 f.months)))))))))))
frame_line (Frame.Extra m) = hex_of 1 5 ++ hex_of 4 m
frame_line (Frame.Excepted m) = hex_of 1 6 ++ hex_of 4 m
frame_line (Frame.End n) = hex_of 1 255 ++ hex_of 1 n

-- the line with its LF
abbrev pub whole_line : Frame → List ℕ
whole_line f = frame_line f ++ (10 ∷ [])

-- "One frame a line: upper-case hex digits, LF."
unfoldable pub plan_text : List Frame → List ℕ
plan_text [] = []
plan_text (f ∷ fs) = frame_line f ++ (10 ∷ plan_text fs)

-- a field of two's complement, moved up by a day; `get at k` is the number of the k bytes from a place on
abbrev pub moved_up : (ℕ → ℕ → ℕ) → ℕ → ℕ → ℕ
moved_up get at k = (get at k + bias) % 256 ^ k

abbrev pub change_from : (ℕ → ℕ → ℕ) → Transition
change_from get = record { at = moved_up get 1 4; offset = moved_up get 5 2 }

unfoldable pub cron_from : (ℕ → ℕ → ℕ) → Cron
cron_from get =
    record { minutes = get 1 8; hours = get 9 4; days = get 13 4; months = get 17 2; weekdays = get 19 1; flags = get 20 1 }

-- a field and the same from the end
abbrev pub ends_from : (ℕ → ℕ → ℕ) → ℕ → ℕ → Ends
ends_from get at k = record { front = get at k; back = get (at + k) k }

unfoldable pub rule_from : (ℕ → ℕ → ℕ) → Rule
rule_from get =
    record {
      frequency = get 1 1;
      interval = get 2 2;
      start = get 4 4;
      last = get 8 4;
      weekdays = get 12 1;
      days = ends_from get 13 4;
      ordinals = ends_from get 21 5;
      positions = ends_from get 31 4;
      months = get 39 2;
    }

-- a frame of the listed kinds, each with its length: n bytes, by their fields
unfoldable pub frame_from : (ℕ → ℕ → ℕ) → ℕ → Option Frame
frame_from get n =
    let is : ℕ → ℕ → Bool = λ kind size. eqb (get 0 1) kind && eqb n size in
    cond (is offset_kind 3) (Some (Frame.Offset (moved_up get 1 2)))
    (cond (is change_kind 7) (Some (Frame.Change (change_from get)))
    (cond (is cron_kind 21) (Some (Frame.Cron (cron_from get)))
    (cond (is rule_kind 41) (Some (Frame.Rule (rule_from get)))
    (cond (is extra_kind 5) (Some (Frame.Extra (get 1 4)))
    (cond (is excepted_kind 5) (Some (Frame.Excepted (get 1 4))) (cond (is end_kind 2) (Some (Frame.End (get 1 1))) None))))))

unfoldable pub bytes_frame : List ℕ → Option Frame
bytes_frame b = frame_from (field b) (length b)

unfoldable pub line_frame : List ℕ → Option Frame
line_frame line = elim (line_bytes line) [ None ↦ None | Some bytes ↦ bytes_frame bytes ]
