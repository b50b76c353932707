-- What compiling answers, and what it leaves in the buffer.
use Rattle.std.specs.Prelude.{List, map, ◌++◌, ℕ, length, take, drop, Result, Ok, Err}
use Rattle.plan.specs.Rows.{frame_in}
use Rattle.plan.specs.declared.Frame.{Frame}
use Rattle.compile.specs.Compiled.{Compiled, plan, refusal}
use Rattle.compile.specs.Reasons.{refusal_as}
use Rattle.compile.specs.declared.Refusal.{Refusal}

-- the plan's length, or the refusal
abbrev pub compiled_as : Compiled → Result ℕ Refusal
compiled_as (plan p) = Ok (length p)
compiled_as (refusal number line at size) = Err (refusal_as number line at size)

-- the plan in front and the rest unchanged; on a refusal no byte is changed
abbrev pub left_in : List ℕ → Compiled → List ℕ
left_in buffer (plan p) = p ++ drop (length p) buffer
left_in buffer (refusal number line at size) = buffer

-- the frames that the first rows hold
abbrev pub frames_in : List (List ℕ) → ℕ → List Frame
frames_in rows n = map frame_in (take n rows)
