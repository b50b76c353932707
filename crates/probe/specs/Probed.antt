-- Answers as numbers, for the comparison with the reference.
use Rattle.std.specs.Prelude.{cond, List, ℕ, eqb, Option, Some, None, Result, Ok, Err}
use Rattle.hex_lines.specs.Hex.{put_at, past_put}
use Rattle.line.specs.declared.Before.{Before}
use Rattle.line.specs.declared.Context.{Context}
use Rattle.line.specs.declared.Refusal.{Refusal}
use Rattle.line.specs.Lined.{number_of}
use Rattle.plan.specs.declared.Frame.{Frame}
use Rattle.plan.specs.Text.{whole_line}
use Rattle.probe.specs.declared.ProbeInstant.{ProbeInstant}
use Rattle.probe.specs.declared.ProbeLine.{ProbeLine}

abbrev pub instant_answer : Option ℕ → ProbeInstant
instant_answer (Some i) = record { number = 0; instant = i }
instant_answer None = record { number = 5; instant = 0 }

-- what stands before a line
abbrev pub context_of : ℕ → ℕ → ℕ → ℕ → Context
context_of before changes low offset =
    record { before = cond (eqb before 0) Before.Start (cond (eqb before 1) (Before.Zoned changes) Before.Lines); low = low; offset = offset }

-- the frame's line fills the buffer's front where it fits, a refusal leaves it
abbrev pub line_answer : List ℕ → Result Frame Refusal → ProbeLine
line_answer buf (Ok f) = record { number = 0; length = past_put buf 0 (whole_line f) }
line_answer buf (Err r) = record { number = number_of r; length = 0 }

abbrev pub line_buffer : List ℕ → Result Frame Refusal → List ℕ
line_buffer buf (Ok f) = put_at buf 0 (whole_line f)
line_buffer buf (Err r) = buf
