-- What reading a line answers.
use Rattle.std.specs.Prelude.{List, ℕ, Option}
use Rattle.plan.specs.Text.{line_frame}
use Rattle.plan.specs.declared.Frame.{Frame}

unfoldable pub line_read : List ℕ → Option Frame
line_read line = line_frame line
