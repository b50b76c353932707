-- Opens every definition of the crate and of those below it at once, for the files that compute them.
use Rattle.framed.specs.Open.{opened as framed-opened}
use Rattle.compile.specs.Compiled.{compiled_frames, compiled_text, compile}
use Rattle.compile.specs.Reading.{sheet_frames_from, sheet_frames, frames_from, frames_read}
use Rattle.compile.specs.Reasons.{reason_with}

unfoldable pub opened : Unit {0}
unfolding framed-opened compiled_frames compiled_text compile sheet_frames_from sheet_frames frames_from frames_read reason_with
opened = tt
