-- Opens every definition of the crate and of those below it at once, for the files that compute them.
use Rattle.plan.specs.Open.{opened as plan-opened}
use Rattle.next.specs.Instants.{NextOf, PreviousOf}
use Rattle.next.specs.Plans.{AnswerBy, NextIn, PreviousIn, local_by, local_in, offset_by, offset_in}

unfoldable pub opened : Unit {0}
unfolding plan-opened NextOf PreviousOf AnswerBy NextIn PreviousIn local_by local_in offset_by offset_in
opened = tt
