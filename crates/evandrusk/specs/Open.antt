-- Opens every definition of the crate and of those below it at once, for the files that compute them.
use Rattle.signed.specs.Open.{opened as signed-opened}
use Rattle.calendar.specs.Open.{opened as calendar-opened}
use Rattle.plan.specs.Open.{opened as plan-opened}
use Rattle.evandrusk.specs.Plans.{check_answer, NearestBy, NextAnswer, PreviousAnswer, local_by, local_answer, signed_offset, offset_by, offset_answer}

unfoldable pub opened : Unit {0}
unfolding signed-opened calendar-opened plan-opened check_answer NearestBy NextAnswer PreviousAnswer local_by local_answer signed_offset offset_by offset_answer
opened = tt
