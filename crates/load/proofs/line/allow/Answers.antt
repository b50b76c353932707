-- Not good by itself, or of a wrong number.
use mathlib.Core.Bool.{false, ◌&&◌, and-false}
use mathlib.Core.Path.{◌≡◌, sym, ◌∙◌}
use Rattle.plan.specs.Taken.{frame_good, number_good}
use Rattle.load.specs.Loads.{before_of}
use Rattle.load.proofs.Places.{allowed_bad}
use Rattle.load.proofs.line.allow.Goals as goal
use Rattle.load.proofs.line.allow.Goals.{then-not-frame_good-via-then-not-frame_good, then-not-frame_good-via-else-not-frame_good+then-not-number_good}

pub returns-then-not-frame_good : goal.returns-then-not-frame_good
returns-then-not-frame_good c =
    let a = c.args in
    let f = c.in_ok-frame.frame in
    let bad : (frame_good f && number_good a.n f) ≡ false =
    elim c.then-not-frame_good.branch [
      | then-not-frame_good-via-then-not-frame_good w ↦ rw (← c.frame_good.ensures, w.if-not-frame_good.true)
      | then-not-frame_good-via-else-not-frame_good+then-not-number_good w ↦ rw (← w.number_good.ensures, w.if-not-number_good.true) (and-false (frame_good f))
    ] in
    allowed_bad a.n (before_of a.before) a.line.now f (sym c.read.ensures ∙ c.in_ok-frame.was) bad
