-- The parts taken up one after the other.
use mathlib.Core.Path.{◌∙◌}
use Rattle.masks.specs.Masks.{mask_from}
use Rattle.sheet.specs.Parts.{given_of, given_twice}
use Rattle.parts.specs.Given.{parts_given}
use Rattle.parts.proofs.Gathered.{parts_taken}
use Rattle.parts.proofs.given.parts_at.Goals as goal

pub returns : goal.returns
unfolding parts_given given_of given_twice mask_from
returns c = c.gather.ensures ∙ parts_taken c.args.s.now c.args.c.at
