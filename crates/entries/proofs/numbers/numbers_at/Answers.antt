-- Taken up one after the other, they come to the masks of the whole list.
use Rattle.std.proofs.Common.{◌∙◌}
use Rattle.entries.proofs.Listed.{numbers_taken}
use Rattle.entries.proofs.numbers.numbers_at.Goals as goal

pub returns : goal.returns
returns c = c.gather.ensures ∙ numbers_taken c.args.s.now c.args.c.at
