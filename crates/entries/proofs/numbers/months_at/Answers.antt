-- Taken up one after the other, they come to the masks of the whole list.
use Rattle.std.proofs.Common.{◌∙◌}
use Rattle.entries.proofs.Months.{months_taken}
use Rattle.entries.proofs.numbers.months_at.Goals as goal

pub returns : goal.returns
returns c = c.gather.ensures ∙ months_taken c.args.s.now c.args.c.at
