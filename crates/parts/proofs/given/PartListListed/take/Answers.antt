-- No part goes a way back.
use Rattle.parts.proofs.Gathered.{part_goes_on}
use Rattle.parts.proofs.given.PartListListed.take.Goals as goal

pub returns-clause-onward : goal.returns-clause-onward
returns-clause-onward c = part_goes_on c.args.s.now c.args.m c.args.c.at
