-- No entry goes a way back.
use Rattle.entries.proofs.Listed.{entry_goes_on}
use Rattle.entries.proofs.weekdays.EntriesListed.take.Goals as goal

pub returns-clause-onward : goal.returns-clause-onward
returns-clause-onward c = entry_goes_on c.args.s.now c.args.m c.args.c.at
