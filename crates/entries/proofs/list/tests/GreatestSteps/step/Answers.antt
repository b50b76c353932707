-- A number takes a byte at least.
use Rattle.std.proofs.Common.{rules, max, ◌≡◌, sym, ◌∙◌, ℕ, Some}
use Rattle.words.specs.Answers.{number_read}
use Rattle.words.specs.Reads.{number_at}
use Rattle.entries.specs.Gathered.{step_of, ended}
use Rattle.entries.proofs.Gathering.{step_onward, number_goes_on}
use Rattle.entries.proofs.list.tests.GreatestSteps.step.Goals as goal

pub returns-clause-onward : goal.returns-clause-onward
returns-clause-onward c = λ r e.
    let s = c.args.self.now.line.now in
    let a : Some (c.max.result, c.in_ok-n.next) ≡ ended (step_of max (λ (e : ℕ). number_read (number_at s e)) c.args.m c.args.c.at) = search rules in
    step_onward (max c.args.m) (number_read (number_at s c.args.c.at)) c.args.c.at (number_goes_on s c.args.c.at) r (sym e ∙ a)
