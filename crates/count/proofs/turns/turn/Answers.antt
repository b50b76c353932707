-- Days, weeks, or every day.
use Rattle.count.proofs.Turning.{daily_turn, weekly_turn, every_turn}
use Rattle.count.proofs.turns.turn.Goals as goal

pub returns-then-f-eq-DAILY : goal.returns-then-f-eq-DAILY
returns-then-f-eq-DAILY c = daily_turn c.args.f.now _ c.stride.ensures c.if-f-eq-DAILY.true

pub returns-then-f-eq-WEEKLY : goal.returns-then-f-eq-WEEKLY
returns-then-f-eq-WEEKLY c =
    weekly_turn c.args.f.now _ c.stride-then-f-eq-WEEKLY.ensures c.if-f-eq-WEEKLY.true

pub returns : goal.returns
returns c = every_turn c.args.f.now c.if-f-eq-DAILY.false c.if-f-eq-WEEKLY.false
