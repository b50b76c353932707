-- A cron frame's minutes by its masks, a rule's its one time of day, any other kind's none.
use Prim.Native.Nat.{◌%◌}
use native.Mathlib.Omega.{arith}
use lib.Dec.{eqb}
use lib.ListN.{get_or}
use Rattle.calendar.proofs.Leasts.{last_same, last_none}
use Rattle.masks.proofs.Times.{last_time_last}
use Rattle.masks.specs.Times.{time_held}
use Rattle.held.specs.Minutes.{time_part}
use Rattle.held.proofs.Cuts.{cron_time_lem, rule_time, no_time}
use Rattle.held.proofs.times.last_time.Goals as goal

pub returns-then-f-eq-CRON : goal.returns-then-f-eq-CRON
returns-then-f-eq-CRON c =
    let l = c.args.f.now in
    let t = c.args.t in
    last_same (time_held (get_or l 2 0) (get_or l 1 0)) (time_part l) 0 t _ (λ j u v. cron_time_lem l c.if-f-eq-CRON.true j)
    (rw (c.last.ensures, c.times_of.ensures) (last_time_last (get_or l 2 0) (get_or l 1 0) t c.requires))

pub returns-then-f-eq-RULE : goal.returns-then-f-eq-RULE
returns-then-f-eq-RULE c =
    let l = c.args.f.now in
    let t = c.args.t in
    last_same (λ j. eqb j (get_or l 3 0 % 1440)) (time_part l) 0 t _
    (λ j u v. rule_time l c.if-f-eq-CRON.false c.if-f-eq-RULE.true j) c.last_one.ensures

pub returns : goal.returns
returns c =
    let l = c.args.f.now in
    let t = c.args.t in
    last_none (time_part l) 0 t (omega arith) (λ j u v. no_time l c.if-f-eq-CRON.false c.if-f-eq-RULE.false j)
