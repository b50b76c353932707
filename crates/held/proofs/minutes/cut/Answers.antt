-- A rule ends at its last minute; the other kinds are not cut.
use Rattle.std.proofs.Common.{arith}
use Rattle.held.proofs.Cuts.{rule_cut, rule_whole, other_cut}
use Rattle.held.proofs.minutes.cut.Goals as goal
use Rattle.held.proofs.minutes.cut.Goals.{else-f-eq-RULE-via-then-f-eq-RULE+else-f-end, else-f-eq-RULE-via-else-f-eq-RULE}

pub returns-then-f-end : goal.returns-then-f-end
returns-then-f-end c = rule_cut c.args.f.now (λ e. omega arith) c.if-f-eq-RULE.true c.args.end c.if-f-end.true

pub returns : goal.returns
returns c =
    let a = c.args in
    elim c.else-f-eq-RULE.branch [
      | else-f-eq-RULE-via-then-f-eq-RULE+else-f-end w ↦ rule_whole a.f.now (λ e. omega arith) w.if-f-eq-RULE.true a.end w.if-f-end.false
      | else-f-eq-RULE-via-else-f-eq-RULE w ↦ other_cut a.f.now a.end w.if-f-eq-RULE.false c.requires
    ]
