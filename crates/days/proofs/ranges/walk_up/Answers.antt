-- The steps go up from the low end.
use mathlib.Core.Path.{◌≡◌, ap, ◌∙◌}
use Prim.Native.Nat.{ℕ, ◌-◌}
use borrow.Author.Rules.{rules}
use lib.ListN.{length}
use Rattle.frames.specs.Kinds.{row_numbers}
use Rattle.calendar.specs.declared.year.MonthDay.{MonthDay}
use Rattle.days.specs.Steps.{readied}
use Rattle.days.proofs.Readied.{walk_up, found_up}
use Rattle.days.proofs.ranges.walk_up.Goals as goal

pub from_day-requires : goal.from_day-requires
from_day-requires c =
    let a = c.args in
    let r = c.ready-g in
    let n : length r.result ≡ row_numbers = search rules in
    let e =
    r.ensures
    ∙ ap (λ (k : ℕ). readied a.f.now k (a.end - 1)) (ap (λ (q : MonthDay). q.month) c.local_date-last.ensures) in
    rw e (walk_up a.f.now a.low a.end c.requires.0 c.requires.1 c.requires.2 (rw e at n))

pub returns : goal.returns
returns c =
    let a = c.args in
    let r = c.ready-g in
    let n : length r.result ≡ row_numbers = search rules in
    let e =
    r.ensures
    ∙ ap (λ (k : ℕ). readied a.f.now k (a.end - 1)) (ap (λ (q : MonthDay). q.month) c.local_date-last.ensures) in
    found_up a.f.now a.low a.end c.requires.0 c.requires.1 c.requires.2 (rw e at n) _ (rw e at c.from_day.ensures)
