-- The steps go down from the day before the end.
use mathlib.Core.Path.{◌≡◌, ap, ◌∙◌}
use Prim.Native.Nat.{ℕ}
use borrow.Author.Rules.{rules}
use lib.ListN.{length}
use Rattle.frames.specs.Kinds.{row_numbers}
use Rattle.calendar.specs.declared.year.MonthDay.{MonthDay}
use Rattle.days.specs.Steps.{readied}
use Rattle.days.proofs.Readied.{walk_down, found_down}
use Rattle.days.proofs.ranges.walk_down.Goals as goal

pub back_from_day-requires : goal.back_from_day-requires
back_from_day-requires c =
    let a = c.args in
    let r = c.ready-g in
    let n : length r.result ≡ row_numbers = search rules in
    let e =
    r.ensures ∙ ap (λ (k : ℕ). readied a.f.now k a.low) (ap (λ (q : MonthDay). q.month) c.local_date-last.ensures) in
    rw e (walk_down a.f.now a.low a.end c.requires.0 c.requires.1 c.requires.2 (rw e at n))

pub returns : goal.returns
returns c =
    let a = c.args in
    let r = c.ready-g in
    let n : length r.result ≡ row_numbers = search rules in
    let e =
    r.ensures
    ∙ ap (λ (k : ℕ). readied a.f.now k a.low) (ap (λ (q : MonthDay). q.month) c.local_date-last.ensures) in
    found_down a.f.now a.low a.end c.requires.0 c.requires.1 c.requires.2 (rw e at n) _ (rw e at c.back_from_day.ensures)
