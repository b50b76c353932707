-- A plan's instants by the rows that the search holds, and that a plan has one answer.
use Rattle.std.specs.Prelude.{Option, Result, Ok, Err}
use mathlib.Core.List.{List, map}
use mathlib.Core.Path.{◌≡◌, sym, ap, ◌∙◌}
use Prim.Native.Nat.{ℕ}
use borrow.Author.Tests.{ltb-true, lt-ltb}
use Rattle.calendar.proofs.Every.{both_true}
use Rattle.held.specs.Lists.{list_held}
use Rattle.load.specs.declared.NotTaken.{NotTaken}
use Rattle.plan.proofs.Rows.{plan_held_by_rows}
use Rattle.plan.specs.Plan.{PlanInstant, plan_zone}
use Rattle.plan.specs.Rows.{row_of}
use Rattle.plan.specs.Taken.{Loaded, taken, refused, load}
use Rattle.plan.specs.declared.Frame.{Frame}
use Rattle.zone.specs.Zone.{in_window}
use Rattle.next.specs.Instants.{InstantOf}
use Rattle.next.specs.Plans.{AnswerBy, NextIn, PreviousIn}
use Rattle.next.proofs.Answered.{next_unique, previous_unique}

-- the instants of the rows
abbrev pub RowInstant : List Frame → ℕ → Type 0
RowInstant fs = InstantOf (list_held (map row_of fs)) (plan_zone fs)

pub plan_of_row : (fs : List Frame) (i : ℕ) → RowInstant fs i → PlanInstant fs i
plan_of_row fs i r =
    record { minute = r.minute; held = plan_held_by_rows fs r.minute ∙ simp (lt-ltb _ _ r.window, r.holds); becomes = r.becomes }

pub row_of_plan : (fs : List Frame) (i : ℕ) → PlanInstant fs i → RowInstant fs i
row_of_plan fs i p =
    let m = p.minute in
    let h = both_true (in_window m) (list_held (map row_of fs) m) (sym (plan_held_by_rows fs m) ∙ p.held) in
    record { minute = m; window = ltb-true m 52596000 h.0; holds = h.1; becomes = p.becomes }

module _ (right : List Frame → Option ℕ → Type 0) (one : (fs : List Frame) (r s : Option ℕ) → right fs r → right fs s → r ≡ s) where
  answer_unique : (l : Loaded) (r s : Result (Option ℕ) NotTaken) → AnswerBy right l r → AnswerBy right l s → r ≡ s
  unfolding AnswerBy
  answer_unique (refused k) r s a b = a ∙ sym b
  answer_unique (taken fs) (Ok r) (Ok s) a b = ap Ok (one fs r s a b)
  answer_unique (taken fs) (Ok r) (Err e) a b = absurd b
  answer_unique (taken fs) (Err e) s a b = absurd a

-- a plan has one next and one previous
module _ (plan : List ℕ) (asked : ℕ) (r s : Result (Option ℕ) NotTaken) where
  pub next_in_unique : NextIn plan asked r → NextIn plan asked s → r ≡ s
  unfolding NextIn
  next_in_unique = answer_unique _ (λ fs. next_unique (PlanInstant fs) asked) (load plan) r s

  pub previous_in_unique : PreviousIn plan asked r → PreviousIn plan asked s → r ≡ s
  unfolding PreviousIn
  previous_in_unique = answer_unique _ (λ fs. previous_unique (PlanInstant fs) asked) (load plan) r s
