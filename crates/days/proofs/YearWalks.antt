-- A walk from year to year: what is passed before a part of a range and after it, and the days of one year.
use mathlib.Core.Bool.{Bool, true, false, false≢true}
use mathlib.Core.List.{List}
use mathlib.Core.Logic.{dite}
use mathlib.Core.Path.{◌≡◌}
use Prim.Native.Nat.{ℕ, ◌+◌, ◌*◌, ◌/◌, ◌<◌, ◌≤◌}
use native.Mathlib.Decide.{dec_lt}
use native.Mathlib.Omega.{arith}
use borrow.Author.Tests.{eqb-true}
use Rattle.calendar.proofs.Every.{both_true}
use Rattle.calendar.proofs.Leasts.{Least, Last, least_none, last_none}
use Rattle.calendar.proofs.Windows.{month_first_mono, month_first_next}
use Rattle.calendar.specs.Window.{local_date}
use Rattle.frames.specs.Kinds.{rule_kind, yearly_number, kind_in, frequency_in, is_kind}
use Rattle.frames.specs.Years.{yearly, year_placed}
use Rattle.days.specs.Steps.{Holds, Passed, OneYear, year_first, year_past}
use Rattle.days.proofs.Answers.{holds_at}
use Rattle.days.proofs.Walks.{month_rises}

pub passed_join : (held : ℕ → Bool) (a b c : ℕ) → Passed held a b → Passed held b c → Passed held a c
passed_join held a b c p q =
    record {
      rises = omega (arith, p.rises, q.rises);
      none = λ j l h t. dite (dec_lt j b) (λ (g : j < b). p.none j l g t) (λ (g : j < b → ⊥). q.none j (omega arith) h t);
    }

-- the years of a day
module _ (d : ℕ) (h : d < 36525) where
  here : Holds (local_date d).month d
  here = (holds_at d h).0

  abbrev y : ℕ
  y = (local_date d).month / 12

  pub from_year_first : year_first d ≤ d
  from_year_first = omega (arith, here.from, month_first_mono (y * 12) (local_date d).month (omega arith) (omega (arith, here.month)))

  pub before_year_past : d < year_past d
  before_year_past =
      omega (
        arith,
        here.to,
        month_first_next (local_date d).month here.month,
        month_first_mono ((local_date d).month + 1) (y * 12 + 12) (omega arith) (omega (arith, here.month)),
      )

  -- a later day before the year's end, and an earlier one from its start on
  later_month : (e : ℕ) → Holds (local_date e).month e → e < year_past d → (local_date e).month < y * 12 + 12
  later_month e g t =
      dite (dec_lt (local_date e).month (y * 12 + 12)) (λ (l : (local_date e).month < y * 12 + 12). l)
      (λ (l : (local_date e).month < y * 12 + 12 → ⊥).
      absurd (omega (arith, g.from, month_first_mono (y * 12 + 12) (local_date e).month (omega arith) (omega (arith, g.month)))))

  earlier_month : (e : ℕ) → Holds (local_date e).month e → year_first d ≤ e → y * 12 ≤ (local_date e).month
  earlier_month e g t =
      dite (dec_lt (local_date e).month (y * 12))
      (λ (l : (local_date e).month < y * 12).
      absurd
      (omega (
        arith,
        g.to,
        month_first_next (local_date e).month g.month,
        month_first_mono ((local_date e).month + 1) (y * 12) (omega arith) (omega (arith, here.month)),
      )))
      (λ (l : (local_date e).month < y * 12 → ⊥). omega arith)

  pub one_year_up : (l : List ℕ) (e : ℕ) → d ≤ e → e < 36525 → e < year_past d → OneYear l d e
  one_year_up l e b t p =
      let g = (holds_at e t).0 in
      let r = month_rises (local_date d).month (local_date e).month d e here g b in
      let m = later_month e g p in
      record { same = λ _. omega arith }

  pub one_year_down : (l : List ℕ) (e : ℕ) → e ≤ d → year_first d ≤ e → OneYear l e d
  one_year_down l e b p =
      let g = (holds_at e (omega arith)).0 in
      let r = month_rises (local_date e).month (local_date d).month e d g here b in
      let m = earlier_month e g p in
      record { same = λ _. omega arith }

-- what is found in a part of a range, with what is passed before it, or after it
module _ (held : ℕ → Bool) (low end : ℕ) (top : end ≤ 36525) where
  pub least_passed_all : low ≤ end → (from : ℕ) → Passed held low from → end ≤ from → Least held low end end
  least_passed_all h from p g = least_none held low end h (λ j a b. p.none j a (omega arith) (omega arith))

  pub least_in_part : (first past r : ℕ) → Passed held low first → past ≤ end → Least held first past r → r < past → Least held low end r
  least_in_part first past r p b a g =
      record {
        from = omega (arith, p.rises, a.from);
        to = omega arith;
        passes = λ _. a.passes g;
        fails = λ j l h. dite (dec_lt j first) (λ (i : j < first). p.none j l i (omega arith)) (λ (i : j < first → ⊥). a.fails j (omega arith) h);
      }

  pub last_passed_all : low ≤ end → (past : ℕ) → Passed held past end → past ≤ low → Last held low end low
  last_passed_all h past p g = last_none held low end h (λ j a b. p.none j (omega arith) b (omega arith))

  pub last_in_part : (first past r : ℕ) → low ≤ first → Passed held past end → Last held first past r → first < r → Last held low end r
  last_in_part first past r b p a g =
      record {
        from = omega arith;
        to = omega (arith, p.rises, a.to);
        passes = λ _. a.passes g;
        fails = λ j l h. dite (dec_lt j past) (λ (i : j < past). a.fails j l i) (λ (i : j < past → ⊥). p.none j (omega arith) h (omega arith));
      }

-- a part in which nothing is found is passed
pub part_passed_up : (held : ℕ → Bool) (first past r : ℕ) → first ≤ past → Least held first past r → past ≤ r → Passed held first past
part_passed_up held first past r h a g = record { rises = h; none = λ j l b t. a.fails j l (omega arith) }

pub part_passed_down : (held : ℕ → Bool) (first past r : ℕ) → first ≤ past → Last held first past r → r ≤ first → Passed held first past
part_passed_down held first past r h a g = record { rises = h; none = λ j l b t. a.fails j (omega arith) b }

-- a yearly rule's kind and frequency
pub yearly_kind : (l : List ℕ) → yearly l ≡ true → (kind_in l ≡ rule_kind) × (frequency_in l ≡ yearly_number)
yearly_kind l e = let p = both_true (is_kind rule_kind l) _ e in (eqb-true (kind_in l) rule_kind p.0, eqb-true (frequency_in l) yearly_number p.1)

-- a frame that is no yearly rule has no positions of a year
pub any_years : (l : List ℕ) (d e : ℕ) → yearly l ≡ false → OneYear l d e
unfolding year_placed
any_years l d e f = record { same = λ p. absurd (false≢true (rw f at p)) }
