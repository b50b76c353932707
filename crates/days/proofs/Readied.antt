-- A frame made ready for a walk: its own numbers stay, so it holds the same days.
use mathlib.Core.Bool.{true}
use mathlib.Core.List.{List}
use mathlib.Core.Path.{◌≡◌, sym, ap, ◌∙◌}
use Prim.Native.Nat.{ℕ, ◌+◌, ◌-◌, ◌/◌, ◌<◌, ◌≤◌}
use native.Mathlib.Omega.{arith}
use lib.ListN.{length, get_or, set, length-set}
use lib.Seq.{get_or-set_same, get_or-set_other}
use Rattle.calendar.proofs.Leasts.{Least, Last, least_same, last_same}
use Rattle.calendar.specs.Window.{local_date}
use Rattle.frames.specs.Kinds.{row_numbers, kind_in}
use Rattle.frames.specs.Numbers.{cron_of, rule_of, day_held, start_month}
use Rattle.frames.specs.Years.{year_placed, year_counts}
use Rattle.days.specs.Steps.{Holds, Ready, InYear, OneYear, readied, start_month_in, last_month_in, last_day_in, counts_in}
use Rattle.days.proofs.Answers.{holds_at}

module _ (l : List ℕ) (month day : ℕ) where
  -- the row after each of the four numbers
  abbrev one : List ℕ
  one = set l 14 (start_month l)

  abbrev two : List ℕ
  two = set one 15 month

  abbrev three : List ℕ
  three = set two 16 day

  -- the numbers before the fourteenth are the frame's
  kept : (i : ℕ) → i < 14 → get_or (readied l month day) i 0 ≡ get_or l i 0
  unfolding readied
  kept i h =
      get_or-set_other three 17 i (year_counts l (month / 12)) 0 (λ e. omega (arith, e))
      ∙ get_or-set_other two 16 i day 0 (λ e. omega (arith, e))
      ∙ get_or-set_other one 15 i month 0 (λ e. omega (arith, e))
      ∙ get_or-set_other l 14 i (start_month l) 0 (λ e. omega (arith, e))

  kind_kept : kind_in (readied l month day) ≡ kind_in l
  kind_kept = kept 0 (omega arith)

  cron_kept : cron_of (readied l month day) ≡ cron_of l
  cron_kept =
      rw (kept 1 (omega arith), kept 2 (omega arith), kept 3 (omega arith), kept 4 (omega arith), kept 5 (omega arith), kept 6 (omega arith))

  rule_kept : rule_of (readied l month day) ≡ rule_of l
  rule_kept =
      rw (
        kept 1 (omega arith),
        kept 2 (omega arith),
        kept 3 (omega arith),
        kept 4 (omega arith),
        kept 5 (omega arith),
        kept 6 (omega arith),
        kept 7 (omega arith),
        kept 8 (omega arith),
        kept 9 (omega arith),
        kept 10 (omega arith),
        kept 11 (omega arith),
        kept 12 (omega arith),
      )

  start_kept : start_month (readied l month day) ≡ start_month l
  unfolding start_month
  start_kept = ap (λ (n : ℕ). (local_date (n / 1440)).month) (kept 3 (omega arith))

  pub readied_held : (d : ℕ) → day_held (readied l month day) d ≡ day_held l d
  unfolding day_held
  readied_held d = rw (kind_kept, cron_kept, rule_kept)

  placed_kept : year_placed (readied l month day) ≡ year_placed l
  unfolding year_placed
  placed_kept = rw (kind_kept, kept 1 (omega arith), kept 10 (omega arith), kept 11 (omega arith))

  counts_kept : (y : ℕ) → year_counts (readied l month day) y ≡ year_counts l y
  unfolding year_counts
  counts_kept y = rw (placed_kept, rule_kept)

  module _ (long : length (readied l month day) ≡ row_numbers) where
    n : length l ≡ row_numbers
    unfolding readied
    n = simp length-set at long

    start_in_lem : start_month_in (readied l month day) ≡ start_month l
    unfolding readied
    start_in_lem =
        get_or-set_other three 17 14 (year_counts l (month / 12)) 0 (λ e. omega (arith, e))
        ∙ get_or-set_other two 16 14 day 0 (λ e. omega (arith, e))
        ∙ get_or-set_other one 15 14 month 0 (λ e. omega (arith, e))
        ∙ get_or-set_same l 14 (start_month l) 0 (omega (arith, n))

    month_in : last_month_in (readied l month day) ≡ month
    unfolding readied
    month_in =
        get_or-set_other three 17 15 (year_counts l (month / 12)) 0 (λ e. omega (arith, e))
        ∙ get_or-set_other two 16 15 day 0 (λ e. omega (arith, e))
        ∙ get_or-set_same one 15 month 0 (omega (arith, n, length-set l 14 (start_month l)))

    pub day_in_lem : last_day_in (readied l month day) ≡ day
    unfolding readied
    day_in_lem =
        get_or-set_other three 17 16 (year_counts l (month / 12)) 0 (λ e. omega (arith, e))
        ∙ get_or-set_same two 16 day 0 (omega (arith, n, length-set l 14 (start_month l), length-set one 15 month))

    counts_in_lem : counts_in (readied l month day) ≡ year_counts l (month / 12)
    unfolding readied
    counts_in_lem =
        get_or-set_same three 17 (year_counts l (month / 12)) 0
        (omega (arith, n, length-set l 14 (start_month l), length-set one 15 month, length-set two 16 day))

    pub readied_ready : Holds month day → Ready (readied l month day)
    readied_ready h =
        record {
          begun = start_in_lem ∙ sym start_kept;
          ends = rw (month_in, day_in_lem) h;
          counted = rw (month_in, counts_kept (month / 12)) counts_in_lem;
        }

    pub readied_year : (k : ℕ) → (year_placed l ≡ true → k / 12 ≡ month / 12) → InYear (readied l month day) k
    readied_year k e = record { same = λ p. rw month_in (e (sym placed_kept ∙ p)) }

-- a walk over the days from low up to end, and what it finds of the frame
module _ (l : List ℕ) (low end : ℕ) (h : low < end) (t : end ≤ 36525) (o : OneYear l low (end - 1)) where
  module _ (n : length (readied l (local_date (end - 1)).month (end - 1)) ≡ row_numbers) where
    pub walk_up : (Ready (readied l (local_date (end - 1)).month (end - 1)))
        × (low ≤ last_day_in (readied l (local_date (end - 1)).month (end - 1)))
        × (InYear (readied l (local_date (end - 1)).month (end - 1)) (local_date low).month)
    walk_up = (
      readied_ready l _ _ n (holds_at (end - 1) (omega arith)).0,
      rw (day_in_lem l (local_date (end - 1)).month (end - 1) n) (omega arith),
      readied_year l _ _ n (local_date low).month o.same,
    )

    pub found_up : (r : ℕ)
        → Least (day_held (readied l (local_date (end - 1)).month (end - 1))) low (last_day_in (readied l (local_date (end - 1)).month (end - 1)) + 1) r
        → Least (day_held l) low end r
    found_up r a =
        let e : last_day_in (readied l (local_date (end - 1)).month (end - 1)) + 1 ≡ end =
        omega (arith, day_in_lem l (local_date (end - 1)).month (end - 1) n) in
        least_same _ (day_held l) low end r (λ j b c. readied_held l (local_date (end - 1)).month (end - 1) j) (rw e at a)

  module _ (n : length (readied l (local_date low).month low) ≡ row_numbers) where
    pub walk_down : (Ready (readied l (local_date low).month low))
        × (last_day_in (readied l (local_date low).month low) ≤ end - 1)
        × (end - 1 < 36525)
        × (InYear (readied l (local_date low).month low) (local_date (end - 1)).month)
    walk_down = (
      readied_ready l _ _ n (holds_at low (omega arith)).0,
      rw (day_in_lem l (local_date low).month low n) (omega arith),
      omega arith,
      readied_year l _ _ n (local_date (end - 1)).month (λ p. sym (o.same p)),
    )

    pub found_down : (r : ℕ)
        → Last (day_held (readied l (local_date low).month low)) (last_day_in (readied l (local_date low).month low)) (end - 1 + 1) r
        → Last (day_held l) low end r
    found_down r a =
        let e : end - 1 + 1 ≡ end = omega arith in
        last_same _ (day_held l) low end r (λ j b c. readied_held l (local_date low).month low j) (rw (day_in_lem l (local_date low).month low n, e) at a)
